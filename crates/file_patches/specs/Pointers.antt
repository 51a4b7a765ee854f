-- JSON Pointers (RFC 6901): a text as its parts. From the end: `pointer`, `unescaped`.
use Rattle.std.specs.Prelude.{ℕ, Bool, ◌==◌, if◌then◌else◌, List, [], ◌∷◌, Option, Some, None, option_map}
use Rattle.std.specs.Prelude.{option_and_then}
use Rattle.std.specs.List.{slice_split}

-- the text behind this byte, where it begins with it
abbrev pub behind : ℕ → List ℕ → Option (List ℕ)
behind b [] = None
behind b (c ∷ cs) = if c == b then Some cs else None

-- a part without its escapes: `~0` is a tilde and `~1` a slash, and no other tilde may stand there
abbrev mutual
  pub unescaped : List ℕ → Option (List ℕ)
  unescaped [] = Some []
  unescaped (c ∷ cs) = if c == 126 then after_tilde cs else option_map (λ s. c ∷ s) (unescaped cs)

  pub after_tilde : List ℕ → Option (List ℕ)
  after_tilde [] = None
  after_tilde (c ∷ cs) =
      if c == 48 then option_map (λ s. 126 ∷ s) (unescaped cs) else
      if c == 49 then option_map (λ s. 47 ∷ s) (unescaped cs) else None

abbrev pub is_slash : ℕ → Bool
is_slash c = c == 47

abbrev pub all_unescaped : List (List ℕ) → Option (List (List ℕ))
all_unescaped [] = Some []
all_unescaped (s ∷ ss) = option_and_then (λ n. option_map (λ ns. n ∷ ns) (all_unescaped ss)) (unescaped s)

-- the parts of a text: none of the empty one, and otherwise one behind each slash, where it begins with a slash
abbrev pub pointer : List ℕ → Option (List (List ℕ))
pointer [] = Some []
pointer (c ∷ cs) = if c == 47 then all_unescaped (slice_split is_slash cs) else None
