-- Parts of a pointer that are read piece by piece.
use Rattle.std.proofs.Common.{◌≡◌, ℕ, suc, ◌+◌, ◌<◌, ◌≤◌, add-one, one-add, ap₂, eqb, Bool, true, false, List, [], ◌∷◌, ◌++◌, drop, length, get_or, append_assoc, append-nil, option_map, Option, Some, None, MatchOption, IfSome, Bor, length-drop, refl, sym, ap, ◌∙◌, arith}
use Rattle.std.proofs.lemmas.List.{drop_all}
use Rattle.std.specs.Option.{option_and_then}
use Rattle.std.specs.List.{position_or_len, before_first, after_first}
use Rattle.file_patches.specs.Pointers.{unescaped, after_tilde, all_unescaped}
use Rattle.file_patches.proofs.Loops.{left_from}

map_twice : {A B C : Type 0} (f : B → C) (g : A → B) (o : Option A) → option_map f (option_map g o) ≡ option_map (λ a. f (g a)) o
map_twice f g None = refl
map_twice f g (Some a) = refl

map_none : {A : Type 0} (o : Option (List A)) → option_map (λ s. [] ++ s) o ≡ o
map_none None = refl
map_none (Some s) = refl

abbrev pub is_tilde : ℕ → Bool
is_tilde c = eqb c 126

abbrev pub split_unescaped : List ℕ → Option (List ℕ)
split_unescaped s = option_map (λ t. before_first is_tilde s ++ t) (after_tilde (after_first is_tilde s))

-- what stands in front of a tilde that is not the first character, and behind it
before_later : (c : ℕ) (cs : List ℕ) → eqb c 126 ≡ false → before_first is_tilde (c ∷ cs) ≡ c ∷ before_first is_tilde cs
before_later c cs e = rw (e, one-add) refl

after_later : (c : ℕ) (cs : List ℕ) → eqb c 126 ≡ false → after_first is_tilde (c ∷ cs) ≡ after_first is_tilde cs
after_later c cs e = rw (e, one-add, add-one, add-one) refl

place_later : (c : ℕ) (cs : List ℕ) → eqb c 126 ≡ false → position_or_len is_tilde (c ∷ cs) ≡ suc (position_or_len is_tilde cs)
place_later c cs e = rw (e, one-add) refl

first_by : (b : Bool) (c : ℕ) (cs : List ℕ) → eqb c 126 ≡ b → (b ≡ false → unescaped cs ≡ split_unescaped cs) → unescaped (c ∷ cs) ≡ split_unescaped (c ∷ cs)
first_by true c cs e h = rw e (sym (map_none (after_tilde cs)))
first_by false c cs e h =
    let here : unescaped (c ∷ cs) ≡ option_map (λ s. c ∷ s) (unescaped cs) = rw e refl in
    here ∙ ap (option_map (λ s. c ∷ s)) (h refl) ∙ map_twice (λ s. c ∷ s) (λ t. before_first is_tilde cs ++ t) (after_tilde (after_first is_tilde cs))
    ∙ sym (ap₂ (λ b a. option_map (λ t. b ++ t) (after_tilde a)) (before_later c cs e) (after_later c cs e))

-- a part in front of its first tilde and behind it
pub unescaped_first : (s : List ℕ) → position_or_len is_tilde s < length s → unescaped s ≡ split_unescaped s
unescaped_first [] h = absurd (omega arith)
unescaped_first (c ∷ cs) h =
    first_by (eqb c 126) c cs refl (λ e. unescaped_first cs (let g = place_later c cs e in omega (arith, h, g)))

plain_by : (b : Bool) (c : ℕ) (cs : List ℕ) → eqb c 126 ≡ b → position_or_len is_tilde (c ∷ cs) ≡ length (c ∷ cs) → (position_or_len is_tilde cs ≡ length cs → unescaped cs ≡ Some cs) → unescaped (c ∷ cs) ≡ Some (c ∷ cs)
plain_by true c cs e h k = let g : position_or_len is_tilde (c ∷ cs) ≡ 0 = rw e refl in absurd (omega (arith, g, h))
plain_by false c cs e h k =
    let g = place_later c cs e in
    rw e (ap (option_map (λ s. c ∷ s)) (k (omega (arith, g, h))))

-- a part with no tilde
pub unescaped_plain : (s : List ℕ) → position_or_len is_tilde s ≡ length s → unescaped s ≡ Some s
unescaped_plain [] h = refl
unescaped_plain (c ∷ cs) h = plain_by (eqb c 126) c cs refl h (unescaped_plain cs)

-- ---- the parts one after another

abbrev pub parts_from : List (List ℕ) → List (List ℕ) → Option (List (List ℕ))
parts_from ns ss = option_map (λ ms. ns ++ ms) (all_unescaped ss)

abbrev part_by : List (List ℕ) → Option (List (List ℕ)) → Option (List ℕ) → Option (List (List ℕ))
part_by ns rest o = option_map (λ ms. ns ++ ms) (option_and_then (λ n. option_map (λ ms. n ∷ ms) rest) o)

one_more : (ns : List (List ℕ)) (n : List ℕ) (o : Option (List (List ℕ))) → option_map (λ ms. ns ++ ms) (option_map (λ ms. n ∷ ms) o) ≡ option_map (λ ms. (ns ++ n ∷ []) ++ ms) o
one_more ns n None = refl
one_more ns n (Some ms) = ap Some (sym (append_assoc ns (n ∷ []) ms))

first_part : (ns ss : List (List ℕ)) (i : ℕ) (s : List ℕ) → i < length ss → s ≡ get_or ss i s → parts_from ns (drop i ss) ≡ part_by ns (all_unescaped (drop (i + 1) ss)) (unescaped s)
first_part ns ss i s h e = ap (parts_from ns) (left_from ss i s h e)

pub next_part : (ns ss : List (List ℕ)) (i : ℕ) (s n : List ℕ) → i < length ss → s ≡ get_or ss i s → unescaped s ≡ Some n → parts_from ns (drop i ss) ≡ parts_from (ns ++ n ∷ []) (drop (i + 1) ss)
next_part ns ss i s n h e u =
    first_part ns ss i s h e ∙ ap (part_by ns (all_unescaped (drop (i + 1) ss))) u ∙ one_more ns n (all_unescaped (drop (i + 1) ss))

pub part_refused : (ns ss : List (List ℕ)) (i : ℕ) (s : List ℕ) → i < length ss → s ≡ get_or ss i s → unescaped s ≡ None → parts_from ns (drop i ss) ≡ None
part_refused ns ss i s h e u = first_part ns ss i s h e ∙ ap (part_by ns (all_unescaped (drop (i + 1) ss))) u

pub parts_done : (ns ss : List (List ℕ)) (i : ℕ) → length ss ≤ i → parts_from ns (drop i ss) ≡ Some ns
parts_done ns ss i h = ap (parts_from ns) (drop_all i ss h) ∙ ap Some (append-nil ns)

-- ---- the first tilde of a text

abbrev pub SplitsFirst : List ℕ → Option (Bor (List ℕ) × Bor (List ℕ)) → Type 0
SplitsFirst bs r = MatchOption r (position_or_len is_tilde bs ≡ length bs)
    (λ x. (position_or_len is_tilde bs < length bs) × (x.0.now ≡ before_first is_tilde bs) × (x.1.now ≡ after_first is_tilde bs))

pub tilde_cut : (bs : List ℕ) (r : Option (Bor (List ℕ) × Bor (List ℕ))) → SplitsFirst bs r → MatchOption r (unescaped bs ≡ Some bs) (λ p. unescaped bs ≡ option_map (λ s. p.0.now ++ s) (after_tilde p.1.now))
tilde_cut bs None h = unescaped_plain bs h
tilde_cut bs (Some p) h =
    unescaped_first bs h.0 ∙ sym (ap₂ (λ b a. option_map (λ s. b ++ s) (after_tilde a)) h.1 h.2)

pub tilde_shorter : (bs : List ℕ) (r : Option (Bor (List ℕ) × Bor (List ℕ))) → SplitsFirst bs r → IfSome r (λ p. length p.1.now < length bs)
tilde_shorter bs None h = tt
tilde_shorter bs (Some p) h =
    let size = ap length h.2 ∙ length-drop (position_or_len is_tilde bs + 1) bs in
    omega (arith, size, h.0)
