-- What runs say of two texts: `Spans`. A text is the list of its characters here.
use Rattle.std.specs.Prelude.{◌≡◌, ℕ, ◌+◌, List, [], ◌∷◌, ◌++◌, length, take, drop}
use Rattle.bridge_texts.specs.declared.run.Run.{Run}
use Rattle.bridge_texts.specs.declared.run.Run.TheVariants.{Kept, Added, Gone}
use Rattle.bridge_texts.specs.declared.run.End.{End}
use Rattle.bridge_texts.specs.declared.run.End.TheVariants.{Near, Far}

-- both texts begin with the same n characters, and what follows is related by `rest`
pub record KeepsRun (n : ℕ) (rest : List ℕ → List ℕ → Type 0) (s t : List ℕ) : Type 0 where
  pub part : List ℕ
  pub near : List ℕ
  pub far : List ℕ
  pub size : length part ≡ n
  pub near_is : s ≡ part ++ near
  pub far_is : t ≡ part ++ far
  pub goes_on : rest near far

-- the far text begins with n characters that the near one has not
pub record AddsRun (n : ℕ) (rest : List ℕ → List ℕ → Type 0) (s t : List ℕ) : Type 0 where
  pub part : List ℕ
  pub far : List ℕ
  pub size : length part ≡ n
  pub far_is : t ≡ part ++ far
  pub goes_on : rest s far

-- the near text begins with n characters that the far one has no more
pub record LosesRun (n : ℕ) (rest : List ℕ → List ℕ → Type 0) (s t : List ℕ) : Type 0 where
  pub part : List ℕ
  pub near : List ℕ
  pub size : length part ≡ n
  pub near_is : s ≡ part ++ near
  pub goes_on : rest near t

-- the runs lead from the near text to the far one, and what is behind the last of them is related by `ends`
abbrev pub Reads : (List ℕ → List ℕ → Type 0) → List Run → List ℕ → List ℕ → Type 0
Reads ends [] s t = ends s t
Reads ends (Kept n ∷ rs) s t = KeepsRun n (λ u v. Reads ends rs u v) s t
Reads ends (Added n ∷ rs) s t = AddsRun n (λ u v. Reads ends rs u v) s t
Reads ends (Gone n ∷ rs) s t = LosesRun n (λ u v. Reads ends rs u v) s t

-- both texts have ended
abbrev pub AreEmpty : List ℕ → List ℕ → Type 0
AreEmpty s t = (s ≡ []) × (t ≡ [])

-- the two texts are the same
abbrev pub AreSame : List ℕ → List ℕ → Type 0
AreSame s t = s ≡ t

-- the runs lead from all of one text to all of the other
abbrev pub Covers : List Run → List ℕ → List ℕ → Type 0
Covers rs s t = Reads AreEmpty rs s t

-- the runs lead from one text to the other, and behind the last of them both have the same characters
abbrev pub Spans : List Run → List ℕ → List ℕ → Type 0
Spans rs s t = Reads AreSame rs s t

-- one of the two texts
abbrev pub text_at : End → List ℕ → List ℕ → List ℕ
text_at Near s t = s
text_at Far s t = t

-- the characters of a text with k of them, from place i on, replaced by others
abbrev pub replaced : List ℕ → ℕ → ℕ → List ℕ → List ℕ
replaced t i k x = take i t ++ (x ++ drop (i + k) t)
