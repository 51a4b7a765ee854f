-- A finite map from tags to numbers, as the list of its pairs with the tags strictly rising. A tag that is not there
-- has the number 0. In order: `number` and `IsMap` say what a map is; `merged` adds two maps, `reduced` takes one from
-- the other.
use Rattle.std.specs.Prelude.{ℕ, suc, ◌+◌, ◌-◌, ◌<◌, List, [], ◌∷◌, nat_eq, nat_lt, if◌then◌else◌}

-- the number of a tag
abbrev pub number : ℕ → List (ℕ × ℕ) → ℕ
number t [] = 0
number t (p ∷ ps) = (if nat_eq p.0 t then p.1 else 0) + number t ps

-- each tag is above a given one
abbrev pub AreAbove : ℕ → List (ℕ × ℕ) → Type 0
AreAbove t [] = Unit {0}
AreAbove t (p ∷ ps) = (t < p.0) × AreAbove t ps

-- each tag is below all later ones, and no number is 0
abbrev pub IsMap : List (ℕ × ℕ) → Type 0
IsMap [] = Unit {0}
IsMap (p ∷ ps) = (0 < p.1) × (AreAbove p.0 ps × IsMap ps)

-- what adding to a map with the first pair p gives, where `rest` adds to the pairs behind p
abbrev pub merged_behind : ℕ × ℕ → (List (ℕ × ℕ) → List (ℕ × ℕ)) → List (ℕ × ℕ) → List (ℕ × ℕ)
merged_behind p rest [] = p ∷ rest []
merged_behind p rest (q ∷ qs) =
    if nat_lt p.0 q.0 then p ∷ rest (q ∷ qs)
    else (if nat_lt q.0 p.0 then q ∷ merged_behind p rest qs
    else (p.0, p.1 + q.1) ∷ rest qs)

-- the sum of two maps: the pairs of both in rising order, and one pair with the sum of the numbers for a tag of both
abbrev pub merged : List (ℕ × ℕ) → List (ℕ × ℕ) → List (ℕ × ℕ)
merged [] qs = qs
merged (p ∷ ps) qs = merged_behind p (merged ps) qs

-- a pair before others, unless its number is 0
abbrev pub with_pair : ℕ → ℕ → List (ℕ × ℕ) → List (ℕ × ℕ)
with_pair t n ps = if nat_eq n 0 then ps else (t, n) ∷ ps

-- a map less another one whose tags are all among its own: a pair whose number comes to 0 is left out
abbrev pub reduced : List (ℕ × ℕ) → List (ℕ × ℕ) → List (ℕ × ℕ)
reduced [] qs = []
reduced (p ∷ ps) [] = p ∷ ps
reduced (p ∷ ps) (q ∷ qs) =
    if nat_eq p.0 q.0 then with_pair p.0 (p.1 - q.1) (reduced ps qs) else p ∷ reduced ps (q ∷ qs)

-- how many pairs at the front have a tag below a given one
abbrev pub pairs_before : ℕ → List (ℕ × ℕ) → ℕ
pairs_before t [] = 0
pairs_before t (p ∷ ps) = if nat_lt p.0 t then suc (pairs_before t ps) else 0
