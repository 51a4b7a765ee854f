-- The ranks of the items of each tag, in one list for each tag.
use Rattle.std.specs.Prelude.{ℕ, zero, suc, List, [], ◌∷◌, ◌++◌, map}
use Rattle.std.specs.List.{range_with_len}
use Rattle.lens_core.specs.Partition.{ranks_of}

-- the lists with the rank r at the end of that of the tag t; they stay as they are if there is no such list
abbrev pub with_rank : ℕ → ℕ → List (List ℕ) → List (List ℕ)
with_rank t r [] = []
with_rank zero r (l ∷ ls) = (l ++ r ∷ []) ∷ ls
with_rank (suc t) r (l ∷ ls) = l ∷ with_rank t r ls

-- the lists of c tags, with the ranks of the items that f takes one after another
abbrev pub ranks_by_tag : ℕ → List ℕ → List ℕ → List (List ℕ)
ranks_by_tag c ts f = map (λ t. ranks_of t ts f) (range_with_len 0 c)
