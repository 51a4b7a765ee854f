-- What a change does, where the place has two parts or more.
use Rattle.std.proofs.Common.{◌≡◌, ℕ, ◌<◌, List, [], ◌∷◌, drop, length, get_or, sym, ap, arith}
use Rattle.json.specs.Json.{Json}
use Rattle.file_patches.specs.Places.{position, child}
use Rattle.file_patches.specs.Results.{and_then, on_ok}
use Rattle.file_patches.specs.Changes.{ChangeTree, changed, put}

pub more_parts : (c : ChangeTree) (p : List (List ℕ)) (j : Json) (s : List ℕ) → 1 < length p → s ≡ get_or p 0 s
    → changed c p j ≡ and_then (λ i. on_ok (λ k. put i k j) (changed c (drop 1 p) (child i j))) (position s j)
more_parts c [] j s h e = absurd (omega arith)
more_parts c (r ∷ []) j s h e = absurd (omega arith)
more_parts c (r ∷ t ∷ rs) j s h e =
    ap (λ x. and_then (λ i. on_ok (λ k. put i k j) (changed c (t ∷ rs) (child i j))) (position x j)) (sym e)
