-- Loops that go over a list: what is left from a place is the item there, and what is left behind it.
use Rattle.std.proofs.Math.Seq.{drop-cons}
use Rattle.std.proofs.Common.{◌≡◌, ℕ, suc, ◌+◌, add-one, ◌<◌, List, ◌∷◌, drop, length, get_or, sym, ap}

pub left_from : {A : Type 0} (xs : List A) (i : ℕ) (x : A) → i < length xs → x ≡ get_or xs i x → drop i xs ≡ x ∷ drop (i + 1) xs
left_from xs i x within is = rw (add-one, drop-cons xs i x within) (ap (λ y. y ∷ drop (suc i) xs) (sym is))
