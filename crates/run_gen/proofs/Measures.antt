-- Numbers of a list that do not depend on the order of its items.
use Rattle.std.proofs.Common.{drop-cons, ◌≡◌, ℕ, zero, suc, ◌+◌, ◌<◌, ◌≤◌, List, [], ◌∷◌, ◌++◌, length, take, drop, get_or, refl, ap, sym, ◌∙◌, arith}
use Rattle.std.proofs.lemmas.List.{take-append-drop}
use Rattle.std.specs.List.{insert, remove}

-- of two lists one behind the other it is the sum
abbrev pub IsAdditive : {A : Type 0} → (List A → ℕ) → Type 0
IsAdditive {A} m = (xs ys : List A) → m (xs ++ ys) ≡ m xs + m ys

module _ {A : Type 0} (m : List A → ℕ) (additive : IsAdditive m) where
  cut : (i : ℕ) (xs : List A) → m xs ≡ m (take i xs) + m (drop i xs)
  cut i xs = ap m (sym (take-append-drop i xs)) ∙ additive (take i xs) (drop i xs)

  one_before : (x : A) (xs : List A) → m (x ∷ xs) ≡ m (x ∷ []) + m xs
  one_before x xs = additive (x ∷ []) xs

  -- an item that is put at another place
  pub moved_keeps : (xs : List A) (i j : ℕ) (d : A) → i < length xs → m (insert (remove xs i) j (get_or xs i d)) ≡ m xs
  moved_keeps xs i j d h =
      let x = get_or xs i d in
      let r = remove xs i in
      let p = additive (take j r) (x ∷ drop j r) in
      let q = one_before x (drop j r) in
      let s = cut j r in
      let t = additive (take i xs) (drop (suc i) xs) in
      let u = cut i xs in
      let v : m (drop i xs) ≡ m (x ∷ drop (suc i) xs) = ap m (drop-cons xs i d h) in
      let w = one_before x (drop (suc i) xs) in
      omega arith
