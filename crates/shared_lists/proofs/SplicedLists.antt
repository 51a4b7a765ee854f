-- A splice of two lists, one after the other, is a splice of one of them or of both.
use Rattle.std.proofs.Common.{arith, refl, zero}
use Rattle.std.specs.Prelude.{ℕ, ◌≡◌, ◌≤◌, ◌+◌, ◌-◌, List, [], ◌∷◌, ◌++◌, length, take, drop, suc, slice_get}
use Rattle.std.proofs.lemmas.List.{take-append-le, drop-append-le, append_assoc, append-nil, length-append, length-take, length-drop, take-append-drop, take-map, drop-map}
use Rattle.std.proofs.Math.Seq.{take-append-add, drop-append-add, drop-length, drop-cons}
use Rattle.std.proofs.Math.ListN.{drop_of_length-le}
use Rattle.std.proofs.lemmas.Option.{get_or_from_slice_get, slice_get_within}
use Rattle.std.specs.declared.option.Option.TheVariants.{Some}
use Rattle.std.specs.declared.alloc.Global.{Global}
use Rattle.std.specs.declared.rc.Rc.{Rc}
use Rattle.shared_lists.specs.Items.{items_of}
use mathlib.Core.Path.{ap, sym, subst}

module _ {X : Type 0} (xs ys : List X) where
  take-append_beyond : (n : ℕ) → length xs ≤ n → take n (xs ++ ys) ≡ xs ++ take (n - length xs) ys
  take-append_beyond n p = subst (λ k. take k (xs ++ ys) ≡ xs ++ take (n - length xs) ys) (omega arith) (take-append-add xs ys (n - length xs))

  pub drop-append_beyond : (n : ℕ) → length xs ≤ n → drop n (xs ++ ys) ≡ drop (n - length xs) ys
  drop-append_beyond n p = subst (λ k. drop k (xs ++ ys) ≡ drop (n - length xs) ys) (omega arith) (drop-append-add xs ys (n - length xs))

  module _ (more : List X) (from to : ℕ) (order : from ≤ to) where
    pub spliced_left : to ≤ length xs → (take from xs ++ more ++ drop to xs) ++ ys ≡ take from (xs ++ ys) ++ more ++ drop to (xs ++ ys)
    spliced_left p = rw (take-append-le from xs ys (omega arith), drop-append-le to xs ys p) (simp append_assoc)

    pub spliced_right : (middle : ℕ) → middle ≡ length xs → middle ≤ from
        → xs ++ (take (from - middle) ys ++ more ++ drop (to - middle) ys) ≡ take from (xs ++ ys) ++ more ++ drop to (xs ++ ys)
    spliced_right middle e p = rw (e, take-append_beyond from (omega arith), drop-append_beyond to (omega arith)) (simp append_assoc)

    pub spliced_across : from ≤ length xs → length xs ≤ to
        → (take from xs ++ more ++ drop (length xs) xs) ++ (take 0 ys ++ [] ++ drop (to - length xs) ys) ≡ take from (xs ++ ys) ++ more ++ drop to (xs ++ ys)
    spliced_across p q = rw (take-append-le from xs ys p, drop-append_beyond to q, drop-length xs) (simp (append_assoc, append-nil))

pub length-spliced : {X : Type 0} (xs more : List X) (from to : ℕ) → from ≤ to → to ≤ length xs
    → length (take from xs ++ more ++ drop to xs) ≡ length xs - (to - from) + length more
length-spliced xs more from to order within = simp (length-append, length-take, length-drop) (omega arith)

pub spliced_nothing : {X : Type 0} (xs more : List X) (from to : ℕ) → from ≡ to → length more ≡ 0 → take from xs ++ more ++ drop to xs ≡ xs
spliced_nothing xs [] from to e n = rw (append-nil (take from xs)) (subst (λ k. take from xs ++ drop k xs ≡ xs) e (take-append-drop from xs))
spliced_nothing xs (x ∷ more) from to e n = absurd (omega arith)

pub ruleset splice_rules = (spliced_left, spliced_right, spliced_across, spliced_nothing, length-spliced)

-- some of the items of two lists, one after the other, are those of one of them or of both
module _ {X : Type 0} (xs ys : List X) (from to : ℕ) (order : from ≤ to) where
  pub ranged_left : to ≤ length xs → take (to - from) (drop from (xs ++ ys)) ≡ take (to - from) (drop from xs)
  ranged_left p =
      let inside : to - from ≤ length (drop from xs) = omega (arith, length-drop from xs) in
      rw (drop-append-le from xs ys (omega arith), take-append-le (to - from) (drop from xs) ys inside) refl

  pub ranged_right : length xs ≤ from
      → take (to - from) (drop from (xs ++ ys)) ≡ take (to - length xs - (from - length xs)) (drop (from - length xs) ys)
  ranged_right p =
      let same : to - from ≡ to - length xs - (from - length xs) = omega arith in
      rw (drop-append_beyond xs ys from p) (ap (λ (n : ℕ). take n (drop (from - length xs) ys)) same)

  pub ranged_across : from ≤ length xs → length xs ≤ to
      → take (to - from) (drop from (xs ++ ys))
      ≡ (take 0 xs ++ [] ++ drop from xs) ++ (take (to - length xs) ys ++ [] ++ drop (length ys) ys)
  ranged_across p q =
      let inside : length (drop from xs) ≤ to - from = omega (arith, length-drop from xs) in
      let same : to - from - length (drop from xs) ≡ to - length xs = omega (arith, length-drop from xs) in
      rw (drop-length ys, drop-append-le from xs ys p, take-append_beyond (drop from xs) ys (to - from) inside, same) (simp append-nil)

-- no items have no others among them
pub ranged_none : {X : Type 0} (xs : List X) (place count : ℕ) → place + count ≤ length xs → length xs ≡ 0 → take count (drop place xs) ≡ xs
ranged_none [] zero zero h e = refl
ranged_none [] zero (suc count) h e = absurd (omega arith)
ranged_none [] (suc place) count h e = absurd (omega arith)
ranged_none (x ∷ xs) place count h e = absurd (omega arith)

pub one_more : (i : ℕ) → suc i ≡ i + 1
one_more i = omega arith

-- what is left of a list from a place on begins with the item there
pub drop-at : {X : Type 0} (xs : List X) (i : ℕ) (x : X) → slice_get xs i ≡ Some x → drop i xs ≡ x ∷ drop (i + 1) xs
drop-at xs i x e = rw (drop-cons xs i x (slice_get_within xs i x e), get_or_from_slice_get xs i x x e) (ap (λ k. x ∷ drop k xs) (one_more i))

module _ {T : Type 0} (owners : List (Rc T Global)) (n : ℕ) where
  pub items_of-take : items_of (take n owners) ≡ take n (items_of owners)
  items_of-take = sym (take-map (λ r. r.value) n owners)

  pub items_of-drop : items_of (drop n owners) ≡ drop n (items_of owners)
  items_of-drop = sym (drop-map (λ r. r.value) n owners)

  pub items_of-parts : items_of (take n owners) ++ items_of (drop n owners) ≡ items_of owners
  items_of-parts = rw (items_of-take, items_of-drop) (take-append-drop n (items_of owners))

pub ruleset items_rules = (items_of-take, items_of-drop, items_of-parts)

pub range_size : (place count : ℕ) → place + count - place ≡ count
range_size place count = omega arith

pub ruleset range_rules = (ranged_left, ranged_right, ranged_across, items_of-take, items_of-drop, length-append, length-take, length-drop)

pub ruleset edit_rules = (ranged_none, range_size)

pub ruleset iter_rules = (drop_of_length-le)
