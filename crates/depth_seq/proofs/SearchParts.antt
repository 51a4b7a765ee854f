-- Where a search ends in a list of three parts: xs of the length m, a chunk c, and ys.
use Rattle.std.proofs.Common.{◌≡◌, ℕ, ◌+◌, ◌-◌, ◌≤◌, List, ◌++◌, length, drop, ap, sym, ◌∙◌, arith}
use Rattle.std.proofs.lemmas.List.{length-drop}
use Rattle.depth_seq.specs.declared.found.Found.{Found}
use Rattle.depth_seq.specs.declared.found.Found.TheVariants.{Behind}
use Rattle.depth_seq.specs.Searches.{search}
use Rattle.depth_seq.proofs.Searches.{ends_ahead, goes_behind}
use Rattle.depth_seq.proofs.Parts.{drop_left, drop_here, drop_right}

-- the search does not go on
abbrev Stops : Found → Type 0
Stops f = (j : ℕ) → f ≡ Behind j → ⊥

module _ (d n at k m : ℕ) (xs c ys : List ℕ) (e : m ≡ length xs) (f : Found) where
  -- it ends in xs, or behind it in c, or behind both
  pub ends_left : f ≡ search d n at k xs → Stops f → f ≡ search d n at k (xs ++ (c ++ ys))
  ends_left h s = ends_ahead d n at k xs (c ++ ys) f h s

  pub ends_here : (b p : ℕ) → Behind b ≡ search d n at k xs → p ≡ at + m → f ≡ search d n p b c → Stops f → f ≡ search d n at k (xs ++ (c ++ ys))
  ends_here b p h q g s = ends_ahead d n p b c ys f g s ∙ goes_behind d n at k p b xs (c ++ ys) h (omega arith)

  pub ends_right : (b p j q : ℕ) → Behind b ≡ search d n at k xs → p ≡ at + m → Behind j ≡ search d n p b c → q ≡ p + length c
      → f ≡ search d n q j ys → f ≡ search d n at k (xs ++ (c ++ ys))
  ends_right b p j q h r g s i = i ∙ goes_behind d n p b q j c ys g s ∙ goes_behind d n at k p b xs (c ++ ys) h (omega arith)

-- the same of a search from a place on
module _ (d n at from m : ℕ) (xs c ys : List ℕ) (e : m ≡ length xs) (f : Found) where
  abbrev Ends : Type 0
  Ends = f ≡ search d n (at + from) 0 (drop from (xs ++ (c ++ ys)))

  at_place : (p : ℕ) (zs : List ℕ) → f ≡ search d n p 0 zs → p ≡ at + from → zs ≡ drop from (xs ++ (c ++ ys)) → Ends
  at_place p zs h q s = h ∙ ap (λ o. search d n o 0 zs) q ∙ ap (search d n (at + from) 0) s

  pub from_left : from ≤ m → f ≡ search d n (at + from) 0 (drop from xs) → Stops f → Ends
  from_left l h s =
      ends_ahead d n (at + from) 0 (drop from xs) (c ++ ys) f h s ∙ ap (search d n (at + from) 0) (sym (drop_left xs c ys m from e l))

  pub from_behind : (b p : ℕ) → from ≤ m → Behind b ≡ search d n (at + from) 0 (drop from xs) → p ≡ at + m → f ≡ search d n p b (c ++ ys) → Ends
  from_behind b p l h q g =
      let there : p ≡ at + from + length (drop from xs) = omega (arith, length-drop from xs) in
      g ∙ goes_behind d n (at + from) 0 p b (drop from xs) (c ++ ys) h there ∙ ap (search d n (at + from) 0) (sym (drop_left xs c ys m from e l))

  pub from_here : (j p : ℕ) → m ≤ from → j ≡ from - m → j ≤ length c → p ≡ at + from → f ≡ search d n p 0 (drop j c ++ ys) → Ends
  from_here j p l q w s h = at_place p (drop j c ++ ys) h s (sym (drop_here xs c ys m from e j q l w))

  pub from_right : (j p : ℕ) → m + length c ≤ from → j ≡ from - m - length c → p ≡ at + from → f ≡ search d n p 0 (drop j ys) → Ends
  from_right j p l q s h = at_place p (drop j ys) h s (sym (drop_right xs c ys m from e j q l))
