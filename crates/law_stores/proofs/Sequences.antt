-- A list that is made step by step, where a step may have no next one.
use Rattle.std.proofs.Common.{◌≡◌, List, [], ◌∷◌, Option, None, Some, refl, ap, subst, ◌∙◌}
use Rattle.std.specs.Prelude.{option_map, option_and_then}

-- the first one and those that follow it, where there are some
abbrev pub put_first : {X : Type 0} → (X → Option (List X)) → Option X → Option (List X)
put_first rest o = option_and_then (λ x. option_map (λ l. x ∷ l) (rest x)) o

pub first_made : {X : Type 0} (rest : X → Option (List X)) (o : Option X) (x : X) (xs : List X) → o ≡ Some x → rest x ≡ Some xs → put_first rest o ≡ Some (x ∷ xs)
first_made rest o x xs h k = ap (put_first rest) h ∙ ap (option_map (λ l. x ∷ l)) k

pub first_is : {X : Type 0} (rest : X → Option (List X)) (o : Option X) (x : X) (xs : List X) → put_first rest o ≡ Some (x ∷ xs) → (o ≡ Some x) × (rest x ≡ Some xs)
first_is rest None x xs h = cc
first_is {X = X} rest (Some y) x xs h = by_rest (rest y) refl h where
  by_rest : (r : Option (List X)) → rest y ≡ r → option_map (λ l. y ∷ l) r ≡ Some (x ∷ xs) → (Some y ≡ Some x) × (rest x ≡ Some xs)
  by_rest None e k = cc
  by_rest (Some ys) e k =
      let same : y ≡ x = cc in
      let tail : ys ≡ xs = cc in
      (ap Some same, subst (λ z. rest z ≡ Some xs) same (e ∙ ap Some tail))

pub never_empty : {X : Type 0} (rest : X → Option (List X)) (o : Option X) → put_first rest o ≡ Some [] → ⊥
never_empty rest None h = cc
never_empty {X = X} rest (Some y) h = by_rest (rest y) h where
  by_rest : (r : Option (List X)) → option_map (λ l. y ∷ l) r ≡ Some [] → ⊥
  by_rest None k = cc
  by_rest (Some ys) k = cc
