-- Arrays of two items and of three, by the items of a vector.
use Rattle.std.proofs.Common.{◌≡◌, ◌≢◌, List, [], ◌∷◌, length, get_or, Some, None, refl, arith}
use Rattle.serde_json.specs.Data.{array}
use Rattle.serde_json.specs.View.{view, items_view}
use Rattle.serde_json.specs.declared.value.Value.{Value}
use Rattle.edit_json.specs.Parts.{two_items, three_items}

pub not_two : (vs : List Value) → length vs ≢ 2 → two_items (array (items_view vs)) ≡ None
not_two [] h = refl
not_two (a ∷ []) h = refl
not_two (a ∷ b ∷ []) h = absurd (h refl)
not_two (a ∷ b ∷ c ∷ vs) h = refl

pub both : (vs : List Value) (a b : Value) → length vs ≡ 2 → Some (view (get_or vs 0 a), view (get_or vs 1 b)) ≡ two_items (array (items_view vs))
both [] a b two = absurd (omega (arith, two))
both (x ∷ []) a b two = absurd (omega (arith, two))
both (x ∷ y ∷ []) a b two = refl
both (x ∷ y ∷ z ∷ vs) a b two = absurd (omega (arith, two))

pub not_three : (vs : List Value) → length vs ≢ 3 → three_items (array (items_view vs)) ≡ None
not_three [] h = refl
not_three (a ∷ []) h = refl
not_three (a ∷ b ∷ []) h = refl
not_three (a ∷ b ∷ c ∷ []) h = absurd (h refl)
not_three (a ∷ b ∷ c ∷ d ∷ vs) h = refl
