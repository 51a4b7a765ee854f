-- A word primitive by primitive: what was translated, and what is left to do.
use Rattle.std.proofs.Common.{◌≡◌, ℕ, suc, ◌+◌, ◌<◌, ◌≤◌, Option, None, Some, option_map, List, length, map, drop, drop-cons, get_or, add-one, sym, ap, ◌∙◌}
use Rattle.std.specs.Prelude.{option_and_then}
use Rattle.std.proofs.lemmas.List.{drop_all}
use Rattle.texts.specs.declared.side.Side.{Side}
use Rattle.edit_module.specs.Words.{PrimitiveTree, WordTree, more_primitives, word_of, joined}
use Rattle.edit_module.specs.Views.{primitive_tree}
use Rattle.edit_module.specs.declared.word.Primitive.{Primitive}
use Rattle.lens_forms.specs.Forms.{FormTree}
use Rattle.lens_core.specs.Complements.{CompTree}
use Rattle.lens_core.specs.Emitted.{behind}
use Rattle.lens_core.proofs.JoinedWords.{behind_behind}
use Rattle.lens_core.specs.Translation.{Translated, translate_one, translate, IsCarryFault}
use Rattle.lens_core.specs.declared.carry.CarryFault.{CarryFault}
use Rattle.lens_core.specs.declared.carry.CarryFault.TheVariants.{Unfit, NoMemory}
use Rattle.edit_module.proofs.JoinedWords.{joined_nothing}

-- what is left to do from a place of a word on, with the complement there, behind what was translated
abbrev pub left_to_do : FormTree → Side → CompTree → WordTree → List Primitive → ℕ → Option Translated
left_to_do l side c u ps i = option_map (behind u) (translate l side c (word_of (map primitive_tree (drop i ps))))

first_done : (l : FormTree) (side : Side) (c d : CompTree) (u v : WordTree) (p : PrimitiveTree) (w : WordTree) → translate_one l side c p ≡ Some (v, d)
    → option_map (behind u) (translate l side c (more_primitives p w)) ≡ option_map (behind (joined u v)) (translate l side d w)
first_done l side c d u v p w e =
    ap (λ o. option_map (behind u) (option_and_then (λ r. option_map (behind r.0) (translate l side r.1 w)) o)) e ∙ behind_behind u v (translate l side d w)

-- one primitive translated leaves the rest to do
pub next_done : (l : FormTree) (side : Side) (c d : CompTree) (u v : WordTree) (ps : List Primitive) (i : ℕ) (p : Primitive) → i < length ps → p ≡ get_or ps i p
    → translate_one l side c (primitive_tree p) ≡ Some (v, d) → left_to_do l side c u ps i ≡ left_to_do l side d (joined u v) ps (i + 1)
next_done l side c d u v ps i p h is e =
    let here : translate_one l side c (primitive_tree (get_or ps i p)) ≡ Some (v, d) = ap (λ (q : Primitive). translate_one l side c (primitive_tree q)) (sym is) ∙ e in
    rw (drop-cons ps i p h, add-one) (first_done l side c d u v (primitive_tree (get_or ps i p)) (word_of (map primitive_tree (drop (suc i) ps))) here)

first_none : (l : FormTree) (side : Side) (c : CompTree) (u : WordTree) (p : PrimitiveTree) (w : WordTree) → translate_one l side c p ≡ None
    → option_map (behind u) (translate l side c (more_primitives p w)) ≡ None
first_none l side c u p w e = ap (λ o. option_map (behind u) (option_and_then (λ r. option_map (behind r.0) (translate l side r.1 w)) o)) e

-- one that has no translation ends it
pub next_fault : (l : FormTree) (side : Side) (c : CompTree) (u : WordTree) (ps : List Primitive) (i : ℕ) (p : Primitive) (whole : Option Translated) (fault : CarryFault)
    → i < length ps → p ≡ get_or ps i p → left_to_do l side c u ps i ≡ whole → IsCarryFault (translate_one l side c (primitive_tree p)) fault → IsCarryFault whole fault
next_fault l side c u ps i p whole Unfit h is all e =
    let here : translate_one l side c (primitive_tree (get_or ps i p)) ≡ None = ap (λ (q : Primitive). translate_one l side c (primitive_tree q)) (sym is) ∙ e in
    sym all ∙ rw (drop-cons ps i p h) (first_none l side c u (primitive_tree (get_or ps i p)) (word_of (map primitive_tree (drop (suc i) ps))) here)
next_fault l side c u ps i p whole NoMemory h is all e = tt

-- after the last primitive nothing is left to do
pub all_done : (l : FormTree) (side : Side) (c : CompTree) (u : WordTree) (ps : List Primitive) (i : ℕ) → length ps ≤ i → left_to_do l side c u ps i ≡ Some (u, c)
all_done l side c u ps i h = rw (drop_all i ps h) (ap (λ w. Some (w, c)) (joined_nothing u))
