-- A composition translates a primitive by the lens of the edited side, and the word that comes of it by the other lens.
use Rattle.std.proofs.Common.{◌≡◌, Some, refl}
use Rattle.texts.specs.declared.side.Side.{Side}
use Rattle.texts.specs.declared.side.Side.TheVariants.{Left, Right}
use Rattle.edit_module.specs.Words.{PrimitiveTree}
use Rattle.lens_forms.specs.Forms.{FormTree, form_then}
use Rattle.lens_core.specs.Complements.{CompTree, then_comp}
use Rattle.lens_core.specs.Translation.{Translated, translate_one, translate, IsCarryFault}
use Rattle.lens_core.specs.declared.carry.CarryFault.{CarryFault}
use Rattle.lens_core.specs.declared.carry.CarryFault.TheVariants.{Unfit, NoMemory}
use Rattle.lens_steps.specs.Pairs.{pair_on}
use Rattle.lens_steps.proofs.ReadyForms.{ready_first, ready_second}

-- from the left, and from the right
pub through_left : (l k : FormTree) (side : Side) (p : PrimitiveTree) (e c d : CompTree) (near far r : Translated) → side ≡ Left → e ≡ then_comp c d
    → translate_one l side c p ≡ Some near → translate k side d near.0 ≡ Some far → r ≡ (far.0, pair_on side near.1 far.1)
    → translate_one (form_then l k) side e p ≡ Some r
through_left l k Left p e c d near far r left is f g q = rw (is, q, f, g) refl
through_left l k Right p e c d near far r left is f g q = cc

pub through_right : (l k : FormTree) (side : Side) (p : PrimitiveTree) (e c d : CompTree) (near far r : Translated) → side ≡ Right → e ≡ then_comp c d
    → translate_one k side d p ≡ Some near → translate l side c near.0 ≡ Some far → r ≡ (far.0, pair_on side near.1 far.1)
    → translate_one (form_then l k) side e p ≡ Some r
through_right l k Left p e c d near far r right is f g q = cc
through_right l k Right p e c d near far r right is f g q = rw (is, q, f, g) refl

-- nothing comes out of the second lens
pub left_far_fault : (l k : FormTree) (side : Side) (p : PrimitiveTree) (e c d : CompTree) (near : Translated) (fault : CarryFault) → side ≡ Left → e ≡ then_comp c d
    → translate_one l side c p ≡ Some near → IsCarryFault (translate k side d near.0) fault → IsCarryFault (translate_one (form_then l k) side e p) fault
left_far_fault l k Left p e c d near Unfit left is f g = rw (is, f, g) refl
left_far_fault l k Right p e c d near Unfit left is f g = cc
left_far_fault l k side p e c d near NoMemory left is f g = tt

pub right_far_fault : (l k : FormTree) (side : Side) (p : PrimitiveTree) (e c d : CompTree) (near : Translated) (fault : CarryFault) → side ≡ Right → e ≡ then_comp c d
    → translate_one k side d p ≡ Some near → IsCarryFault (translate l side c near.0) fault → IsCarryFault (translate_one (form_then l k) side e p) fault
right_far_fault l k Left p e c d near Unfit right is f g = cc
right_far_fault l k Right p e c d near Unfit right is f g = rw (is, f, g) refl
right_far_fault l k side p e c d near NoMemory right is f g = tt

pub ruleset then_rules = (ready_first, ready_second)
