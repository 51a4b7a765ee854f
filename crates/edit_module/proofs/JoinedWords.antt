-- Words that act one after another, and their joined word.
use Rattle.std.proofs.Common.{◌≡◌, Ok, refl, ap, ◌∙◌}
use Rattle.doc_values.specs.Documents.{DocTree}
use Rattle.doc_values.specs.Types.{TyTree}
use Rattle.edit_module.specs.Words.{WordTree, no_primitives, more_primitives, joined}
use Rattle.edit_module.specs.Action.{act, act_primitive, later}
use Rattle.edit_module.proofs.ActionKeepsTypes.{after_ok}

pub joined_nothing : (w : WordTree) → joined w no_primitives ≡ w
joined_nothing no_primitives = refl
joined_nothing (more_primitives p w) = ap (more_primitives p) (joined_nothing w)

-- two words that act one after another act when joined
pub acts_joined : (t : TyTree) (u w : WordTree) (x y z : DocTree) → act t u x ≡ Ok y → act t w y ≡ Ok z → act t (joined u w) x ≡ Ok z
acts_joined t no_primitives w x y z e f = let same : x ≡ y = cc in ap (act t w) same ∙ f
acts_joined t (more_primitives p u) w x y z e f =
    let s = after_ok (act_primitive t p x) (λ v. act t u v) y e in
    rw s.1 (ap (later 1) (acts_joined t u w s.0 y z s.2 f))
