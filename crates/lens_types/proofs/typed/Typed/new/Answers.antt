use Rattle.std.proofs.Common.{true, sym, subst, ◌≡◌}
use Rattle.texts.proofs.Conjunction.{first}
use Rattle.doc_values.specs.Types.{TyTree, is_well_formed}
use Rattle.lens_forms.specs.Forms.{form_tree}
use Rattle.lens_forms.specs.Typing.{is_typed}
use Rattle.lens_forms.proofs.TypingLaws.{left_formed, right_formed}
use Rattle.lens_types.proofs.typed.Typed.new.Goals as goal

pub invariant_of-result : goal.invariant_of-result
invariant_of-result c =
    let f = form_tree c.args.form in
    let typed = first (is_typed f) _ c.requires.sound in
    let P : TyTree → Type 0 = λ t. is_well_formed t ≡ true in
    record {
      left_is = c.requires.left_is;
      right_is = c.requires.right_is;
      left_well_formed = subst P (sym c.requires.left_is) (left_formed f typed);
      right_well_formed = subst P (sym c.requires.right_is) (right_formed f typed);
      sound = c.requires.sound;
    }
