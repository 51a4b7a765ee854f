use Rattle.std.proofs.Common.{arith}
use Rattle.std.specs.Prelude.{nat_le}
use Rattle.std.proofs.lemmas.Bool.Decides.{nat_tests}
use Rattle.lens_forms.specs.Forms.{form_tree}
use Rattle.lens_forms.specs.Typing.{is_typed}
use Rattle.lens_forms.specs.Measures.{form_parts}
use Rattle.texts.proofs.Conjunction.{first as first_and, second as second_and}
use Rattle.lens_forms.proofs.ListLengths.{form_longest}
use Rattle.lens_forms.proofs.TypingLaws.{typed_is}
use Rattle.lens_forms.specs.declared.limits.TheConstants.{MOST_PARTS}
use Rattle.lens_types.proofs.typed.Typed.form.Goals as goal

pub returns-clause-typed : goal.returns-clause-typed
returns-clause-typed c =
    let f = form_tree c.self.inside.form in
    typed_is f (first_and (is_typed f) _ c.self.invariant.sound)

pub returns-clause-short : goal.returns-clause-short
returns-clause-short c =
    let f = form_tree c.self.inside.form in
    let small = first_and (nat_le (form_parts f) MOST_PARTS) _ (second_and (is_typed f) _ c.self.invariant.sound) in
    grind (arith, nat_tests, small, form_longest f)
