use Rattle.std.proofs.Common.{rules, ◌≡◌, Some}
use Rattle.lens_forms.specs.Forms.{form_tree}
use Rattle.store_records.specs.StoredLens.{form_of_text}
use Rattle.hub_run.specs.RunStates.{forms_of_lenses}
use Rattle.hub_records.specs.HubLenses.{joining_form}
use Rattle.hub_records.proofs.JoiningForms.{joined_left}
use Rattle.hub_records.proofs.lenses.joining_lens.Goals as goal

pub returns-clause-one_left : goal.returns-clause-one_left
returns-clause-one_left c = λ all.
    let before = c.args.before.now in
    let found : Some (form_tree c.in_ok-lens.lens.typed) ≡ joining_form (forms_of_lenses before) (form_of_text c.args.text.now) = search rules in
    joined_left before (form_of_text c.args.text.now) c.in_ok-lens.lens found all
