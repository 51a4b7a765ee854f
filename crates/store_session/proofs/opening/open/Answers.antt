use Rattle.std.proofs.Common.{◌∙◌}
use Rattle.std.proofs.lemmas.Result.{IfOk-weaker}
use Rattle.lens_forms.specs.Forms.{form_tree}
use Rattle.edit_session.specs.Views.{triple_tree}
use Rattle.store_session.proofs.Openings.{fault_stands, opened_counts}
use Rattle.store_session.proofs.opening.open.Goals as goal

pub returns-in-Ok-clause-stands : goal.returns-in-Ok-clause-stands
returns-in-Ok-clause-stands c = c.with_version.ensures.stands c.args.payloads.now c.in-Ok.ensures.stands

pub returns-in-Ok-clause-count : goal.returns-in-Ok-clause-count
returns-in-Ok-clause-count c =
    let o = c.in-Ok.opened in
    let counts = opened_counts c.args.payloads.now (form_tree o.session.lens.typed) (triple_tree o.session.triple) o.count o.version c.in-Ok.ensures.stands in
    IfOk-weaker c.with_version.result _ _ (λ x h. h ∙ counts) c.with_version.ensures.count

pub returns-in-Err-clause-stands : goal.returns-in-Err-clause-stands
returns-in-Err-clause-stands c = fault_stands c.args.payloads.now c.in-Err.fault c.stored_fault.result c.in-Err.ensures.stands c.stored_fault.ensures
