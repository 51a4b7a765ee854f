use Rattle.lens_core.specs.Translation.{translate}
use Rattle.lens_forms.specs.Forms.{left_type, right_type}
use Rattle.law_apply.proofs.RunOfAccepted.{runs_over}
use Rattle.law_apply.proofs.accepted_changes_are_a_run.Goals as goal

pub returns : goal.returns
returns c form t items journal h =
    let r = runs_over (left_type form) (right_type form) (translate form) t items journal h in
    record { is_run = r.is_run; at_last = r.at_last; none_refused = r.none_refused }
