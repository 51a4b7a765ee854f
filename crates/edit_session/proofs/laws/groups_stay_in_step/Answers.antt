use Rattle.edit_session.proofs.RunInStep.{groups_stay_in_step}
use Rattle.edit_session.proofs.laws.groups_stay_in_step.Goals as goal

pub returns : goal.returns
returns g c =
    let lens = c.args._lens.now in
    groups_stay_in_step ⊥ (g.L.EditLens.holds lens) (g.L.EditLens.left_type lens) (g.L.EditLens.right_type lens) (g.L.EditLens.carried lens)
    (g.met.L.EditLens.left_edits_carry lens) (g.met.L.EditLens.right_edits_carry lens)
