use Rattle.std.proofs.Common.{ap, ◌∙◌, map, arith}
use Rattle.std.proofs.lemmas.Result.{IfOk-weaker}
use Rattle.lens_core.specs.Complements.{comp_tree}
use Rattle.lens_branch.specs.AlternativeSteps.{arm_starts}
use Rattle.lens_steps.proofs.ArmStarts.{starts_done}
use Rattle.lens_steps.proofs.starts.arm_starts.Goals as goal

pub returns : goal.returns
returns c =
    let done = starts_done (map comp_tree c.loop-arm.items.items) c.as_slice-arm-items.result.now c.loop-arm.arm-index (omega arith) c.loop-arm.invariant in
    IfOk-weaker c.from_vec.result _ _ (λ cs e. e ∙ (done ∙ ap arm_starts c.as_slice-arm-items.ensures)) c.from_vec.ensures
