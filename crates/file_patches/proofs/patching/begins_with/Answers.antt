use Rattle.std.proofs.Common.{sym, ◌∙◌}
use Rattle.file_patches.proofs.Parts.{begins_ended}
use Rattle.file_patches.proofs.patching.begins_with.Goals as goal

pub returns-then-i-place : goal.returns-then-i-place
returns-then-i-place c =
    sym (begins_ended c.args.front.now c.args.place.now c.loop-i.i c.loop-i-test.true c.if-i-place.true) ∙ c.loop-i.invariant
