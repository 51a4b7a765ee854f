-- Where the place is reached, nothing more is in front.
use Rattle.std.proofs.Common.{arith}
use Rattle.std.proofs.lemmas.Bool.Decides.{nat_tests}
use Rattle.bridge_texts.specs.declared.run.Run.TheVariants.{Kept}
use Rattle.bridge_texts.specs.Runs.{cut}
use Rattle.bridge_texts.proofs.Built.{cut-at-once}
use Rattle.bridge_texts.proofs.building.cut.Goals as goal

pub returns-then-left-eq0-clause-front : goal.returns-then-left-eq0-clause-front
returns-then-left-eq0-clause-front c =
    let more = c.loop-i-test.true in
    let reached = c.if-left-eq0.true in
    cut-at-once c.args.end c.args.runs.now c.loop-i.i c.loop-i.left (Kept 0) c.loop-i.front.items (cut c.args.end c.args.runs.now c.args.place).0
    (grind (arith, nat_tests)) (grind (arith, nat_tests)) c.loop-i.invariant.0
