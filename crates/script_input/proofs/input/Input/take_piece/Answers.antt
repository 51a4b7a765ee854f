use Rattle.std.proofs.Common.{ap, arith, take}
use Rattle.std.proofs.lemmas.List.{length-take}
use Rattle.script_input.proofs.EndedLines.{count, few_ended}
use Rattle.script_input.proofs.input.Input.take_piece.Goals as goal

pub invariant_of-self-2 : goal.invariant_of-self-2
invariant_of-self-2 g c =
    let bytes = c.in_ok-count.ensures.bytes in
    let piece = take c.in_ok-count.count c.take_bytes.new.piece in
    (bytes.2, omega (arith, ap count c.in_ok-feed.ensures.fed, few_ended c.self.inside.lines piece, c.self.invariant.1, length-take c.in_ok-count.count c.take_bytes.new.piece))
