use Rattle.std.proofs.Common.{◌≡◌, ◌++◌, drop}
use Rattle.bridge_texts.specs.Runs.{pieces}
use Rattle.bridge_texts.proofs.pieces.pieces.Given as goal

abbrev pub invariant-loop-run : goal.invariant-loop-run
invariant-loop-run l = l.splices.items ++ pieces l.place l.count l.new (drop l.run-index l.range) ≡ pieces l.fn.at 0 l.fn.text l.fn.range
