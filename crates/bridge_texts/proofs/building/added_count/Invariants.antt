use Rattle.bridge_texts.proofs.Gaps.{are_added}
use Rattle.bridge_texts.proofs.building.added_count.Given as goal

abbrev pub invariant-loop-i : goal.invariant-loop-i
invariant-loop-i l = are_added l.i l.runs
