use Rattle.std.proofs.Common.{◌≤◌, ◌-◌, length}
use Rattle.shared_lists.specs.Edges.{PassesBefore, FailsAt}
use Rattle.shared_lists.proofs.list.SharedList.edge_by_items.Given as goal

abbrev pub invariant-loop-low : goal.invariant-loop-low
invariant-loop-low g l = (l.low ≤ l.high) × (l.high ≤ length l.self) × PassesBefore (g.C.Test.test l.test) l.self l.low × FailsAt (g.C.Test.test l.test) l.self l.high

abbrev pub decreases-loop-low : goal.decreases-loop-low
decreases-loop-low g l = l.high - l.low
