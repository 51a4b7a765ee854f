use Rattle.std.proofs.Common.{◌≡◌, ◌≤◌, ◌+◌, ◌-◌, length}
use Rattle.bridge_lists.specs.Carried.{behind, parked}
use Rattle.bridge_lists.proofs.parking.park.Given as goal

abbrev pub invariant-loop-k : goal.invariant-loop-k
invariant-loop-k l = record {
  value : behind l.edits.items (parked l.far (l.size - l.k) (l.count - l.k) l.free l.links) ≡ behind l.fn.edits.items (parked l.far l.size l.count l.far l.fn.before);
  within : l.free ≤ l.far;
  few : l.far ≤ l.free + l.k;
}
