use Rattle.std.proofs.Common.{◌≡◌, ◌+◌, ◌≤◌, drop}
use Rattle.lens_branch.proofs.RowSearch.{pair_count}
use Rattle.lens_branch.proofs.record.paired_rows.Given as goal

abbrev pub invariant-loop-row : goal.invariant-loop-row
invariant-loop-row l = (l.count + pair_count (drop l.row-index l.row-items) ≡ pair_count l.row-items) × (l.count ≤ l.row-index)
