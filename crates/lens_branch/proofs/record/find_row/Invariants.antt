use Rattle.std.proofs.Common.{◌≡◌, ◌+◌, ◌≤◌, map, drop}
use Rattle.lens_forms.specs.Forms.{row_tree}
use Rattle.lens_branch.specs.RecordSteps.{row_of}
use Rattle.lens_branch.proofs.RowSearch.{found_from, pair_count}
use Rattle.lens_branch.proofs.record.find_row.Given as goal

abbrev pub invariant-loop-row : goal.invariant-loop-row
invariant-loop-row l =
    (found_from l.row-items l.side l.field l.row-index l.pairs ≡ row_of (map row_tree l.row-items) l.side l.field)
    × (l.pairs + pair_count (drop l.row-index l.row-items) ≡ pair_count l.row-items)
    × (l.pairs ≤ l.row-index)
