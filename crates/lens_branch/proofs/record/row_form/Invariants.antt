use Rattle.std.proofs.Common.{◌≡◌, map, drop}
use Rattle.lens_forms.specs.Forms.{row_tree}
use Rattle.lens_branch.specs.RecordSteps.{row_lens}
use Rattle.lens_branch.proofs.record.row_form.Given as goal

abbrev pub invariant-loop-row : goal.invariant-loop-row
invariant-loop-row l = row_lens (map row_tree (drop l.row-index l.row-items)) l.before ≡ row_lens (map row_tree l.row-items) l.number
