use Rattle.std.proofs.Common.{◌≡◌, ◌+◌, map}
use Rattle.std.specs.Prelude.{max}
use Rattle.doc_values.specs.Types.{highest}
use Rattle.program_terms.specs.Terms.{term_rows_of, term_arms_of}
use Rattle.program_terms.specs.Views.{arm_tree, arms_tree, lens_tree, row_tree, rows_tree}
use Rattle.lens_forms.specs.Forms.{left_fields, right_fields, left_tags, right_tags}
use Rattle.lens_types.specs.Sizes.{arms_size, lens_size, row_size, rows_size}
use Rattle.lens_types.specs.Checking.{rows_failure, arms_failure}
use Rattle.lens_types.specs.Earlier.{expanded_rows, expanded_arms}
use Rattle.lens_types.specs.Entries.{earlier_tree}
use Rattle.lens_types.specs.Heights.{capped}
use Rattle.lens_types.proofs.NodeHeights.{rows_from, arms_from}
use Rattle.lens_types.proofs.lenses.+checked_lens.Given as goal

abbrev pub invariant-checked_rows-loop-row : goal.invariant-checked_rows-loop-row
invariant-checked_rows-loop-row l = record {
  failure : rows_failure (earlier_tree l.earlier) (rows_from l.row-index l.row-items) ≡ rows_failure (earlier_tree l.earlier) (term_rows_of (map row_tree l.row-items));
  lefts :
      max l.left (capped (highest (left_fields (expanded_rows (earlier_tree l.earlier) (rows_from l.row-index l.row-items)))))
      ≡ capped (highest (left_fields (expanded_rows (earlier_tree l.earlier) (term_rows_of (map row_tree l.row-items)))));
  rights :
      max l.right (capped (highest (right_fields (expanded_rows (earlier_tree l.earlier) (rows_from l.row-index l.row-items)))))
      ≡ capped (highest (right_fields (expanded_rows (earlier_tree l.earlier) (term_rows_of (map row_tree l.row-items)))));
}

abbrev pub invariant-checked_arms-loop-arm : goal.invariant-checked_arms-loop-arm
invariant-checked_arms-loop-arm l = record {
  failure : arms_failure (earlier_tree l.earlier) (arms_from l.arm-index l.arm-items) ≡ arms_failure (earlier_tree l.earlier) (term_arms_of (map arm_tree l.arm-items));
  lefts :
      max l.left (capped (highest (left_tags (expanded_arms (earlier_tree l.earlier) (arms_from l.arm-index l.arm-items)))))
      ≡ capped (highest (left_tags (expanded_arms (earlier_tree l.earlier) (term_arms_of (map arm_tree l.arm-items)))));
  rights :
      max l.right (capped (highest (right_tags (expanded_arms (earlier_tree l.earlier) (arms_from l.arm-index l.arm-items)))))
      ≡ capped (highest (right_tags (expanded_arms (earlier_tree l.earlier) (term_arms_of (map arm_tree l.arm-items)))));
}

abbrev pub decreases-checked_lens : goal.decreases-checked_lens
decreases-checked_lens l = lens_size (lens_tree l.lens.now)

abbrev pub decreases-checked_rows : goal.decreases-checked_rows
decreases-checked_rows l = rows_size (rows_tree l.rows.now)

abbrev pub decreases-checked_row : goal.decreases-checked_row
decreases-checked_row l = row_size (row_tree l.row.now)

abbrev pub decreases-checked_arms : goal.decreases-checked_arms
decreases-checked_arms l = arms_size (arms_tree l.arms.now)

abbrev pub decreases-checked_composition : goal.decreases-checked_composition
decreases-checked_composition l = lens_size (lens_tree l.first.now) + lens_size (lens_tree l.second.now)
