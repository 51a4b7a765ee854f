use Rattle.std.proofs.Common.{◌≡◌, ◌+◌, ◌++◌, map, take, drop}
use Rattle.doc_values.specs.Types.{field_list, field_tree}
use Rattle.program_terms.specs.Terms.{term_rows_of, term_arms_of}
use Rattle.program_terms.specs.Views.{arm_tree, arms_tree, lens_tree, row_tree, rows_tree}
use Rattle.lens_types.specs.Sizes.{arms_size, lens_size, row_size, rows_size}
use Rattle.lens_types.specs.Earlier.{expanded_rows, expanded_arms}
use Rattle.lens_types.specs.Entries.{earlier_tree, weight_before}
use Rattle.lens_types.specs.SideTypes.{fields_on, tags_on}
use Rattle.lens_types.proofs.sides.+side_type.Given as goal

abbrev pub invariant-side_fields-loop-row : goal.invariant-side_fields-loop-row
invariant-side_fields-loop-row l =
    map field_tree l.fields.items ++ field_list (fields_on l.side (expanded_rows (take l.scope (earlier_tree l.earlier)) (term_rows_of (map row_tree (drop l.row-index l.row-items)))))
    ≡ field_list (fields_on l.side (expanded_rows (take l.scope (earlier_tree l.earlier)) (term_rows_of (map row_tree l.row-items))))

abbrev pub invariant-side_tags-loop-arm : goal.invariant-side_tags-loop-arm
invariant-side_tags-loop-arm l =
    map field_tree l.tags.items ++ field_list (tags_on l.side (expanded_arms (take l.scope (earlier_tree l.earlier)) (term_arms_of (map arm_tree (drop l.arm-index l.arm-items)))))
    ≡ field_list (tags_on l.side (expanded_arms (take l.scope (earlier_tree l.earlier)) (term_arms_of (map arm_tree l.arm-items))))

abbrev pub decreases-side_type : goal.decreases-side_type
decreases-side_type l = weight_before l.scope l.earlier.now + lens_size (lens_tree l.lens.now)

abbrev pub decreases-side_fields : goal.decreases-side_fields
decreases-side_fields l = weight_before l.scope l.earlier.now + rows_size (rows_tree l.rows.now)

abbrev pub decreases-side_field : goal.decreases-side_field
decreases-side_field l = weight_before l.scope l.earlier.now + row_size (row_tree l.row.now)

abbrev pub decreases-side_tags : goal.decreases-side_tags
decreases-side_tags l = weight_before l.scope l.earlier.now + arms_size (arms_tree l.arms.now)
