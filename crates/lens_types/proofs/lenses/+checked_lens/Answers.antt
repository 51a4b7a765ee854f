use Rattle.std.proofs.Common.{◌+◌, ap, ◌∙◌, arith}
use Rattle.std.specs.Prelude.{max}
use Rattle.doc_values.specs.Types.{highest}
use Rattle.lens_forms.specs.Forms.{left_fields, right_fields}
use Rattle.program_terms.specs.Views.{lens_tree}
use Rattle.lens_types.specs.Earlier.{expanded_form, expanded_rows}
use Rattle.lens_types.specs.Entries.{earlier_tree}
use Rattle.lens_types.specs.Heights.{capped}
use Rattle.lens_types.specs.Sizes.{arms_size, rows_size}
use Rattle.lens_types.proofs.NodeHeights.{greater, rows_from, next_row_failure, next_row_left, next_row_right}
use Rattle.lens_types.proofs.Sizes.{arm_smaller, row_smaller, lens_size-positive}
use Rattle.lens_types.proofs.lenses.+checked_lens.Goals as goal

pub checked_rows-checked_row-requires : goal.checked_rows-checked_row-requires
checked_rows-checked_row-requires t c =
    let low = row_smaller c.as_slice-row-items.result.now c.loop-row.row-index c.row-item.result c.loop-row-test.true c.row-item.is in
    let same = ap rows_size c.as_slice-row-items.ensures in
    (omega (arith, low, same), tt)

pub checked_arms-checked_lens-requires : goal.checked_arms-checked_lens-requires
checked_arms-checked_lens-requires t c =
    let low = arm_smaller c.as_slice-arm-items.result.now c.loop-arm.arm-index c.arm-item.result c.loop-arm-test.true c.arm-item.is in
    let same = ap arms_size c.as_slice-arm-items.ensures in
    (omega (arith, low, same), tt)

pub checked_rows-loop-row-preserved : goal.checked_rows-loop-row-preserved
checked_rows-loop-row-preserved t c =
    let ds = earlier_tree c.args.earlier.now in
    let rows = c.as_slice-row-items.result.now in
    let at = c.loop-row.row-index in
    let row = c.row-item.result in
    let sides = c.in_ok-sides.sides in
    let checked = c.in_ok-sides.ensures in
    let rest_left = capped (highest (left_fields (expanded_rows ds (rows_from (at + 1) rows)))) in
    let rest_right = capped (highest (right_fields (expanded_rows ds (rows_from (at + 1) rows)))) in
    record {
      failure = next_row_failure ds rows at row _ c.loop-row-test.true c.row-item.is checked.0 c.loop-row.invariant.failure;
      lefts =
          ap (λ n. max n rest_left) (greater _ _ _ c.max-left.ensures)
          ∙ next_row_left ds rows at row c.loop-row.left _ sides c.loop-row-test.true c.row-item.is checked.1 c.loop-row.invariant.lefts;
      rights =
          ap (λ n. max n rest_right) (greater _ _ _ c.max-right.ensures)
          ∙ next_row_right ds rows at row c.loop-row.right _ sides c.loop-row-test.true c.row-item.is checked.1 c.loop-row.invariant.rights;
    }

pub checked_composition-checked_lens-requires : goal.checked_composition-checked_lens-requires
checked_composition-checked_lens-requires t c = (omega (arith, lens_size-positive (lens_tree c.args.second.now)), tt)

pub checked_composition-checked_lens-requires-2 : goal.checked_composition-checked_lens-requires-2
checked_composition-checked_lens-requires-2 t c = (omega (arith, lens_size-positive (lens_tree c.args.first.now)), tt)

pub checked_composition-returns : goal.checked_composition-returns
checked_composition-returns t c =
    let ds = earlier_tree c.args.earlier.now in
    rw (c.in_ok-before.ensures.0, c.in_ok-after.ensures.0, c.in_ok-same_middle.ensures)
    (c.low_composition.ensures (expanded_form ds (lens_tree c.args.first.now)) (expanded_form ds (lens_tree c.args.second.now)) c.in_ok-before.ensures.1 c.in_ok-after.ensures.1)
