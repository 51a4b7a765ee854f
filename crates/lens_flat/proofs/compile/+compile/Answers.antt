use Rattle.std.proofs.Common.{ap, subst, ◌∙◌, arith}
use Rattle.lens_forms.specs.Forms.{RowTrees, ArmTrees, form_row_list, row_tree}
use Rattle.lens_forms.specs.Measures.{rows_parts, arms_parts}
use Rattle.lens_forms.proofs.TreesOfRows.{row_tree-both}
use Rattle.lens_core.proofs.FormParts.{row_parts, row_smaller}
use Rattle.lens_branch.specs.AlternativeSteps.{arm_lens}
use Rattle.lens_branch.specs.RecordSteps.{row_lens}
use Rattle.lens_flat.specs.Tables.{AddsLenses}
use Rattle.lens_flat.proofs.LensesInside.{paired_more, left_more, right_more, rows_done, arm_more, arms_done}
use Rattle.lens_flat.proofs.compile.+compile.Goals as goal
use Rattle.lens_flat.proofs.compile.+compile.Goals.{row_nodes-in-Both+in_ok-compile_form-in-Both+in_ok-push-in-Both, row_nodes-in-OnlyLeft, row_nodes-in-OnlyRight}
use Rattle.lens_forms.proofs.ArmParts.{parts_below}

pub row_nodes-compile_form-requires : goal.row_nodes-compile_form-requires
row_nodes-compile_form-requires t c =
    let low = row_smaller c.as_slice-row-items.result.now c.loop-row.row-index c.row-item.result c.loop-row-test.true c.row-item.is in
    let row = ap row_parts (ap row_tree c.in-Both.is ∙ row_tree-both c.in-Both.field-0 c.in-Both.field-1 c.in-Both.form) in
    let same = ap rows_parts c.as_slice-row-items.ensures in
    (omega (arith, low, row, same), c.loop-row.invariant.grows.sound)

pub row_nodes-loop-row-preserved : goal.row_nodes-loop-row-preserved
row_nodes-loop-row-preserved t c =
    let rows = c.as_slice-row-items.result.now in
    let i = c.loop-row.row-index in
    let r = c.row-item.result in
    let old = c.args.table.now.items in
    let before = c.loop-row.table.items in
    let inside = c.loop-row.inside.items in
    elim c.match-row.branch [
      | row_nodes-in-Both+in_ok-compile_form-in-Both+in_ok-push-in-Both w ↦
          rw (w.table-is, w.inside-is, w.in_ok-push-in-Both.ensures.items)
          (paired_more old before w.compile_form.new.table.items rows i r w.in-Both.field-0 w.in-Both.field-1 w.in-Both.form inside w.in_ok-compile_form-in-Both.field-0
          c.loop-row-test.true c.row-item.is w.in-Both.is c.loop-row.invariant w.in_ok-compile_form-in-Both.ensures)
      | row_nodes-in-OnlyLeft w ↦
          rw (w.table-is, w.inside-is)
          (left_more old before rows i r w.in-OnlyLeft.field-0 w.in-OnlyLeft.field-1 inside c.loop-row-test.true c.row-item.is w.in-OnlyLeft.is c.loop-row.invariant)
      | row_nodes-in-OnlyRight w ↦
          rw (w.table-is, w.inside-is)
          (right_more old before rows i r w.in-OnlyRight.field-0 w.in-OnlyRight.field-1 inside c.loop-row-test.true c.row-item.is w.in-OnlyRight.is c.loop-row.invariant)
    ]

pub row_nodes-returns : goal.row_nodes-returns
row_nodes-returns t c =
    subst (λ (rows : RowTrees). AddsLenses c.args.table.now.items c.loop-row.table.items (row_lens (form_row_list rows)) c.loop-row.inside.items) c.as_slice-row-items.ensures
    (rows_done c.args.table.now.items c.loop-row.table.items c.as_slice-row-items.result.now c.loop-row.row-index c.loop-row.inside.items (omega arith) c.loop-row.invariant)

pub arm_nodes-compile_form-requires : goal.arm_nodes-compile_form-requires
arm_nodes-compile_form-requires t c =
    let low = parts_below c.as_slice-arm-items.result.now c.loop-arm.arm-index c.arm-item.result c.loop-arm-test.true c.arm-item.is in
    let same = ap arms_parts c.as_slice-arm-items.ensures in
    (omega (arith, low, same), c.loop-arm.invariant.grows.sound)

pub arm_nodes-loop-arm-preserved : goal.arm_nodes-loop-arm-preserved
arm_nodes-loop-arm-preserved t c =
    rw c.in_ok-push.ensures.items
    (arm_more c.args.table.now.items c.loop-arm.table.items c.compile_form.new.table.items c.as_slice-arm-items.result.now c.loop-arm.arm-index c.arm-item.result c.loop-arm.inside.items c.in_ok-compile_form.field-0
    c.loop-arm-test.true c.arm-item.is c.loop-arm.invariant c.in_ok-compile_form.ensures)

pub arm_nodes-returns : goal.arm_nodes-returns
arm_nodes-returns t c =
    subst (λ (arms : ArmTrees). AddsLenses c.args.table.now.items c.loop-arm.table.items (arm_lens arms) c.loop-arm.inside.items) c.as_slice-arm-items.ensures
    (arms_done c.args.table.now.items c.loop-arm.table.items c.as_slice-arm-items.result.now c.loop-arm.arm-index c.loop-arm.inside.items (omega arith) c.loop-arm.invariant)
