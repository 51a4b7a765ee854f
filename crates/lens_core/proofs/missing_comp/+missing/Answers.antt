use Rattle.std.proofs.Common.{◌≡◌, ap, subst, ◌∙◌, arith}
use Rattle.std.specs.Prelude.{IfOk}
use Rattle.lens_forms.specs.Forms.{row_tree}
use Rattle.lens_core.specs.Complements.{CompTrees, comps_tree, missing_rows}
use Rattle.lens_forms.specs.Measures.{rows_parts}
use Rattle.lens_forms.proofs.TreesOfRows.{row_tree-both}
use Rattle.lens_core.proofs.MissingRows.{missing_done, paired_next, left_next, right_next, made_next}
use Rattle.lens_core.proofs.FormParts.{row_parts, row_smaller}
use Rattle.lens_core.proofs.missing_comp.+missing.Goals as goal
use Rattle.lens_core.proofs.missing_comp.+missing.Goals.{missing_rows-in-Both+in_ok-missing-in-Both+in_ok-push-in-Both, missing_rows-in-OnlyLeft, missing_rows-in-OnlyRight}

pub missing_rows-missing-requires : goal.missing_rows-missing-requires
missing_rows-missing-requires t c =
    let low = row_smaller c.as_slice-row-items.result.now c.loop-row.row-index c.row-item.result c.loop-row-test.true c.row-item.is in
    let row = ap row_parts (ap row_tree c.in-Both.is ∙ row_tree-both c.in-Both.field-0 c.in-Both.field-1 c.in-Both.form) in
    let same = ap rows_parts c.as_slice-row-items.ensures in
    (omega (arith, low, row, same), tt)

pub missing_rows-loop-row-preserved : goal.missing_rows-loop-row-preserved
missing_rows-loop-row-preserved t c =
    let rows = c.as_slice-row-items.result.now in
    let i = c.loop-row.row-index in
    let r = c.row-item.result in
    elim c.match-row.branch [
      | missing_rows-in-Both+in_ok-missing-in-Both+in_ok-push-in-Both w ↦
          let next = paired_next rows i r w.in-Both.field-0 w.in-Both.field-1 w.in-Both.form c.loop-row-test.true c.row-item.is w.in-Both.is in
          rw (w.items-is, w.in_ok-push-in-Both.ensures.items)
          (made_next c.loop-row.items.items w.in_ok-missing-in-Both.field-0 _ _ (rw (next, ← w.in_ok-missing-in-Both.ensures) at c.loop-row.invariant))
      | missing_rows-in-OnlyLeft w ↦
          rw (w.items-is, ← left_next rows i r w.in-OnlyLeft.field-0 w.in-OnlyLeft.field-1 c.loop-row-test.true c.row-item.is w.in-OnlyLeft.is) c.loop-row.invariant
      | missing_rows-in-OnlyRight w ↦
          rw (w.items-is, ← right_next rows i r w.in-OnlyRight.field-0 w.in-OnlyRight.field-1 c.loop-row-test.true c.row-item.is w.in-OnlyRight.is) c.loop-row.invariant
    ]

pub missing_rows-returns : goal.missing_rows-returns
missing_rows-returns t c =
    let done =
    missing_done c.loop-row.items.items c.as_slice-row-items.result.now c.loop-row.row-index c.loop-row-test.false c.loop-row.invariant
    ∙ ap missing_rows c.as_slice-row-items.ensures in
    subst (λ (cs : CompTrees). IfOk c.from_vec.result (λ d. comps_tree d ≡ cs)) done c.from_vec.ensures
