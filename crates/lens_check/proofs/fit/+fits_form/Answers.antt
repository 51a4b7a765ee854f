use Rattle.std.proofs.Common.{◌≡◌, ◌≤◌, ◌<◌, true, false, ap, sym, ◌∙◌, arith}
use Rattle.std.specs.Prelude.{nat_le}
use Rattle.std.proofs.lemmas.Bool.{leb-true, leb-false}
use Rattle.lens_forms.specs.Forms.{form_tree, row_tree}
use Rattle.lens_forms.specs.Measures.{rows_parts, arms_parts}
use Rattle.lens_forms.proofs.TreesOfRows.{row_tree-both}
use Rattle.lens_core.specs.Complements.{nil, comp_tree, comps_tree, comp_count}
use Rattle.lens_core.proofs.FormParts.{row_parts, row_smaller}
use Rattle.lens_check.specs.FitTest.{fits, rows_fit}
use Rattle.lens_check.proofs.FitLoops.{and_fails, and_passes, pass_all, pass_next, pass_done, rows_all, paired_next, paired_none, left_next, right_next, rows_done}
use Rattle.lens_check.proofs.fit.+fits_form.Goals as goal
use Rattle.lens_check.proofs.fit.+fits_form.Goals.{fits_rows-in-Both+else-next-len+else-not-fits_form, fits_rows-in-OnlyLeft, fits_rows-in-OnlyRight}
use Rattle.lens_forms.proofs.ArmParts.{parts_below}

pub fits_arm-fits_form-requires : goal.fits_arm-fits_form-requires
fits_arm-fits_form-requires t c =
    let low = parts_below c.as_slice-arm-items.result.now c.loop-arm.arm-index c.arm-item.result c.loop-arm-test.true c.arm-item.is in
    let same = ap arms_parts c.as_slice-arm-items.ensures in
    (omega (arith, low, same), omega (arith, low, same))

-- ---- the places of a container

pub fits_each-loop-i-init : goal.fits_each-loop-i-init
fits_each-loop-i-init t c = pass_all (fits (form_tree c.args.inner.now)) (comps_tree c.args.comps.now)

pub fits_each-returns-then-not-fits_form : goal.fits_each-returns-then-not-fits_form
fits_each-returns-then-not-fits_form t c =
    let within : c.loop-i.i < comp_count (comps_tree c.args.comps.now) = omega arith in
    let bad : fits (form_tree c.args.inner.now) (comp_tree c.get.result.now) ≡ false = cc in
    and_fails _ _ _ _ bad (pass_next (fits (form_tree c.args.inner.now)) (comps_tree c.args.comps.now) c.loop-i.i (comp_tree c.get.result.now) nil within c.get.ensures) c.loop-i.invariant

pub fits_each-returns : goal.fits_each-returns
fits_each-returns t c =
    let past : comp_count (comps_tree c.args.comps.now) ≤ c.loop-i.i = omega arith in
    sym (pass_done (fits (form_tree c.args.inner.now)) (comps_tree c.args.comps.now) c.loop-i.i past) ∙ c.loop-i.invariant

-- ---- the rows of a record

pub fits_rows-loop-row-init : goal.fits_rows-loop-row-init
fits_rows-loop-row-init t c = rows_all c.as_slice-row-items.result.now (comps_tree c.args.comps.now)

pub fits_rows-returns-then-next-len : goal.fits_rows-returns-then-next-len
fits_rows-returns-then-next-len t c =
    let cs = comps_tree c.args.comps.now in
    let past : comp_count cs ≤ c.loop-row.next = omega arith in
    let none = paired_none c.as_slice-row-items.result.now cs c.loop-row.row-index c.loop-row.next c.row-item.result c.in-Both.field-0 c.in-Both.field-1 c.in-Both.form c.loop-row-test.true c.row-item.is c.in-Both.is past in
    sym none ∙ c.loop-row.invariant ∙ ap (λ rows. rows_fit rows cs) c.as_slice-row-items.ensures

pub fits_rows-fits_form-requires : goal.fits_rows-fits_form-requires
fits_rows-fits_form-requires t c =
    let low = row_smaller c.as_slice-row-items.result.now c.loop-row.row-index c.row-item.result c.loop-row-test.true c.row-item.is in
    let row = ap row_parts (ap row_tree c.in-Both.is ∙ row_tree-both c.in-Both.field-0 c.in-Both.field-1 c.in-Both.form) in
    let same = ap rows_parts c.as_slice-row-items.ensures in
    (omega (arith, low, row, same), omega (arith, low, row, same))

pub fits_rows-returns-then-not-fits_form : goal.fits_rows-returns-then-not-fits_form
fits_rows-returns-then-not-fits_form t c =
    let cs = comps_tree c.args.comps.now in
    let within : c.loop-row.next < comp_count cs = omega arith in
    let bad : fits (form_tree c.in-Both.form) (comp_tree c.get.result.now) ≡ false = cc in
    let next = paired_next c.as_slice-row-items.result.now cs c.loop-row.row-index c.loop-row.next c.row-item.result c.in-Both.field-0 c.in-Both.field-1 c.in-Both.form (comp_tree c.get.result.now) nil c.loop-row-test.true c.row-item.is c.in-Both.is within c.get.ensures in
    and_fails _ _ _ _ bad next (c.loop-row.invariant ∙ ap (λ rows. rows_fit rows cs) c.as_slice-row-items.ensures)

pub fits_rows-loop-row-preserved : goal.fits_rows-loop-row-preserved
fits_rows-loop-row-preserved t c =
    let rows = c.as_slice-row-items.result.now in
    let cs = comps_tree c.args.comps.now in
    let i = c.loop-row.row-index in
    let j = c.loop-row.next in
    let r = c.row-item.result in
    elim c.match-row.branch [
      | fits_rows-in-Both+else-next-len+else-not-fits_form w ↦
          let within : j < comp_count cs = omega (arith, w.len.ensures, w.if-next-len.false) in
          let good : fits (form_tree w.in-Both.form) (comp_tree w.get.result.now) ≡ true = cc in
          let next = paired_next rows cs i j r w.in-Both.field-0 w.in-Both.field-1 w.in-Both.form (comp_tree w.get.result.now) nil c.loop-row-test.true c.row-item.is w.in-Both.is within w.get.ensures in
          rw w.next-is (and_passes _ _ _ _ good next c.loop-row.invariant)
      | fits_rows-in-OnlyLeft w ↦
          rw w.next-is (sym (left_next rows cs i j r w.in-OnlyLeft.field-0 w.in-OnlyLeft.field-1 c.loop-row-test.true c.row-item.is w.in-OnlyLeft.is) ∙ c.loop-row.invariant)
      | fits_rows-in-OnlyRight w ↦
          rw w.next-is (sym (right_next rows cs i j r w.in-OnlyRight.field-0 w.in-OnlyRight.field-1 c.loop-row-test.true c.row-item.is w.in-OnlyRight.is) ∙ c.loop-row.invariant)
    ]

pub fits_rows-returns : goal.fits_rows-returns
fits_rows-returns t c =
    let cs = comps_tree c.args.comps.now in
    let j = c.loop-row.next in
    rows_done c.as_slice-row-items.result.now cs c.loop-row.row-index j (nat_le c.len-2.result j) c.loop-row-test.false
    (λ (e : nat_le c.len-2.result j ≡ true). let le : c.len-2.result ≤ j = leb-true c.len-2.result j e in omega (arith, c.len-2.ensures, le))
    (λ (e : nat_le c.len-2.result j ≡ false). let lt : j < c.len-2.result = leb-false c.len-2.result j e in omega (arith, c.len-2.ensures, lt))
    ∙ c.loop-row.invariant ∙ ap (λ rows. rows_fit rows cs) c.as_slice-row-items.ensures
