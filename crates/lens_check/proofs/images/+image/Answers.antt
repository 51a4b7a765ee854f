use Rattle.std.proofs.Common.{◌≡◌, ◌<◌, ◌≤◌, None, Some, IfOk, option_map, ap, sym, subst, ◌∙◌, arith}
use Rattle.lens_forms.specs.Forms.{form_tree, row_tree, rows_tree, arms_tree, form_each, form_keyed, form_ordered}
use Rattle.lens_forms.specs.Measures.{form_parts, rows_parts}
use Rattle.lens_forms.proofs.TreesOfRows.{row_tree-both}
use Rattle.lens_core.specs.Complements.{comp_tree, comps_tree, comp_count}
use Rattle.lens_core.specs.Sides.{fields_on}
use Rattle.lens_core.proofs.FormParts.{row_parts, row_smaller}
use Rattle.lens_core.proofs.ComplementTrees.{comp_tree-rec, comp_tree-alt, comp_tree-hold}
use Rattle.law_images.specs.Image.{image, patterns_by_name}
use Rattle.law_images.specs.Patterns.{pattern_tree, rec_pattern, hold_pattern}
use Rattle.lens_check.specs.ImageParts.{names_in, patterns_in}
use Rattle.lens_check.specs.ReadyComplements.{IsReady}
use Rattle.lens_check.proofs.FarFields.{ready_both}
use Rattle.lens_check.proofs.HeldPatterns.{shape_seen, ready_at}
use Rattle.lens_check.proofs.ImageSteps.{gave, alt_missing, ready_held, held_next, held_stopped, held_done, record_pattern, record_done, near_rising, field_among, row_both, row_left, row_right}
use Rattle.lens_check.proofs.images.+image.Goals as goal
use Rattle.lens_check.proofs.images.+image.Goals.{image_record-in-Both+else-pairs-len+in_ok-image-in-Both+in-Some+in_ok-put-in-Both, image_record-in-OnlyLeft+in_ok-put_alone-in-OnlyLeft, image_record-in-OnlyRight+in_ok-put_alone-in-OnlyRight}
use Rattle.lens_forms.proofs.FormLevels.{each_tree, keyed_tree, ordered_tree}

-- ---- forms that map another over a container

pub image_of-image_held-requires : goal.image_of-image_held-requires
image_of-image_held-requires t c =
    let tree : form_tree c.args.form.now ≡ form_each (form_tree c.deref-in-Each.result.now) = each_tree _ _ _ c.in-Each.is c.deref-in-Each.ensures in
    let low = ap form_parts tree in
    (omega (arith, low), subst (λ z. IsReady z (comp_tree c.args.comp.now)) tree c.requires)

pub image_of-image_held-requires-in-Keyed : goal.image_of-image_held-requires-in-Keyed
image_of-image_held-requires-in-Keyed t c =
    let tree : form_tree c.args.form.now ≡ form_keyed (form_tree c.deref-in-Keyed.result.now) = keyed_tree _ _ _ c.in-Keyed.is c.deref-in-Keyed.ensures in
    let low = ap form_parts tree in
    (omega (arith, low), subst (λ z. IsReady z (comp_tree c.args.comp.now)) tree c.requires)

pub image_of-image_held-requires-in-Tree : goal.image_of-image_held-requires-in-Tree
image_of-image_held-requires-in-Tree t c =
    let tree : form_tree c.args.form.now ≡ form_ordered (form_tree c.deref-in-Tree.result.now) = ordered_tree _ _ _ c.in-Tree.is c.deref-in-Tree.ensures in
    let low = ap form_parts tree in
    (omega (arith, low), subst (λ z. IsReady z (comp_tree c.args.comp.now)) tree c.requires)

pub image_of-returns-in-Each : goal.image_of-returns-in-Each
image_of-returns-in-Each t c =
    let tree : form_tree c.args.form.now ≡ form_each (form_tree c.deref-in-Each.result.now) = each_tree _ _ _ c.in-Each.is c.deref-in-Each.ensures in
    subst (λ z. IfOk c.image_held.result (λ q. option_map pattern_tree q ≡ image z c.args.side (comp_tree c.args.comp.now) (pattern_tree c.args.pattern.now))) (sym tree) c.image_held.ensures

pub image_of-returns-in-Keyed : goal.image_of-returns-in-Keyed
image_of-returns-in-Keyed t c =
    let tree : form_tree c.args.form.now ≡ form_keyed (form_tree c.deref-in-Keyed.result.now) = keyed_tree _ _ _ c.in-Keyed.is c.deref-in-Keyed.ensures in
    subst (λ z. IfOk c.image_held-in-Keyed.result (λ q. option_map pattern_tree q ≡ image z c.args.side (comp_tree c.args.comp.now) (pattern_tree c.args.pattern.now))) (sym tree) c.image_held-in-Keyed.ensures

pub image_of-returns-in-Tree : goal.image_of-returns-in-Tree
image_of-returns-in-Tree t c =
    let tree : form_tree c.args.form.now ≡ form_ordered (form_tree c.deref-in-Tree.result.now) = ordered_tree _ _ _ c.in-Tree.is c.deref-in-Tree.ensures in
    subst (λ z. IfOk c.image_held-in-Tree.result (λ q. option_map pattern_tree q ≡ image z c.args.side (comp_tree c.args.comp.now) (pattern_tree c.args.pattern.now))) (sym tree) c.image_held-in-Tree.ensures

-- ---- alternatives

pub image_alternatives-returns-in-None : goal.image_alternatives-returns-in-None
image_alternatives-returns-in-None t c =
    alt_missing (arms_tree c.args.arms.now) c.args.side (comp_tree c.args.comp.now) c.in-Alt.tag (comp_tree c.in-Alt.part.value) (pattern_tree c.args.pattern.now)
    (comp_tree-alt _ _ _ c.in-Alt.is) (sym c.in-None.ensures.found)

-- ---- the places of a container

pub image_held-image_of-requires : goal.image_held-image_of-requires
image_held-image_of-requires t c =
    let cs = comps_tree c.in-Hold.comps in
    let all = ready_held (IsReady (form_tree c.args.inner.now)) (comp_tree c.args.comp.now) c.in-Hold.shape cs (comp_tree-hold _ _ _ c.in-Hold.is) c.requires in
    let within : c.loop-place.place < comp_count cs = omega arith in
    (omega arith, subst (IsReady (form_tree c.args.inner.now)) (sym c.get.ensures) (ready_at (IsReady (form_tree c.args.inner.now)) cs c.loop-place.place within all))

pub image_held-returns-in-None : goal.image_held-returns-in-None
image_held-returns-in-None t c =
    let cs = comps_tree c.in-Hold.comps in
    let inner = image (form_tree c.args.inner.now) c.args.side in
    let within : c.loop-place.place < comp_count cs = omega arith in
    let shaped = shape_seen c.in-Hold.shape (comp_count cs) c.len.result (pattern_tree c.args.pattern.now) c.has_shape.result c.has_shape.ensures c.len.ensures c.if-not-has_shape.false in
    let none = gave c.in_ok-image.field-0 None (inner (comp_tree c.get.result.now) (pattern_tree c.place_pattern-near.result.now)) c.in_ok-image.ensures c.in-None.is in
    held_stopped inner (comp_tree c.args.comp.now) c.in-Hold.shape cs (pattern_tree c.args.pattern.now) c.loop-place.place c.loop-place.images.items _ _
    (comp_tree-hold _ _ _ c.in-Hold.is) shaped within c.get.ensures c.place_pattern-near.ensures none c.loop-place.invariant

pub image_held-loop-place-preserved : goal.image_held-loop-place-preserved
image_held-loop-place-preserved t c =
    let cs = comps_tree c.in-Hold.comps in
    let inner = image (form_tree c.args.inner.now) c.args.side in
    let within : c.loop-place.place < comp_count cs = omega arith in
    let shaped = shape_seen c.in-Hold.shape (comp_count cs) c.len.result (pattern_tree c.args.pattern.now) c.has_shape.result c.has_shape.ensures c.len.ensures c.if-not-has_shape.false in
    let one = gave c.in_ok-image.field-0 (Some c.in-Some.image) (inner (comp_tree c.get.result.now) (pattern_tree c.place_pattern-near.result.now)) c.in_ok-image.ensures c.in-Some.is in
    rw c.in_ok-push-in-Some.ensures
    (held_next inner c.in-Hold.shape cs (pattern_tree c.args.pattern.now) c.loop-place.place c.loop-place.images.items _ _ c.in-Some.image
    shaped within c.get.ensures c.place_pattern-near.ensures one c.loop-place.invariant)

pub image_held-returns : goal.image_held-returns
image_held-returns t c =
    let cs = comps_tree c.in-Hold.comps in
    let inner = image (form_tree c.args.inner.now) c.args.side in
    let end : comp_count cs ≤ c.loop-place.place = omega arith in
    let shaped = shape_seen c.in-Hold.shape (comp_count cs) c.len.result (pattern_tree c.args.pattern.now) c.has_shape.result c.has_shape.ensures c.len.ensures c.if-not-has_shape.false in
    ap Some (c.in_ok-held.ensures ∙ ap (hold_pattern c.in-Hold.shape) c.in_ok-images.ensures)
    ∙ held_done inner (comp_tree c.args.comp.now) c.in-Hold.shape cs (pattern_tree c.args.pattern.now) c.loop-place.place c.loop-place.images.items
    (comp_tree-hold _ _ _ c.in-Hold.is) shaped end c.loop-place.invariant

-- ---- the rows of a record

pub image_record-image_of_field-requires : goal.image_record-image_of_field-requires
image_record-image_of_field-requires t c =
    let rows = c.as_slice-row-items.result.now in
    let whole = rows_tree c.args.rows.now in
    let cs = comps_tree c.in-Rec.comps in
    let i = c.loop-row.row-index in
    let k = c.loop-row.pairs in
    let r = c.row-item.result in
    let within : k < comp_count cs = omega arith in
    let low = row_smaller rows i r c.loop-row-test.true c.row-item.is in
    let row = ap row_parts (ap row_tree c.in-Both.is ∙ row_tree-both c.in-Both.left c.in-Both.right c.in-Both.form) in
    let same = ap rows_parts c.as_slice-row-items.ensures in
    let ready = (ready_both rows cs i k r c.in-Both.left c.in-Both.right c.in-Both.form c.loop-row-test.true c.row-item.is c.in-Both.is within c.loop-row.invariant.2).0 in (
      omega (arith, low, row, same),
      (
        subst (IsReady (form_tree c.in-Both.form)) (sym c.get-comp.ensures) ready,
        (
          field_among rows whole c.args.side i r c.in-Both.left c.in-Both.right c.near-name.result.now c.in-Both.form c.as_slice-row-items.ensures c.loop-row-test.true c.row-item.is c.in-Both.is c.near-name.ensures,
          near_rising c.args.side whole (comp_tree c.args.comp.now) cs (comp_tree-rec _ _ c.in-Rec.is) c.requires,
        ),
      ),
    )

pub image_record-loop-row-preserved : goal.image_record-loop-row-preserved
image_record-loop-row-preserved t c =
    let rows = c.as_slice-row-items.result.now in
    let cs = comps_tree c.in-Rec.comps in
    let at = patterns_by_name (fields_on c.args.side (rows_tree c.args.rows.now)) (pattern_tree c.args.pattern.now) in
    let i = c.loop-row.row-index in
    let k = c.loop-row.pairs in
    let ns = names_in c.loop-row.fields in
    let ps = patterns_in c.loop-row.fields in
    elim c.match-row.branch [
      | image_record-in-Both+else-pairs-len+in_ok-image-in-Both+in-Some+in_ok-put-in-Both w ↦
          let within : k < comp_count cs = omega (arith, w.len.ensures, w.if-pairs-len.false) in
          let one = gave w.in_ok-image-in-Both.field-0 (Some w.in-Some.image) (image (form_tree w.in-Both.form) c.args.side (comp_tree w.get-comp.result.now) (at w.near-name.result.now)) w.in_ok-image-in-Both.ensures w.in-Some.is in
          rw w.pairs-is
          (row_both rows c.args.side cs at i k ns (names_in c.match-row.fields) ps (patterns_in c.match-row.fields) c.row-item.result w.in-Both.left w.in-Both.right w.far.result.now w.in-Both.form
          (comp_tree w.get-comp.result.now) (at w.near-name.result.now) (pattern_tree w.in-Some.image)
          c.loop-row-test.true c.row-item.is w.in-Both.is within w.get-comp.ensures (ap at w.near-name.ensures) one w.far.ensures
          (ap names_in w.fields-is ∙ w.in_ok-put-in-Both.ensures.names) (ap patterns_in w.fields-is ∙ w.in_ok-put-in-Both.ensures.patterns) c.loop-row.invariant)
      | image_record-in-OnlyLeft+in_ok-put_alone-in-OnlyLeft w ↦
          rw w.pairs-is
          (row_left rows c.args.side cs at i k ns (names_in c.match-row.fields) ps (patterns_in c.match-row.fields) c.row-item.result w.in-OnlyLeft.name w.in-OnlyLeft.field-1
          c.loop-row-test.true c.row-item.is w.in-OnlyLeft.is
          (ap names_in w.fields-is ∙ w.in_ok-put_alone-in-OnlyLeft.ensures.names) (ap patterns_in w.fields-is ∙ w.in_ok-put_alone-in-OnlyLeft.ensures.patterns) c.loop-row.invariant)
      | image_record-in-OnlyRight+in_ok-put_alone-in-OnlyRight w ↦
          rw w.pairs-is
          (row_right rows c.args.side cs at i k ns (names_in c.match-row.fields) ps (patterns_in c.match-row.fields) c.row-item.result w.in-OnlyRight.name w.in-OnlyRight.field-1
          c.loop-row-test.true c.row-item.is w.in-OnlyRight.is
          (ap names_in w.fields-is ∙ w.in_ok-put_alone-in-OnlyRight.ensures.names) (ap patterns_in w.fields-is ∙ w.in_ok-put_alone-in-OnlyRight.ensures.patterns) c.loop-row.invariant)
    ]

pub image_record-returns : goal.image_record-returns
image_record-returns t c =
    let rows = c.as_slice-row-items.result.now in
    ap Some (record_pattern c.in_ok-from_vec.field-0 ∙ ap rec_pattern c.in_ok-from_vec.ensures)
    ∙ record_done rows (rows_tree c.args.rows.now) c.args.side (comp_tree c.args.comp.now) (comps_tree c.in-Rec.comps) (pattern_tree c.args.pattern.now) c.loop-row.row-index c.loop-row.pairs
    (names_in c.loop-row.fields) (patterns_in c.loop-row.fields) c.as_slice-row-items.ensures (comp_tree-rec _ _ c.in-Rec.is) c.requires (omega arith) c.loop-row.invariant.0
