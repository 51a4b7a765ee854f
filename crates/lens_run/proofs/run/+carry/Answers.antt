use Rattle.std.proofs.Common.{◌≡◌, Some, ◌∙◌, sym, arith}
use Rattle.std.proofs.lemmas.Result.{err_from_is_err_and}
use Rattle.lens_steps.proofs.OnePrimitive.{one_carried}
use Rattle.edit_module.specs.Views.{primitive_tree, word_tree}
use Rattle.lens_forms.specs.Forms.{form_tree, rows_tree, arms_tree}
use Rattle.lens_core.specs.Complements.{comp_tree, comps_tree, then_comp, rec_comp, alt_comp}
use Rattle.lens_core.specs.Beginnings.{inside}
use Rattle.lens_core.specs.Translation.{carried_tree}
use Rattle.lens_core.proofs.ComplementTrees.{comp_tree-then, comp_tree-rec, comp_tree-alt}
use Rattle.lens_branch.specs.AlternativeSteps.{begin_alternatives}
use Rattle.lens_branch.specs.RecordSteps.{begin_record}
use Rattle.lens_steps.proofs.Compositions.{through_left, through_right, left_far_fault, right_far_fault}
use Rattle.lens_steps.proofs.Rounds.{begun_inside, begun_done, record_done, record_inside, record_not_begun, record_not_inside, alternative_inside, alternative_not_begun, alternative_not_inside}
use Rattle.lens_steps.proofs.WordSteps.{next_done, all_done}
use Rattle.lens_run.proofs.run.+carry.Goals as goal

pub carry_word-loop-primitive-preserved : goal.carry_word-loop-primitive-preserved
carry_word-loop-primitive-preserved t c =
    rw c.in_ok-carried.ensures
    (sym (next_done (form_tree c.args.form.now) c.args.side (comp_tree c.loop-primitive.current) (comp_tree c.in_ok-next.next.comp) (word_tree c.loop-primitive.carried) (word_tree c.in_ok-next.next.word)
    c.as_slice-primitives.result.now c.loop-primitive.primitive-index c.primitive-item.result (omega arith) c.primitive-item.is c.in_ok-next.ensures)
    ∙ c.loop-primitive.invariant)

pub carry_word-returns-then-primitives-eq1 : goal.carry_word-returns-then-primitives-eq1
carry_word-returns-then-primitives-eq1 t c =
    one_carried c.carry_one.result (form_tree c.args.form.now) c.args.side (comp_tree c.args.comp.now) (word_tree c.args.word.now) c.as_slice-primitives.result.now c.index-primitives-0.result c.if-primitives-eq1.true c.index-primitives-0.is
    c.as_slice-primitives.ensures c.carry_one.ensures

pub carry_word-returns : goal.carry_word-returns
carry_word-returns t c =
    rw (← c.as_slice-primitives.ensures)
    (sym c.loop-primitive.invariant
    ∙ all_done (form_tree c.args.form.now) c.args.side (comp_tree c.loop-primitive.current) (word_tree c.loop-primitive.carried) c.as_slice-primitives.result.now c.loop-primitive.primitive-index (omega arith))

pub carry_then-returns-in_err-far-in-Left : goal.carry_then-returns-in_err-far-in-Left
carry_then-returns-in_err-far-in-Left t c =
    let tree : comp_tree c.args.comp.now ≡ then_comp (comp_tree c.deref.result.now) (comp_tree c.deref-in-Left.result.now) = rw (c.deref.ensures, c.deref-in-Left.ensures) (comp_tree-then _ _ _ c.in-Then.is) in
    let p = err_from_is_err_and c.from_residual-in_err-far-in-Left.result c.from_residual-in_err-far-in-Left.ensures.1 in
    rw (p.1, p.2)
    (left_far_fault (form_tree c.args.first.now) (form_tree c.args.second.now) c.args.side (primitive_tree c.args.prim.now) (comp_tree c.args.comp.now) (comp_tree c.deref.result.now) (comp_tree c.deref-in-Left.result.now)
    (carried_tree c.in_ok-near-in-Left.near) c.in_err-far-in-Left.field-0.0 c.in-Left.is tree c.in_ok-near-in-Left.ensures c.in_err-far-in-Left.ensures)

pub carry_then-returns-in_err-far-in-Right : goal.carry_then-returns-in_err-far-in-Right
carry_then-returns-in_err-far-in-Right t c =
    let tree : comp_tree c.args.comp.now ≡ then_comp (comp_tree c.deref-in-Right-2.result.now) (comp_tree c.deref-in-Right.result.now) = rw (c.deref-in-Right.ensures, c.deref-in-Right-2.ensures) (comp_tree-then _ _ _ c.in-Then.is) in
    let p = err_from_is_err_and c.from_residual-in_err-far-in-Right.result c.from_residual-in_err-far-in-Right.ensures.1 in
    rw (p.1, p.2)
    (right_far_fault (form_tree c.args.first.now) (form_tree c.args.second.now) c.args.side (primitive_tree c.args.prim.now) (comp_tree c.args.comp.now) (comp_tree c.deref-in-Right-2.result.now) (comp_tree c.deref-in-Right.result.now)
    (carried_tree c.in_ok-near-in-Right.near) c.in_err-far-in-Right.field-0.0 c.in-Right.is tree c.in_ok-near-in-Right.ensures c.in_err-far-in-Right.ensures)

pub carry_then-returns-in_ok-onward-in-Left : goal.carry_then-returns-in_ok-onward-in-Left
carry_then-returns-in_ok-onward-in-Left t c =
    let tree : comp_tree c.args.comp.now ≡ then_comp (comp_tree c.deref.result.now) (comp_tree c.deref-in-Left.result.now) = rw (c.deref.ensures, c.deref-in-Left.ensures) (comp_tree-then _ _ _ c.in-Then.is) in
    through_left (form_tree c.args.first.now) (form_tree c.args.second.now) c.args.side (primitive_tree c.args.prim.now) (comp_tree c.args.comp.now) (comp_tree c.deref.result.now) (comp_tree c.deref-in-Left.result.now)
    (carried_tree c.in_ok-near-in-Left.near) (carried_tree c.in_ok-far-in-Left.far) _ c.in-Left.is tree c.in_ok-near-in-Left.ensures c.in_ok-far-in-Left.ensures c.in_ok-onward-in-Left.ensures

pub carry_then-returns-in_ok-onward-in-Right : goal.carry_then-returns-in_ok-onward-in-Right
carry_then-returns-in_ok-onward-in-Right t c =
    let tree : comp_tree c.args.comp.now ≡ then_comp (comp_tree c.deref-in-Right-2.result.now) (comp_tree c.deref-in-Right.result.now) = rw (c.deref-in-Right.ensures, c.deref-in-Right-2.ensures) (comp_tree-then _ _ _ c.in-Then.is) in
    through_right (form_tree c.args.first.now) (form_tree c.args.second.now) c.args.side (primitive_tree c.args.prim.now) (comp_tree c.args.comp.now) (comp_tree c.deref-in-Right-2.result.now) (comp_tree c.deref-in-Right.result.now)
    (carried_tree c.in_ok-near-in-Right.near) (carried_tree c.in_ok-far-in-Right.far) _ c.in-Right.is tree c.in_ok-near-in-Right.ensures c.in_ok-far-in-Right.ensures c.in_ok-onward-in-Right.ensures

pub carry_record-returns-in_err-carried : goal.carry_record-returns-in_err-carried
carry_record-returns-in_err-carried t c =
    let tree : comp_tree c.args.comp.now ≡ rec_comp (comps_tree c.in-Rec.comps) = comp_tree-rec _ _ c.in-Rec.is in
    let p = err_from_is_err_and c.from_residual.result c.from_residual.ensures.1 in
    rw (p.1, p.2) (record_not_begun (rows_tree c.args.rows.now) c.args.side (comp_tree c.args.comp.now) (comps_tree c.in-Rec.comps) (primitive_tree c.args.prim.now) c.in_err-carried.field-0.0 tree c.in_err-carried.ensures)

pub carry_record-returns-in_err-inner-in-Inner : goal.carry_record-returns-in_err-inner-in-Inner
carry_record-returns-in_err-inner-in-Inner t c =
    let tree : comp_tree c.args.comp.now ≡ rec_comp (comps_tree c.in-Rec.comps) = comp_tree-rec _ _ c.in-Rec.is in
    let begun : begin_record (rows_tree c.args.rows.now) c.args.side (comps_tree c.in-Rec.comps) (primitive_tree c.args.prim.now) ≡ Some (inside c.in-Inner.part (comp_tree c.in-Inner.comp) (word_tree c.in-Inner.word)) = begun_inside _ c.in_ok-carried.field-0 c.in-Inner.part c.in-Inner.comp c.in-Inner.word c.in_ok-carried.ensures c.in-Inner.is in
    let p = err_from_is_err_and c.from_residual-in_err-inner-in-Inner.result c.from_residual-in_err-inner-in-Inner.ensures.1 in
    rw (p.1, p.2) (record_not_inside (rows_tree c.args.rows.now) c.args.side (comp_tree c.args.comp.now) (comps_tree c.in-Rec.comps) (primitive_tree c.args.prim.now) c.in-Inner.part (comp_tree c.in-Inner.comp) (word_tree c.in-Inner.word) c.in_err-inner-in-Inner.field-0.0 tree begun c.in_err-inner-in-Inner.ensures)

pub carry_record-returns-in_ok-rec_finish-in-Inner : goal.carry_record-returns-in_ok-rec_finish-in-Inner
carry_record-returns-in_ok-rec_finish-in-Inner t c =
    let tree : comp_tree c.args.comp.now ≡ rec_comp (comps_tree c.in-Rec.comps) = comp_tree-rec _ _ c.in-Rec.is in
    let begun : begin_record (rows_tree c.args.rows.now) c.args.side (comps_tree c.in-Rec.comps) (primitive_tree c.args.prim.now) ≡ Some (inside c.in-Inner.part (comp_tree c.in-Inner.comp) (word_tree c.in-Inner.word)) = begun_inside _ c.in_ok-carried.field-0 c.in-Inner.part c.in-Inner.comp c.in-Inner.word c.in_ok-carried.ensures c.in-Inner.is in
    record_inside (rows_tree c.args.rows.now) c.args.side (comp_tree c.args.comp.now) (comps_tree c.in-Rec.comps) (primitive_tree c.args.prim.now) c.in-Inner.part (comp_tree c.in-Inner.comp) (word_tree c.in-Inner.word) (carried_tree c.in_ok-inner-in-Inner.inner) (carried_tree c.in_ok-rec_finish-in-Inner.field-0) tree begun c.in_ok-inner-in-Inner.ensures c.in_ok-rec_finish-in-Inner.ensures

pub carry_record-returns-in-Done : goal.carry_record-returns-in-Done
carry_record-returns-in-Done t c =
    let tree : comp_tree c.args.comp.now ≡ rec_comp (comps_tree c.in-Rec.comps) = comp_tree-rec _ _ c.in-Rec.is in
    record_done (rows_tree c.args.rows.now) c.args.side (comp_tree c.args.comp.now) (comps_tree c.in-Rec.comps) (primitive_tree c.args.prim.now) (carried_tree c.in-Done.carried) tree (begun_done _ c.in_ok-carried.field-0 c.in-Done.carried c.in_ok-carried.ensures c.in-Done.is)

pub carry_alternatives-returns-in_err-carried : goal.carry_alternatives-returns-in_err-carried
carry_alternatives-returns-in_err-carried t c =
    let tree : comp_tree c.args.comp.now ≡ alt_comp c.in-Alt.tag (comp_tree c.deref.result.now) = rw c.deref.ensures (comp_tree-alt _ _ _ c.in-Alt.is) in
    let p = err_from_is_err_and c.from_residual-in_err-carried.result c.from_residual-in_err-carried.ensures.1 in
    rw (p.1, p.2) (alternative_not_begun (arms_tree c.args.arms.now) c.args.side (comp_tree c.args.comp.now) c.in-Alt.tag (comp_tree c.deref.result.now) (primitive_tree c.args.prim.now) c.in_err-carried.field-0.0 c.requires tree c.in_err-carried.ensures)

pub carry_alternatives-returns-in_err-inner-in-Inner : goal.carry_alternatives-returns-in_err-inner-in-Inner
carry_alternatives-returns-in_err-inner-in-Inner t c =
    let tree : comp_tree c.args.comp.now ≡ alt_comp c.in-Alt.tag (comp_tree c.deref.result.now) = rw c.deref.ensures (comp_tree-alt _ _ _ c.in-Alt.is) in
    let begun : begin_alternatives (arms_tree c.args.arms.now) c.args.side c.in-Alt.tag (comp_tree c.deref.result.now) (primitive_tree c.args.prim.now) ≡ Some (inside c.in-Inner.part (comp_tree c.in-Inner.comp) (word_tree c.in-Inner.word)) = begun_inside _ c.in_ok-carried.field-0 c.in-Inner.part c.in-Inner.comp c.in-Inner.word c.in_ok-carried.ensures c.in-Inner.is in
    let p = err_from_is_err_and c.from_residual-in_err-inner-in-Inner.result c.from_residual-in_err-inner-in-Inner.ensures.1 in
    rw (p.1, p.2) (alternative_not_inside (arms_tree c.args.arms.now) c.args.side (comp_tree c.args.comp.now) c.in-Alt.tag (comp_tree c.deref.result.now) (primitive_tree c.args.prim.now) c.in-Inner.part (comp_tree c.in-Inner.comp) (word_tree c.in-Inner.word) c.in_err-inner-in-Inner.field-0.0 c.requires tree begun c.in_err-inner-in-Inner.ensures)

pub carry_alternatives-returns : goal.carry_alternatives-returns
carry_alternatives-returns t c =
    let tree : comp_tree c.args.comp.now ≡ alt_comp c.in-Alt.tag (comp_tree c.deref.result.now) = rw c.deref.ensures (comp_tree-alt _ _ _ c.in-Alt.is) in
    let begun : begin_alternatives (arms_tree c.args.arms.now) c.args.side c.in-Alt.tag (comp_tree c.deref.result.now) (primitive_tree c.args.prim.now) ≡ Some (inside c.in-Inner.part (comp_tree c.in-Inner.comp) (word_tree c.in-Inner.word)) = begun_inside _ c.in_ok-carried.field-0 c.in-Inner.part c.in-Inner.comp c.in-Inner.word c.in_ok-carried.ensures c.in-Inner.is in
    alternative_inside (arms_tree c.args.arms.now) c.args.side (comp_tree c.args.comp.now) c.in-Alt.tag (comp_tree c.deref.result.now) (primitive_tree c.args.prim.now) c.in-Inner.part (comp_tree c.in-Inner.comp) (word_tree c.in-Inner.word) (carried_tree c.in_ok-inner-in-Inner.inner) (carried_tree c.in_ok-alt_finish-in-Inner.field-0) c.requires tree begun c.in_ok-inner-in-Inner.ensures c.in_ok-alt_finish-in-Inner.ensures
