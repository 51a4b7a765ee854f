use Rattle.std.proofs.Common.{◌≡◌, Some, ◌∙◌, sym, arith}
use Rattle.std.specs.Prelude.{slice_get}
use Rattle.std.proofs.lemmas.Result.{err_from_is_err_and}
use Rattle.edit_module.specs.Views.{primitive_tree, word_tree}
use Rattle.lens_forms.specs.Forms.{rows_tree, arms_tree}
use Rattle.lens_core.specs.Complements.{comp_tree, comps_tree, then_comp, rec_comp, alt_comp}
use Rattle.lens_core.specs.Beginnings.{inside}
use Rattle.lens_core.specs.Translation.{translate, carried_tree}
use Rattle.lens_core.proofs.ComplementTrees.{comp_tree-then, comp_tree-rec, comp_tree-alt}
use Rattle.lens_branch.specs.AlternativeSteps.{begin_alternatives, arm_translation}
use Rattle.lens_branch.specs.RecordSteps.{begin_record, row_translation}
use Rattle.lens_steps.proofs.OnePrimitive.{one_carried}
use Rattle.lens_steps.proofs.Compositions.{through_left, through_right, left_far_fault, right_far_fault}
use Rattle.lens_steps.proofs.Rounds.{begun_inside, begun_done, record_done, record_inside, record_not_begun, record_not_inside, alternative_inside, alternative_not_begun, alternative_not_inside}
use Rattle.lens_steps.proofs.WordSteps.{next_done, all_done}
use Rattle.lens_flat.specs.Tables.{form_at, node_form}
use Rattle.lens_flat.specs.declared.node.Node.TheVariants.{Leaf, Then, Record, Alternatives, Held, Partition, Inverse}
use Rattle.lens_flat.proofs.InsideNodes.{at_node, leaf_inside, then_inside, held_inside, inverse_inside, partition_is_ready, arms_ready, row_ready, row_carried, row_past, arm_ready, arm_carried, arm_past, of_form, of_inverse, of_value}
use Rattle.lens_flat.proofs.walk.+carry.Goals as goal

pub carry_word-loop-primitive-preserved : goal.carry_word-loop-primitive-preserved
carry_word-loop-primitive-preserved t c =
    rw c.in_ok-carried.ensures
    (sym (next_done (form_at c.args.table.now c.args.number) c.args.side (comp_tree c.loop-primitive.current) (comp_tree c.in_ok-next.next.comp) (word_tree c.loop-primitive.carried) (word_tree c.in_ok-next.next.word)
    c.as_slice-primitives.result.now c.loop-primitive.primitive-index c.primitive-item.result (omega arith) c.primitive-item.is c.in_ok-next.ensures)
    ∙ c.loop-primitive.invariant)

pub carry_word-returns-then-primitives-eq1 : goal.carry_word-returns-then-primitives-eq1
carry_word-returns-then-primitives-eq1 t c =
    one_carried c.carry_one.result (form_at c.args.table.now c.args.number) c.args.side (comp_tree c.args.comp.now) (word_tree c.args.word.now) c.as_slice-primitives.result.now c.index-primitives-0.result c.if-primitives-eq1.true c.index-primitives-0.is
    c.as_slice-primitives.ensures c.carry_one.ensures

pub carry_word-returns : goal.carry_word-returns
carry_word-returns t c =
    rw (← c.as_slice-primitives.ensures)
    (sym c.loop-primitive.invariant
    ∙ all_done (form_at c.args.table.now c.args.number) c.args.side (comp_tree c.loop-primitive.current) (word_tree c.loop-primitive.carried) c.as_slice-primitives.result.now c.loop-primitive.primitive-index (omega arith))

pub carry_then-returns-in_err-far-in-Left : goal.carry_then-returns-in_err-far-in-Left
carry_then-returns-in_err-far-in-Left t c =
    let tree : comp_tree c.args.comp.now ≡ then_comp (comp_tree c.deref.result.now) (comp_tree c.deref-in-Left.result.now) = rw (c.deref.ensures, c.deref-in-Left.ensures) (comp_tree-then _ _ _ c.in-Then.is) in
    let p = err_from_is_err_and c.from_residual-in_err-far-in-Left.result c.from_residual-in_err-far-in-Left.ensures.1 in
    rw (p.1, p.2)
    (left_far_fault (form_at c.args.table.now c.args.first) (form_at c.args.table.now c.args.second) c.args.side (primitive_tree c.args.prim.now) (comp_tree c.args.comp.now) (comp_tree c.deref.result.now) (comp_tree c.deref-in-Left.result.now)
    (carried_tree c.in_ok-near-in-Left.near) c.in_err-far-in-Left.field-0.0 c.in-Left.is tree c.in_ok-near-in-Left.ensures c.in_err-far-in-Left.ensures)

pub carry_then-returns-in_err-far-in-Right : goal.carry_then-returns-in_err-far-in-Right
carry_then-returns-in_err-far-in-Right t c =
    let tree : comp_tree c.args.comp.now ≡ then_comp (comp_tree c.deref-in-Right-2.result.now) (comp_tree c.deref-in-Right.result.now) = rw (c.deref-in-Right.ensures, c.deref-in-Right-2.ensures) (comp_tree-then _ _ _ c.in-Then.is) in
    let p = err_from_is_err_and c.from_residual-in_err-far-in-Right.result c.from_residual-in_err-far-in-Right.ensures.1 in
    rw (p.1, p.2)
    (right_far_fault (form_at c.args.table.now c.args.first) (form_at c.args.table.now c.args.second) c.args.side (primitive_tree c.args.prim.now) (comp_tree c.args.comp.now) (comp_tree c.deref-in-Right-2.result.now) (comp_tree c.deref-in-Right.result.now)
    (carried_tree c.in_ok-near-in-Right.near) c.in_err-far-in-Right.field-0.0 c.in-Right.is tree c.in_ok-near-in-Right.ensures c.in_err-far-in-Right.ensures)

pub carry_then-returns-in_ok-onward-in-Left : goal.carry_then-returns-in_ok-onward-in-Left
carry_then-returns-in_ok-onward-in-Left t c =
    let tree : comp_tree c.args.comp.now ≡ then_comp (comp_tree c.deref.result.now) (comp_tree c.deref-in-Left.result.now) = rw (c.deref.ensures, c.deref-in-Left.ensures) (comp_tree-then _ _ _ c.in-Then.is) in
    through_left (form_at c.args.table.now c.args.first) (form_at c.args.table.now c.args.second) c.args.side (primitive_tree c.args.prim.now) (comp_tree c.args.comp.now) (comp_tree c.deref.result.now) (comp_tree c.deref-in-Left.result.now)
    (carried_tree c.in_ok-near-in-Left.near) (carried_tree c.in_ok-far-in-Left.far) _ c.in-Left.is tree c.in_ok-near-in-Left.ensures c.in_ok-far-in-Left.ensures c.in_ok-onward-in-Left.ensures

pub carry_then-returns-in_ok-onward-in-Right : goal.carry_then-returns-in_ok-onward-in-Right
carry_then-returns-in_ok-onward-in-Right t c =
    let tree : comp_tree c.args.comp.now ≡ then_comp (comp_tree c.deref-in-Right-2.result.now) (comp_tree c.deref-in-Right.result.now) = rw (c.deref-in-Right.ensures, c.deref-in-Right-2.ensures) (comp_tree-then _ _ _ c.in-Then.is) in
    through_right (form_at c.args.table.now c.args.first) (form_at c.args.table.now c.args.second) c.args.side (primitive_tree c.args.prim.now) (comp_tree c.args.comp.now) (comp_tree c.deref-in-Right-2.result.now) (comp_tree c.deref-in-Right.result.now)
    (carried_tree c.in_ok-near-in-Right.near) (carried_tree c.in_ok-far-in-Right.far) _ c.in-Right.is tree c.in_ok-near-in-Right.ensures c.in_ok-far-in-Right.ensures c.in_ok-onward-in-Right.ensures

pub carry_record-returns-in_err-carried : goal.carry_record-returns-in_err-carried
carry_record-returns-in_err-carried t c =
    let tree : comp_tree c.args.comp.now ≡ rec_comp (comps_tree c.in-Rec.comps) = comp_tree-rec _ _ c.in-Rec.is in
    let p = err_from_is_err_and c.from_residual.result c.from_residual.ensures.1 in
    rw (p.1, p.2) (record_not_begun (rows_tree c.args.rows.now) c.args.side (comp_tree c.args.comp.now) (comps_tree c.in-Rec.comps) (primitive_tree c.args.prim.now) c.in_err-carried.field-0.0 tree c.in_err-carried.ensures)

pub carry_record-returns-in_err-inner-in-Inner : goal.carry_record-returns-in_err-inner-in-Inner
carry_record-returns-in_err-inner-in-Inner t c =
    let tree : comp_tree c.args.comp.now ≡ rec_comp (comps_tree c.in-Rec.comps) = comp_tree-rec _ _ c.in-Rec.is in
    let begun : begin_record (rows_tree c.args.rows.now) c.args.side (comps_tree c.in-Rec.comps) (primitive_tree c.args.prim.now) ≡ Some (inside c.in-Inner.part (comp_tree c.in-Inner.comp) (word_tree c.in-Inner.word)) = begun_inside _ c.in_ok-carried.field-0 c.in-Inner.part c.in-Inner.comp c.in-Inner.word c.in_ok-carried.ensures c.in-Inner.is in
    let p = err_from_is_err_and c.from_residual-in_err-inner-in-Inner.result c.from_residual-in_err-inner-in-Inner.ensures.1 in
    rw (p.1, p.2) (record_not_inside (rows_tree c.args.rows.now) c.args.side (comp_tree c.args.comp.now) (comps_tree c.in-Rec.comps) (primitive_tree c.args.prim.now) c.in-Inner.part (comp_tree c.in-Inner.comp) (word_tree c.in-Inner.word) c.in_err-inner-in-Inner.field-0.0 tree begun c.in_err-inner-in-Inner.ensures)

pub carry_record-returns-in_ok-rec_finish-in-Inner : goal.carry_record-returns-in_ok-rec_finish-in-Inner
carry_record-returns-in_ok-rec_finish-in-Inner t c =
    let tree : comp_tree c.args.comp.now ≡ rec_comp (comps_tree c.in-Rec.comps) = comp_tree-rec _ _ c.in-Rec.is in
    let begun : begin_record (rows_tree c.args.rows.now) c.args.side (comps_tree c.in-Rec.comps) (primitive_tree c.args.prim.now) ≡ Some (inside c.in-Inner.part (comp_tree c.in-Inner.comp) (word_tree c.in-Inner.word)) = begun_inside _ c.in_ok-carried.field-0 c.in-Inner.part c.in-Inner.comp c.in-Inner.word c.in_ok-carried.ensures c.in-Inner.is in
    record_inside (rows_tree c.args.rows.now) c.args.side (comp_tree c.args.comp.now) (comps_tree c.in-Rec.comps) (primitive_tree c.args.prim.now) c.in-Inner.part (comp_tree c.in-Inner.comp) (word_tree c.in-Inner.word) (carried_tree c.in_ok-inner-in-Inner.inner) (carried_tree c.in_ok-rec_finish-in-Inner.field-0) tree begun c.in_ok-inner-in-Inner.ensures c.in_ok-rec_finish-in-Inner.ensures

pub carry_record-returns-in-Done : goal.carry_record-returns-in-Done
carry_record-returns-in-Done t c =
    let tree : comp_tree c.args.comp.now ≡ rec_comp (comps_tree c.in-Rec.comps) = comp_tree-rec _ _ c.in-Rec.is in
    record_done (rows_tree c.args.rows.now) c.args.side (comp_tree c.args.comp.now) (comps_tree c.in-Rec.comps) (primitive_tree c.args.prim.now) (carried_tree c.in-Done.carried) tree (begun_done _ c.in_ok-carried.field-0 c.in-Done.carried c.in_ok-carried.ensures c.in-Done.is)

pub carry_alternatives-returns-in_err-carried : goal.carry_alternatives-returns-in_err-carried
carry_alternatives-returns-in_err-carried t c =
    let ready = arms_ready c.args.table.now c.args.number c.args.arms.now c.args.starts.now c.args.inside.now c.requires in
    let tree : comp_tree c.args.comp.now ≡ alt_comp c.in-Alt.tag (comp_tree c.deref.result.now) = rw c.deref.ensures (comp_tree-alt _ _ _ c.in-Alt.is) in
    let p = err_from_is_err_and c.from_residual.result c.from_residual.ensures.1 in
    rw (p.1, p.2) (alternative_not_begun (arms_tree c.args.arms.now) c.args.side (comp_tree c.args.comp.now) c.in-Alt.tag (comp_tree c.deref.result.now) (primitive_tree c.args.prim.now) c.in_err-carried.field-0.0 ready tree c.in_err-carried.ensures)

pub carry_alternatives-returns-in_err-inner-in-Inner : goal.carry_alternatives-returns-in_err-inner-in-Inner
carry_alternatives-returns-in_err-inner-in-Inner t c =
    let ready = arms_ready c.args.table.now c.args.number c.args.arms.now c.args.starts.now c.args.inside.now c.requires in
    let tree : comp_tree c.args.comp.now ≡ alt_comp c.in-Alt.tag (comp_tree c.deref.result.now) = rw c.deref.ensures (comp_tree-alt _ _ _ c.in-Alt.is) in
    let begun : begin_alternatives (arms_tree c.args.arms.now) c.args.side c.in-Alt.tag (comp_tree c.deref.result.now) (primitive_tree c.args.prim.now) ≡ Some (inside c.in-Inner.part (comp_tree c.in-Inner.comp) (word_tree c.in-Inner.word)) = begun_inside _ c.in_ok-carried.field-0 c.in-Inner.part c.in-Inner.comp c.in-Inner.word c.in_ok-carried.ensures c.in-Inner.is in
    let p = err_from_is_err_and c.from_residual-in_err-inner-in-Inner.result c.from_residual-in_err-inner-in-Inner.ensures.1 in
    rw (p.1, p.2) (alternative_not_inside (arms_tree c.args.arms.now) c.args.side (comp_tree c.args.comp.now) c.in-Alt.tag (comp_tree c.deref.result.now) (primitive_tree c.args.prim.now) c.in-Inner.part (comp_tree c.in-Inner.comp) (word_tree c.in-Inner.word) c.in_err-inner-in-Inner.field-0.0 ready tree begun c.in_err-inner-in-Inner.ensures)

pub carry_alternatives-returns-in_ok-alt_finish-in-Inner : goal.carry_alternatives-returns-in_ok-alt_finish-in-Inner
carry_alternatives-returns-in_ok-alt_finish-in-Inner t c =
    let ready = arms_ready c.args.table.now c.args.number c.args.arms.now c.args.starts.now c.args.inside.now c.requires in
    let tree : comp_tree c.args.comp.now ≡ alt_comp c.in-Alt.tag (comp_tree c.deref.result.now) = rw c.deref.ensures (comp_tree-alt _ _ _ c.in-Alt.is) in
    let begun : begin_alternatives (arms_tree c.args.arms.now) c.args.side c.in-Alt.tag (comp_tree c.deref.result.now) (primitive_tree c.args.prim.now) ≡ Some (inside c.in-Inner.part (comp_tree c.in-Inner.comp) (word_tree c.in-Inner.word)) = begun_inside _ c.in_ok-carried.field-0 c.in-Inner.part c.in-Inner.comp c.in-Inner.word c.in_ok-carried.ensures c.in-Inner.is in
    alternative_inside (arms_tree c.args.arms.now) c.args.side (comp_tree c.args.comp.now) c.in-Alt.tag (comp_tree c.deref.result.now) (primitive_tree c.args.prim.now) c.in-Inner.part (comp_tree c.in-Inner.comp) (word_tree c.in-Inner.word) (carried_tree c.in_ok-inner-in-Inner.inner) (carried_tree c.in_ok-alt_finish-in-Inner.field-0) ready tree begun c.in_ok-inner-in-Inner.ensures c.in_ok-alt_finish-in-Inner.ensures

pub carry_row-carry_word-requires : goal.carry_row-carry_word-requires
carry_row-carry_word-requires t c =
    let place : slice_get c.args.inside.now.items c.args.part ≡ Some c.in-Some.lens = sym c.lens_at.ensures ∙ c.in-Some.is in
    let ready = row_ready c.args.table.now c.args.number c.args.rows.now c.args.inside.now c.args.part c.in-Some.lens c.requires place in
    let low = ready.0 in
    (omega (arith, low), ready.1)

pub carry_row-returns-in-Some : goal.carry_row-returns-in-Some
carry_row-returns-in-Some t c =
    let place : slice_get c.args.inside.now.items c.args.part ≡ Some c.in-Some.lens = sym c.lens_at.ensures ∙ c.in-Some.is in
    of_value c.carry_word.result (row_translation (rows_tree c.args.rows.now) c.args.side c.args.part (comp_tree c.args.comp.now) (word_tree c.args.word.now))
    (translate (form_at c.args.table.now c.in-Some.lens) c.args.side (comp_tree c.args.comp.now) (word_tree c.args.word.now))
    (row_carried c.args.table.now c.args.number c.args.rows.now c.args.inside.now c.args.part c.in-Some.lens c.args.side (comp_tree c.args.comp.now) (word_tree c.args.word.now) c.requires place)
    c.carry_word.ensures

pub carry_row-returns-in-None : goal.carry_row-returns-in-None
carry_row-returns-in-None t c =
    row_past c.args.table.now c.args.number c.args.rows.now c.args.inside.now c.args.part c.args.side (comp_tree c.args.comp.now) (word_tree c.args.word.now) c.requires (sym c.lens_at.ensures ∙ c.in-None.is)

pub carry_arm-carry_word-requires : goal.carry_arm-carry_word-requires
carry_arm-carry_word-requires t c =
    let place : slice_get c.args.inside.now.items c.args.part ≡ Some c.in-Some.lens = sym c.lens_at.ensures ∙ c.in-Some.is in
    let ready = arm_ready c.args.table.now c.args.number c.args.arms.now c.args.starts.now c.args.inside.now c.args.part c.in-Some.lens c.requires place in
    let low = ready.0 in
    (omega (arith, low), ready.1)

pub carry_arm-returns-in-Some : goal.carry_arm-returns-in-Some
carry_arm-returns-in-Some t c =
    let place : slice_get c.args.inside.now.items c.args.part ≡ Some c.in-Some.lens = sym c.lens_at.ensures ∙ c.in-Some.is in
    of_value c.carry_word.result (arm_translation (arms_tree c.args.arms.now) c.args.side c.args.part (comp_tree c.args.comp.now) (word_tree c.args.word.now))
    (translate (form_at c.args.table.now c.in-Some.lens) c.args.side (comp_tree c.args.comp.now) (word_tree c.args.word.now))
    (arm_carried c.args.table.now c.args.number c.args.arms.now c.args.starts.now c.args.inside.now c.args.part c.in-Some.lens c.args.side (comp_tree c.args.comp.now) (word_tree c.args.word.now) c.requires place)
    c.carry_word.ensures

pub carry_arm-returns-in-None : goal.carry_arm-returns-in-None
carry_arm-returns-in-None t c =
    arm_past c.args.table.now c.args.number c.args.arms.now c.args.starts.now c.args.inside.now c.args.part c.args.side (comp_tree c.args.comp.now) (word_tree c.args.word.now) c.requires (sym c.lens_at.ensures ∙ c.in-None.is)

pub carry_one-carry_leaf-requires : goal.carry_one-carry_leaf-requires
carry_one-carry_leaf-requires t c =
    let at = at_node c.args.table.now c.args.number c.node_at.result.now (Leaf c.in-Leaf.form) c.node_at.ensures c.in-Leaf.is in
    leaf_inside c.args.table.now c.args.number c.in-Leaf.form at

pub carry_one-returns-in-Leaf : goal.carry_one-returns-in-Leaf
carry_one-returns-in-Leaf t c =
    let at = at_node c.args.table.now c.args.number c.node_at.result.now (Leaf c.in-Leaf.form) c.node_at.ensures c.in-Leaf.is in
    of_form c.carry_leaf.result (form_at c.args.table.now c.args.number) (node_form (form_at c.args.table.now) (Leaf c.in-Leaf.form)) c.args.side (comp_tree c.args.comp.now) (primitive_tree c.args.prim.now) at.form_is c.carry_leaf.ensures

pub carry_one-carry_then-requires : goal.carry_one-carry_then-requires
carry_one-carry_then-requires t c =
    let at = at_node c.args.table.now c.args.number c.node_at.result.now (Then c.in-Then.first c.in-Then.second) c.node_at.ensures c.in-Then.is in
    (omega arith, then_inside c.args.table.now c.args.number c.in-Then.first c.in-Then.second at)

pub carry_one-returns-in-Then : goal.carry_one-returns-in-Then
carry_one-returns-in-Then t c =
    let at = at_node c.args.table.now c.args.number c.node_at.result.now (Then c.in-Then.first c.in-Then.second) c.node_at.ensures c.in-Then.is in
    of_form c.carry_then.result (form_at c.args.table.now c.args.number) (node_form (form_at c.args.table.now) (Then c.in-Then.first c.in-Then.second)) c.args.side (comp_tree c.args.comp.now) (primitive_tree c.args.prim.now) at.form_is c.carry_then.ensures

pub carry_one-carry_record-requires : goal.carry_one-carry_record-requires
carry_one-carry_record-requires t c =
    let at = at_node c.args.table.now c.args.number c.node_at.result.now (Record c.in-Record.rows c.in-Record.inside) c.node_at.ensures c.in-Record.is in
    (omega arith, at)

pub carry_one-returns-in-Record : goal.carry_one-returns-in-Record
carry_one-returns-in-Record t c =
    let at = at_node c.args.table.now c.args.number c.node_at.result.now (Record c.in-Record.rows c.in-Record.inside) c.node_at.ensures c.in-Record.is in
    of_form c.carry_record.result (form_at c.args.table.now c.args.number) (node_form (form_at c.args.table.now) (Record c.in-Record.rows c.in-Record.inside)) c.args.side (comp_tree c.args.comp.now) (primitive_tree c.args.prim.now) at.form_is c.carry_record.ensures

pub carry_one-carry_alternatives-requires : goal.carry_one-carry_alternatives-requires
carry_one-carry_alternatives-requires t c =
    let at = at_node c.args.table.now c.args.number c.node_at.result.now (Alternatives c.in-Alternatives.arms c.in-Alternatives.starts c.in-Alternatives.inside) c.node_at.ensures c.in-Alternatives.is in
    (omega arith, at)

pub carry_one-returns-in-Alternatives : goal.carry_one-returns-in-Alternatives
carry_one-returns-in-Alternatives t c =
    let at = at_node c.args.table.now c.args.number c.node_at.result.now (Alternatives c.in-Alternatives.arms c.in-Alternatives.starts c.in-Alternatives.inside) c.node_at.ensures c.in-Alternatives.is in
    of_form c.carry_alternatives.result (form_at c.args.table.now c.args.number) (node_form (form_at c.args.table.now) (Alternatives c.in-Alternatives.arms c.in-Alternatives.starts c.in-Alternatives.inside)) c.args.side (comp_tree c.args.comp.now) (primitive_tree c.args.prim.now) at.form_is c.carry_alternatives.ensures

pub carry_one-carry_held-requires : goal.carry_one-carry_held-requires
carry_one-carry_held-requires t c =
    let at = at_node c.args.table.now c.args.number c.node_at.result.now (Held c.in-Held.kind c.in-Held.inside) c.node_at.ensures c.in-Held.is in
    (omega arith, held_inside c.args.table.now c.args.number c.in-Held.kind c.in-Held.inside at)

pub carry_one-returns-in-Held : goal.carry_one-returns-in-Held
carry_one-returns-in-Held t c =
    let at = at_node c.args.table.now c.args.number c.node_at.result.now (Held c.in-Held.kind c.in-Held.inside) c.node_at.ensures c.in-Held.is in
    of_form c.carry_held.result (form_at c.args.table.now c.args.number) (node_form (form_at c.args.table.now) (Held c.in-Held.kind c.in-Held.inside)) c.args.side (comp_tree c.args.comp.now) (primitive_tree c.args.prim.now) at.form_is c.carry_held.ensures

pub carry_one-carry_part-requires : goal.carry_one-carry_part-requires
carry_one-carry_part-requires t c =
    let at = at_node c.args.table.now c.args.number c.node_at.result.now (Partition c.in-Partition.tags) c.node_at.ensures c.in-Partition.is in
    partition_is_ready c.args.table.now c.args.number c.in-Partition.tags at

pub carry_one-returns-in-Partition : goal.carry_one-returns-in-Partition
carry_one-returns-in-Partition t c =
    let at = at_node c.args.table.now c.args.number c.node_at.result.now (Partition c.in-Partition.tags) c.node_at.ensures c.in-Partition.is in
    of_form c.carry_part.result (form_at c.args.table.now c.args.number) (node_form (form_at c.args.table.now) (Partition c.in-Partition.tags)) c.args.side (comp_tree c.args.comp.now) (primitive_tree c.args.prim.now) at.form_is c.carry_part.ensures

pub carry_one-carry_one-requires : goal.carry_one-carry_one-requires
carry_one-carry_one-requires t c =
    let at = at_node c.args.table.now c.args.number c.node_at.result.now (Inverse c.in-Inverse.inside) c.node_at.ensures c.in-Inverse.is in
    let inside = inverse_inside c.args.table.now c.args.number c.in-Inverse.inside at in
    let low = inside.0 in
    (omega (arith, low), inside.1)

pub carry_one-returns-in-Inverse : goal.carry_one-returns-in-Inverse
carry_one-returns-in-Inverse t c =
    let at = at_node c.args.table.now c.args.number c.node_at.result.now (Inverse c.in-Inverse.inside) c.node_at.ensures c.in-Inverse.is in
    of_inverse c.carry_one.result (form_at c.args.table.now c.args.number) (form_at c.args.table.now c.in-Inverse.inside) c.args.side c.other.result (comp_tree c.args.comp.now) (primitive_tree c.args.prim.now) at.form_is c.other.ensures c.carry_one.ensures
