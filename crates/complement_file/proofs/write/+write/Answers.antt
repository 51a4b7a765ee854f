use Rattle.std.proofs.Common.{◌≡◌, ℕ, ◌+◌, ◌<◌, ◌≤◌, List, [], ◌∷◌, ◌++◌, length-append, slice_index_or, codes, map, length, Vec, Global, sym, ap, ap₂, subst, ◌∙◌, arith}
use Rattle.std.proofs.lemmas.List.{take_all, map-append}
use Rattle.serde_json.specs.Data.{array, object, string, put}
use Rattle.serde_json.specs.View.{view, items_of, members_view}
use Rattle.serde_json.specs.declared.value.Value.{Value}
use Rattle.serde_json.proofs.Views.{view-Array, view-Object}
use Rattle.hold_shapes.proofs.SharedItems.{item-at}
use Rattle.lens_forms.specs.Forms.{form_tree, arms_tree}
use Rattle.lens_forms.specs.declared.form.FormRow.{FormRow}
use Rattle.lens_forms.specs.Measures.{form_parts, rows_parts}
use Rattle.lens_core.specs.Complements.{CompTree, nil, comp_tree, comps_tree, comps_of, comp_list, Fits, AllFit}
use Rattle.lens_core.proofs.ComplementTrees.{comps_of-comp_list, comp_count-length, comp_tree-hold}
use Rattle.value_json.proofs.Writing.{push_item}
use Rattle.complement_file.specs.ComplementJson.{tree_of_complement, place_items, place_members, row_items}
use Rattle.value_json.specs.SmallTrees.{one_member, array_of_two}
use Rattle.complement_file.proofs.Arms.{arm_is_there, arm_fits, arm_typed, arm_smaller, arm_tree_is}
use Rattle.complement_file.proofs.Levels.{each_typed, keyed_typed, tree_typed, each_fits, keyed_fits, tree_fits, if_tree}
use Rattle.complement_file.proofs.Places.{place_fits, items_of_places, put_place}
use Rattle.complement_file.proofs.Rows.{AreLeft, at_first, at_last, within, row_typed, row_fits, row_done, left_passed, right_passed, row_smaller_is}
use Rattle.complement_file.proofs.write.+write.Goals as goal
use Rattle.complement_file.proofs.write.+write.Goals.{write_record-in-Both+in_ok-part-in-Both+in_ok-push-in-Both, write_record-in-OnlyLeft, write_record-in-OnlyRight}
use Rattle.lens_forms.proofs.FormLevels.{each_tree, keyed_tree, ordered_tree}

-- ---- the parts of a container

pub write-write_places-requires : goal.write-write_places-requires
write-write_places-requires t c =
    let form = each_tree _ _ _ c.in-Each-Hold-List-default.is-0 c.deref-in-Each-Hold-List-default.ensures in
    let comp = comp_tree-hold _ _ _ c.in-Each-Hold-List-default.is-1 in
    let parts = ap form_parts form in
    (omega (arith, parts), (each_typed _ _ form c.requires.typed, each_fits _ _ _ _ _ form comp c.requires.fits))

pub write-write_nodes-requires : goal.write-write_nodes-requires
write-write_nodes-requires t c =
    let form = ordered_tree _ _ _ c.in-Tree-Hold-Tree-default.is-0 c.deref-in-Tree-Hold-Tree-default.ensures in
    let comp = comp_tree-hold _ _ _ c.in-Tree-Hold-Tree-default.is-1 in
    let parts = ap form_parts form in
    (omega (arith, parts), (tree_typed _ _ form c.requires.typed, tree_fits _ _ _ _ _ form comp c.requires.fits))

pub write-write_map-requires : goal.write-write_map-requires
write-write_map-requires t c =
    let form = keyed_tree _ _ _ c.in-Keyed-Hold.is-0 c.deref-in-Keyed-Hold.ensures in
    let comp = comp_tree-hold _ _ _ c.in-Keyed-Hold.is-1 in
    let parts = ap form_parts form in
    let fit = keyed_fits _ _ _ _ _ form comp c.requires.fits in
    (omega (arith, parts), (keyed_typed _ _ form c.requires.typed, (fit.0, fit.1)))

-- ---- the places of a list and of a tree

pub write_places-write-requires : goal.write_places-write-requires
write_places-write-requires t c =
    let contents = comp_list (comps_tree c.args.comps.now) in
    let l = form_tree c.args.inner.now in
    let within : c.loop-i.i < length contents = omega (arith, c.len-count.ensures, c.loop-i-test.true, comp_count-length (comps_tree c.args.comps.now)) in
    let all = subst (AllFit (Fits l)) (sym (comps_of-comp_list (comps_tree c.args.comps.now))) c.requires.fits in
    (omega arith, (c.requires.typed, place_fits l contents c.loop-i.i (comp_tree c.get.result.now) within c.get.ensures all))

pub write_places-loop-i-preserved : goal.write_places-loop-i-preserved
write_places-loop-i-preserved t c =
    let l = c.loop-i in
    let contents = comp_list (comps_tree c.args.comps.now) in
    let within : l.i < length contents = omega (arith, c.len-count.ensures, c.loop-i-test.true, comp_count-length (comps_tree c.args.comps.now)) in
    ap (map view) c.in_ok-push.ensures.items ∙ map-append _ _ _
    ∙ push_item (tree_of_complement (form_tree c.args.inner.now)) contents l.i (comp_tree c.get.result.now) nil (map view l.items.items) (view c.in_ok-write.field-0) within c.get.ensures l.invariant c.in_ok-write.ensures

pub write_places-returns : goal.write_places-returns
write_places-returns t c =
    let l = c.loop-i in
    let contents = comp_list (comps_tree c.args.comps.now) in
    let form = form_tree c.args.inner.now in
    let past : length contents ≤ l.i = omega (arith, c.len-count.ensures, c.loop-i-test.false, comp_count-length (comps_tree c.args.comps.now)) in
    let all = ap (λ cs. items_of (map (tree_of_complement form) cs)) (take_all l.i contents past) in
    view-Array l.items ∙ ap array (ap items_of l.invariant ∙ all ∙ items_of_places form contents ∙ ap (place_items (tree_of_complement form)) (comps_of-comp_list (comps_tree c.args.comps.now)))

-- ---- the keys

pub write_keyed-write-requires : goal.write_keyed-write-requires
write_keyed-write-requires t c =
    let contents = comp_list (comps_tree c.args.comps.now) in
    let l = form_tree c.args.inner.now in
    let within : c.loop-i.i < length contents = omega (arith, c.len-i-end.ensures, c.loop-i-test.true, comp_count-length (comps_tree c.args.comps.now)) in
    let all = subst (AllFit (Fits l)) (sym (comps_of-comp_list (comps_tree c.args.comps.now))) c.requires.fits in
    (omega arith, (c.requires.typed, place_fits l contents c.loop-i.i (comp_tree c.get.result.now) within c.get.ensures all))

pub write_keyed-loop-i-preserved : goal.write_keyed-loop-i-preserved
write_keyed-loop-i-preserved t c =
    let l = c.loop-i in
    let contents = comp_list (comps_tree c.args.comps.now) in
    let part = comp_tree c.get.result.now in
    let key = c.get-key.result.now in
    let form = form_tree c.args.inner.now in
    let below : l.i < length contents = omega (arith, c.len-i-end.ensures, c.loop-i-test.true, comp_count-length (comps_tree c.args.comps.now)) in
    let within : l.i < length c.args.keys.now = omega (arith, c.requires.many, c.len-i-end.ensures, c.loop-i-test.true) in
    let name = ap (λ k. put k (view c.in_ok-part.part) (members_view l.members.entries)) c.as_str.ensures in
    let tree = ap (λ d. put key d (members_view l.members.entries)) c.in_ok-part.ensures in
    let before = ap (put key (tree_of_complement form part)) l.invariant in
    c.in_ok-put.ensures.ok ∙ name ∙ tree ∙ before ∙ put_place form c.args.keys.now contents l.i key part within below c.requires.rising (item-at c.args.keys.now l.i key key c.get-key.ensures) c.get.ensures

pub write_keyed-returns : goal.write_keyed-returns
write_keyed-returns t c =
    let l = c.loop-i in
    let contents = comp_list (comps_tree c.args.comps.now) in
    let form = form_tree c.args.inner.now in
    let past : length contents ≤ l.i = omega (arith, c.len-i-end.ensures, c.loop-i-test.false, comp_count-length (comps_tree c.args.comps.now)) in
    let done : length c.args.keys.now ≤ l.i = omega (arith, c.requires.many, c.len-i-end.ensures, c.loop-i-test.false) in
    let all = ap₂ (λ ks cs. place_members (tree_of_complement form) ks (comps_of cs)) (take_all l.i c.args.keys.now done) (take_all l.i contents past) in
    view-Object l.members ∙ ap object (l.invariant ∙ all ∙ ap (place_members (tree_of_complement form) c.args.keys.now) (comps_of-comp_list (comps_tree c.args.comps.now)))

-- ---- records

pub write_record-loop-row-init : goal.write_record-loop-row-init
write_record-loop-row-init t c =
    let rows = c.as_slice-row-items.result.now in
    let contents = comp_list (comps_tree c.args.comps.now) in
    subst (λ (vs : List Value). AreLeft rows contents 0 (length vs) (map view vs)) (sym c.new-items.ensures.items)
    (at_first rows contents _ _ c.as_slice-row-items.ensures (comps_of-comp_list (comps_tree c.args.comps.now)) c.requires.typed c.requires.fits)

pub write_record-get-requires : goal.write_record-get-requires
write_record-get-requires t c =
    let contents = comp_list (comps_tree c.args.comps.now) in
    omega (
      arith,
      c.len.ensures,
      comp_count-length (comps_tree c.args.comps.now),
      within c.as_slice-row-items.result.now contents c.loop-row.row-index _ _ c.row-item.result _ _ _ c.loop-row-test.true c.row-item.is c.in-Both.is c.loop-row.invariant,
    )

pub write_record-write-requires : goal.write_record-write-requires
write_record-write-requires t c =
    let rows = c.as_slice-row-items.result.now in
    let contents = comp_list (comps_tree c.args.comps.now) in
    let i = c.loop-row.row-index in
    let low = row_smaller_is rows i c.row-item.result _ _ c.in-Both.form c.loop-row-test.true c.row-item.is c.in-Both.is in
    let parts = ap rows_parts c.as_slice-row-items.ensures in
    let many : c.len.result ≡ length c.loop-row.items.items = omega (arith, c.len.ensures) in
    let here = c.get.ensures ∙ ap (λ n. slice_index_or contents n nil) many in (
      omega (arith, low, parts),
      (
        row_typed rows contents i _ _ c.row-item.result _ _ c.in-Both.form c.loop-row-test.true c.row-item.is c.in-Both.is c.loop-row.invariant,
        row_fits rows contents i _ _ c.row-item.result _ _ c.in-Both.form c.loop-row-test.true c.row-item.is c.in-Both.is c.loop-row.invariant (comp_tree c.get.result.now) here,
      ),
    )

-- the items and their number after one more
one_more : (rows : List FormRow) (cs : List CompTree) (i : ℕ) (old new : List Value) (v : Value) → new ≡ old ++ v ∷ []
    → AreLeft rows cs (i + 1) (length old + 1) (map view old ++ view v ∷ []) → AreLeft rows cs (i + 1) (length new) (map view new)
one_more rows cs i old new v is left =
    let many : length old + 1 ≡ length new = omega (arith, ap length is, length-append old (v ∷ [])) in
    let trees : map view old ++ view v ∷ [] ≡ map view new = sym (ap (map view) is ∙ map-append view old (v ∷ [])) in
    subst (λ n. AreLeft rows cs (i + 1) n (map view new)) many (subst (AreLeft rows cs (i + 1) (length old + 1)) trees left)

same_items : (rows : List FormRow) (cs : List CompTree) (i : ℕ) (old new : List Value) → new ≡ old → AreLeft rows cs i (length old) (map view old) → AreLeft rows cs i (length new) (map view new)
same_items rows cs i old new is left = subst (λ vs. AreLeft rows cs i (length vs) (map view vs)) (sym is) left

pub write_record-loop-row-preserved : goal.write_record-loop-row-preserved
write_record-loop-row-preserved t c =
    let rows = c.as_slice-row-items.result.now in
    let contents = comp_list (comps_tree c.args.comps.now) in
    let i = c.loop-row.row-index in
    let r = c.row-item.result in
    let old = c.loop-row.items.items in
    let within = c.loop-row-test.true in
    elim c.match-row.branch [
      | write_record-in-Both+in_ok-part-in-Both+in_ok-push-in-Both w ↦
          let many : w.len.result ≡ length old = omega (arith, w.len.ensures) in
          let here = w.get.ensures ∙ ap (λ n. slice_index_or contents n nil) many in
          one_more rows contents i old c.match-row.items.items w.in_ok-part-in-Both.part (ap (λ (v : Vec Value Global). v.items) w.items-is ∙ w.in_ok-push-in-Both.ensures.items)
          (row_done rows contents i (length old) (map view old) r w.in-Both.field-0 w.in-Both.field-1 w.in-Both.form within c.row-item.is w.in-Both.is c.loop-row.invariant
          (comp_tree w.get.result.now) (view w.in_ok-part-in-Both.part) here w.in_ok-part-in-Both.ensures)
      | write_record-in-OnlyLeft w ↦
          same_items rows contents (i + 1) old c.match-row.items.items (ap (λ (v : Vec Value Global). v.items) w.items-is)
          (left_passed rows contents i (length old) (map view old) r w.in-OnlyLeft.field-0 w.in-OnlyLeft.field-1 within c.row-item.is w.in-OnlyLeft.is c.loop-row.invariant)
      | write_record-in-OnlyRight w ↦
          same_items rows contents (i + 1) old c.match-row.items.items (ap (λ (v : Vec Value Global). v.items) w.items-is)
          (right_passed rows contents i (length old) (map view old) r w.in-OnlyRight.field-0 w.in-OnlyRight.field-1 within c.row-item.is w.in-OnlyRight.is c.loop-row.invariant)
    ]

pub write_record-returns : goal.write_record-returns
write_record-returns t c =
    let rows = c.as_slice-row-items.result.now in
    let contents = comp_list (comps_tree c.args.comps.now) in
    let l = c.loop-row in
    let items = view-Array l.items ∙ ap array (at_last rows contents l.row-index (length l.items.items) (map view l.items.items) c.loop-row-test.false l.invariant
    ∙ ap₂ row_items c.as_slice-row-items.ensures (comps_of-comp_list (comps_tree c.args.comps.now))) in
    if_tree _ _ _ c.one_member.ensures (ap (one_member (codes "rec")) items)

-- ---- alternatives

pub write_tagged-unreachable-requires : goal.write_tagged-unreachable-requires
write_tagged-unreachable-requires t c =
    arm_is_there (arms_tree c.args.arms.now) c.args.tag.now (comp_tree c.args.inner.now) c.requires.fits (sym (rw c.as_str-name.ensures at c.in_default.ensures))

pub write_tagged-write-requires : goal.write_tagged-write-requires
write_tagged-write-requires t c =
    let arms = arms_tree c.args.arms.now in
    let found = sym (rw c.as_str-name.ensures at c.in-Some.ensures) in
    let low = arm_smaller c.args.tag.now arms _ found in
    (omega (arith, low), (arm_typed arms c.args.tag.now _ c.requires.typed found, arm_fits arms c.args.tag.now (comp_tree c.args.inner.now) _ c.requires.typed c.requires.fits found))

pub write_tagged-returns : goal.write_tagged-returns
write_tagged-returns t c =
    let arms = arms_tree c.args.arms.now in
    let tag = c.args.tag.now in
    let inner = comp_tree c.args.inner.now in
    let found = sym (rw c.as_str-name.ensures at c.in-Some.ensures) in
    let name = c.in_ok-write_text.ensures ∙ ap string c.as_str-name.ensures in
    let part = c.in_ok-part.ensures ∙ sym (arm_tree_is tag arms _ inner found) in
    if_tree _ _ _ c.write_pair.ensures (ap₂ (λ x y. one_member (codes "alt") (array_of_two x y)) name part)
