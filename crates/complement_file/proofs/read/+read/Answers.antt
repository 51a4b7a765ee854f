use Rattle.std.proofs.Common.{◌≡◌, ◌≢◌, ℕ, ◌+◌, ◌<◌, ◌≤◌, List, [], ◌∷◌, ◌++◌, length, length-append, map, option_map, get_or, codes, Some, None, Vec, Global, sym, ap, subst, ◌∙◌, arith}
use Rattle.std.proofs.lemmas.List.{map-append}
use Rattle.std.proofs.lemmas.Result.{err_from_is_err_and}
use Rattle.hold_shapes.specs.Trees.{is_valid}
use Rattle.texts.specs.Keys.{is_rising}
use Rattle.serde_json.specs.View.{view, items_view, members_view}
use Rattle.serde_json.specs.declared.value.Value.{Value}
use Rattle.value_json.specs.Numbers.{counts_of}
use Rattle.lens_forms.specs.Forms.{RowTrees, form_tree, rows_tree, arms_tree, form_then, form_rec, form_alt, form_each, form_keyed, form_ordered}
use Rattle.lens_forms.specs.Measures.{rows_parts}
use Rattle.lens_forms.specs.Typing.{are_typed_rows}
use Rattle.lens_forms.specs.declared.form.FormRow.{FormRow}
use Rattle.lens_core.specs.Complements.{CompTrees, alt_comp, comp_tree, comps_tree, comps_of}
use Rattle.lens_core.specs.declared.comp.Comp.{Comp}
use Rattle.complement_file.specs.ComplementJson.{tree_of_complement}
use Rattle.complement_file.specs.Reading.{nodes_tree, HasArray, IsComplement, ArePlaces, AreRows, member_contents}
use Rattle.complement_file.proofs.Arms.{arm_smaller, arm_typed}
use Rattle.complement_file.proofs.Found.{refused_with}
use Rattle.complement_file.proofs.Levels.{rec_level, alt_level, hold_level}
use Rattle.complement_file.proofs.ReadForms.{pair_found, no_pair, first_refused, second_refused, rec_found, no_rec, rec_refused, tagged_found, no_tagged, not_text, no_arm, arm_refused, list_found, no_list, list_refused, keyed_found, no_keyed, keys_not_rising, contents_refused, nodes_found, no_nodes, not_counts, not_as_many, not_valid, nodes_refused}
use Rattle.complement_file.proofs.ReadPlaces.{places_many, next_place, refused_place, all_places, items_next, items_end, contents_next, contents_end}
use Rattle.complement_file.proofs.ReadRows.{RowsRead, rows_at_first, lens_typed, row_read, no_item, item_refused, left_skipped, right_skipped, all_rows, item_left}
use Rattle.complement_file.proofs.Rows.{row_smaller_is}
use Rattle.complement_file.proofs.read.+read.Goals as goal
use Rattle.complement_file.proofs.read.+read.Goals.{read_rows-in-Both+else-next-items+in_ok-comp-in-Both+in_ok-push-in-Both, read_rows-in-OnlyLeft, read_rows-in-OnlyRight}

-- ---- a composition

pub read_pair-returns-in_default : goal.read_pair-returns-in_default
read_pair-returns-in_default t c = no_pair (form_tree c.args.first.now) (form_tree c.args.second.now) (view c.args.tree.now) c.in_default.ensures

pub read_pair-returns-in_err-one : goal.read_pair-returns-in_err-one
read_pair-returns-in_err-one t c =
    let p = err_from_is_err_and c.from_residual.result c.from_residual.ensures.1 in
    let l = form_tree c.args.first.now in
    let m = form_tree c.args.second.now in
    let tree = view c.args.tree.now in
    let d = view c.in-Some.one.now in
    rw (p.1, p.2)
    (refused_with c.in_err-one.field-0.0 (IsComplement l d) (IsComplement (form_then l m) tree) (first_refused l m tree d (view c.in-Some.other.now) c.in-Some.ensures)
    c.in_err-one.ensures)

pub read_pair-returns-in_err-other : goal.read_pair-returns-in_err-other
read_pair-returns-in_err-other t c =
    let p = err_from_is_err_and c.from_residual-in_err-other.result c.from_residual-in_err-other.ensures.1 in
    let l = form_tree c.args.first.now in
    let m = form_tree c.args.second.now in
    let tree = view c.args.tree.now in
    let e = view c.in-Some.other.now in
    rw (p.1, p.2)
    (refused_with c.in_err-other.field-0.0 (IsComplement m e) (IsComplement (form_then l m) tree) (second_refused l m tree (view c.in-Some.one.now) e c.in-Some.ensures)
    c.in_err-other.ensures)

pub read_pair-returns : goal.read_pair-returns
read_pair-returns t c =
    let l = form_tree c.args.first.now in
    let m = form_tree c.args.second.now in
    let tree = view c.args.tree.now in
    let one = comp_tree c.in_ok-one.one in
    let other = comp_tree c.in_ok-other.other in
    subst (IsComplement (form_then l m) tree) (sym c.in_ok-then_join.ensures)
    (pair_found l m tree (view c.in-Some.one.now) (view c.in-Some.other.now) one other c.in-Some.ensures c.in_ok-one.ensures c.in_ok-other.ensures)

-- ---- a record

pub read_record-returns-in_default : goal.read_record-returns-in_default
read_record-returns-in_default t c = no_rec (rows_tree c.args.rows.now) (view c.args.tree.now) c.in_default.ensures

pub read_record-returns-in_err-read_rows : goal.read_record-returns-in_err-read_rows
read_record-returns-in_err-read_rows t c =
    let p = err_from_is_err_and c.from_residual.result c.from_residual.ensures.1 in
    let rows = rows_tree c.args.rows.now in
    let tree = view c.args.tree.now in
    let items = items_view c.deref.result.now in
    let is = subst (λ (vs : List Value). HasArray (codes "rec") tree (items_view vs)) (sym c.deref.ensures.value) c.in-Some.ensures in
    rw (p.1, p.2) (refused_with c.in_err-read_rows.field-0.0 (AreRows rows items) (IsComplement (form_rec rows) tree) (rec_refused rows tree items is) c.in_err-read_rows.ensures)

pub read_record-returns : goal.read_record-returns
read_record-returns t c =
    let rows = rows_tree c.args.rows.now in
    let tree = view c.args.tree.now in
    let is = subst (λ (vs : List Value). HasArray (codes "rec") tree (items_view vs)) (sym c.deref.ensures.value) c.in-Some.ensures in
    let comps = c.in_ok-read_rows.field-0 in
    subst (IsComplement (form_rec rows) tree) (sym (rec_level comps)) (rec_found rows tree (items_view c.deref.result.now) (comps_tree comps) is c.in_ok-read_rows.ensures)

-- ---- the paired rows

abbrev NoRows : List Value → RowTrees → Type 0
NoRows vs rows = (es : CompTrees) → AreRows rows (items_view vs) es → ⊥

pub read_rows-loop-row-init : goal.read_rows-loop-row-init
read_rows-loop-row-init t c =
    let rows = c.as_slice-row-items.result.now in
    subst (λ (cs : List Comp). RowsRead rows c.args.items.now 0 (length cs) (map comp_tree cs)) (sym c.new-comps.ensures.items)
    (rows_at_first rows c.args.items.now (ap are_typed_rows c.as_slice-row-items.ensures ∙ c.requires.typed))

pub read_rows-returns-then-next-items : goal.read_rows-returns-then-next-items
read_rows-returns-then-next-items t c =
    let rows = c.as_slice-row-items.result.now in
    let l = c.loop-row in
    let past : length c.args.items.now ≤ length l.comps.items = omega (arith, l.comps.ok.0) in
    subst (NoRows c.args.items.now) c.as_slice-row-items.ensures
    (no_item rows c.args.items.now l.row-index _ _ c.row-item.result _ _ c.in-Both.form c.loop-row-test.true c.row-item.is c.in-Both.is l.invariant past)

pub read_rows-read-requires : goal.read_rows-read-requires
read_rows-read-requires t c =
    let rows = c.as_slice-row-items.result.now in
    let l = c.loop-row in
    let low = row_smaller_is rows l.row-index c.row-item.result _ _ c.in-Both.form c.loop-row-test.true c.row-item.is c.in-Both.is in
    let parts = ap rows_parts c.as_slice-row-items.ensures in
    let small = c.requires.small in (
      omega (arith, low, parts),
      (
        lens_typed rows c.args.items.now l.row-index _ _ c.row-item.result _ _ c.in-Both.form c.loop-row-test.true c.row-item.is c.in-Both.is l.invariant,
        omega (arith, low, parts, small),
      ),
    )

pub read_rows-returns-in_err-comp-in-Both : goal.read_rows-returns-in_err-comp-in-Both
read_rows-returns-in_err-comp-in-Both t c =
    let p = err_from_is_err_and c.from_residual.result c.from_residual.ensures.1 in
    let rows = c.as_slice-row-items.result.now in
    let vs = c.args.items.now in
    let l = c.loop-row in
    let many : c.len-next.result ≡ length l.comps.items = omega (arith, c.len-next.ensures, l.comps.ok.0) in
    let within : length l.comps.items < length vs = omega (arith, l.invariant.within, many) in
    let at = c.index-items-next.is ∙ ap (λ n. get_or vs n c.index-items-next.result) many in
    rw (p.1, p.2)
    (refused_with c.in_err-comp-in-Both.field-0.0 (IsComplement (form_tree c.in-Both.form) (view c.index-items-next.result)) (AreRows (rows_tree c.args.rows.now) (items_view vs))
    (λ none. subst (NoRows vs) c.as_slice-row-items.ensures
    (item_refused rows vs l.row-index (length l.comps.items) (map comp_tree l.comps.items) c.row-item.result _ _ c.in-Both.form c.loop-row-test.true c.row-item.is c.in-Both.is l.invariant
    c.index-items-next.result within at none))
    c.in_err-comp-in-Both.ensures)

-- the complements and their number after one more
one_more : (rows : List FormRow) (vs : List Value) (i : ℕ) (old new : List Comp) (c : Comp) → new ≡ old ++ c ∷ []
    → RowsRead rows vs (i + 1) (length old + 1) (map comp_tree old ++ comp_tree c ∷ []) → RowsRead rows vs (i + 1) (length new) (map comp_tree new)
one_more rows vs i old new c is so_far =
    let many : length old + 1 ≡ length new = omega (arith, ap length is, length-append old (c ∷ [])) in
    let trees : map comp_tree old ++ comp_tree c ∷ [] ≡ map comp_tree new = sym (ap (map comp_tree) is ∙ map-append comp_tree old (c ∷ [])) in
    subst (λ n. RowsRead rows vs (i + 1) n (map comp_tree new)) many (subst (RowsRead rows vs (i + 1) (length old + 1)) trees so_far)

no_more : (rows : List FormRow) (vs : List Value) (i : ℕ) (old new : List Comp) → new ≡ old → RowsRead rows vs i (length old) (map comp_tree old) → RowsRead rows vs i (length new) (map comp_tree new)
no_more rows vs i old new is so_far = subst (λ cs. RowsRead rows vs i (length cs) (map comp_tree cs)) (sym is) so_far

pub read_rows-loop-row-preserved : goal.read_rows-loop-row-preserved
read_rows-loop-row-preserved t c =
    let rows = c.as_slice-row-items.result.now in
    let vs = c.args.items.now in
    let i = c.loop-row.row-index in
    let r = c.row-item.result in
    let old = c.loop-row.comps.items in
    let now = c.loop-row-test.true in
    elim c.match-row.branch [
      | read_rows-in-Both+else-next-items+in_ok-comp-in-Both+in_ok-push-in-Both w ↦
          let many : w.len-next.result ≡ length old = omega (arith, w.len-next.ensures, c.loop-row.comps.ok.0) in
          let within : length old < length vs = omega (arith, c.loop-row.invariant.within, many) in
          let at = w.index-items-next.is ∙ ap (λ n. get_or vs n w.index-items-next.result) many in
          one_more rows vs i old c.match-row.comps.items w.in_ok-comp-in-Both.comp (ap (λ (v : Vec Comp Global). v.items) w.comps-is ∙ w.in_ok-push-in-Both.ensures.items)
          (row_read rows vs i (length old) (map comp_tree old) r w.in-Both.field-0 w.in-Both.field-1 w.in-Both.form now c.row-item.is w.in-Both.is c.loop-row.invariant
          w.index-items-next.result (comp_tree w.in_ok-comp-in-Both.comp) within at w.in_ok-comp-in-Both.ensures)
      | read_rows-in-OnlyLeft w ↦
          no_more rows vs (i + 1) old c.match-row.comps.items (ap (λ (v : Vec Comp Global). v.items) w.comps-is)
          (left_skipped rows vs i (length old) (map comp_tree old) r w.in-OnlyLeft.field-0 w.in-OnlyLeft.field-1 now c.row-item.is w.in-OnlyLeft.is c.loop-row.invariant)
      | read_rows-in-OnlyRight w ↦
          no_more rows vs (i + 1) old c.match-row.comps.items (ap (λ (v : Vec Comp Global). v.items) w.comps-is)
          (right_skipped rows vs i (length old) (map comp_tree old) r w.in-OnlyRight.field-0 w.in-OnlyRight.field-1 now c.row-item.is w.in-OnlyRight.is c.loop-row.invariant)
    ]

pub read_rows-returns-then-len-items : goal.read_rows-returns-then-len-items
read_rows-returns-then-len-items t c =
    let l = c.loop-row in
    let differ : length l.comps.items ≢ length c.args.items.now = λ same. c.if-len-items.true (omega (arith, same, l.comps.ok.0)) in
    subst (NoRows c.args.items.now) c.as_slice-row-items.ensures
    (item_left c.as_slice-row-items.result.now c.args.items.now l.row-index (length l.comps.items) (map comp_tree l.comps.items) c.loop-row-test.false differ l.invariant)

pub read_rows-returns : goal.read_rows-returns
read_rows-returns t c =
    let l = c.loop-row in
    let vs = c.args.items.now in
    let done : length vs ≤ length l.comps.items = omega (arith, l.comps.ok.0) in
    let all = all_rows c.as_slice-row-items.result.now vs l.row-index (length l.comps.items) (map comp_tree l.comps.items) c.loop-row-test.false done l.invariant in
    subst (AreRows (rows_tree c.args.rows.now) (items_view vs)) (sym c.in_ok-from_vec.ensures)
    (subst (λ rs. AreRows rs (items_view vs) (comps_of (map comp_tree l.comps.items))) c.as_slice-row-items.ensures all)

-- ---- alternatives

pub read_tagged-returns-in_default : goal.read_tagged-returns-in_default
read_tagged-returns-in_default t c = no_tagged _ _ c.in_default.ensures

pub read_tagged-returns-in_default-as_str : goal.read_tagged-returns-in_default-as_str
read_tagged-returns-in_default-as_str t c = not_text _ _ _ (view c.in-Some.content.now) c.in-Some.ensures c.in_default-as_str.ensures

pub read_tagged-returns-in_default-find_arm : goal.read_tagged-returns-in_default-find_arm
read_tagged-returns-in_default-find_arm t c =
    no_arm (arms_tree c.args.arms.now) _ _ (view c.in-Some.content.now) _ c.in-Some.ensures c.in-Some-as_str.ensures (sym c.in_default-find_arm.ensures)

pub read_tagged-read-requires : goal.read_tagged-read-requires
read_tagged-read-requires t c =
    let arms = arms_tree c.args.arms.now in
    let found = sym c.in-Some-find_arm.ensures in
    let low = arm_smaller _ arms _ found in
    let small = c.requires.small in
    (omega (arith, low), (arm_typed arms _ _ c.requires.typed found, omega (arith, low, small)))

pub read_tagged-returns-in_err-content : goal.read_tagged-returns-in_err-content
read_tagged-returns-in_err-content t c =
    let p = err_from_is_err_and c.from_residual.result c.from_residual.ensures.1 in
    rw (p.1, p.2)
    (refused_with c.in_err-content.field-0.0 _ _
    (arm_refused (arms_tree c.args.arms.now) _ _ _ _ _ c.requires.typed c.in-Some.ensures c.in-Some-as_str.ensures (sym c.in-Some-find_arm.ensures))
    c.in_err-content.ensures)

pub read_tagged-returns : goal.read_tagged-returns
read_tagged-returns t c =
    let arms = arms_tree c.args.arms.now in
    let tag = c.from_string-tag.result in
    let level = alt_level tag c.in_ok-new.field-0 ∙ ap (alt_comp tag) (ap comp_tree c.in_ok-new.ensures.ok) in
    subst (IsComplement (form_alt arms) (view c.args.tree.now)) (sym level)
    (tagged_found arms _ _ _ _ tag _ _ c.in-Some.ensures c.in-Some-as_str.ensures (sym c.in-Some-find_arm.ensures) c.in_ok-content.ensures
    (c.from_string-tag.ensures ∙ c.in_ok-from_str.ensures.ok))

-- ---- a list

pub read_list-returns-in_default : goal.read_list-returns-in_default
read_list-returns-in_default t c = no_list (form_tree c.args.inner.now) (view c.args.tree.now) c.in_default.ensures

pub read_list-returns-in_err-comps : goal.read_list-returns-in_err-comps
read_list-returns-in_err-comps t c =
    let p = err_from_is_err_and c.from_residual.result c.from_residual.ensures.1 in
    let l = form_tree c.args.inner.now in
    let tree = view c.args.tree.now in
    let items = items_view c.deref.result.now in
    let is = subst (λ (vs : List Value). HasArray (codes "list") tree (items_view vs)) (sym c.deref.ensures.value) c.in-Some.ensures in
    rw (p.1, p.2) (refused_with c.in_err-comps.field-0.0 (ArePlaces l items) (IsComplement (form_each l) tree) (list_refused l tree items is) c.in_err-comps.ensures)

pub read_list-returns : goal.read_list-returns
read_list-returns t c =
    let l = form_tree c.args.inner.now in
    let tree = view c.args.tree.now in
    let comps = c.in_ok-comps.comps in
    let is = subst (λ (vs : List Value). HasArray (codes "list") tree (items_view vs)) (sym c.deref.ensures.value) c.in-Some.ensures in
    subst (IsComplement (form_each l) tree) (sym (hold_level _ comps))
    (list_found l tree (items_view c.deref.result.now) (comps_tree comps) c.len-count.result is c.in_ok-comps.ensures c.len-count.ensures)

-- ---- a keyed map

pub read_keyed-returns-in_default : goal.read_keyed-returns-in_default
read_keyed-returns-in_default t c = no_keyed (form_tree c.args.inner.now) (view c.args.tree.now) c.in_default.ensures

pub read_keyed-returns-in_default-from_names : goal.read_keyed-returns-in_default-from_names
read_keyed-returns-in_default-from_names t c =
    keys_not_rising (form_tree c.args.inner.now) (view c.args.tree.now) (members_view c.in-Some.members.now.entries) c.in-Some.ensures
    (sym (ap is_rising c.in_ok-names_of.ensures) ∙ c.in_default-from_names.ensures)

pub read_keyed-returns-in_err-comps : goal.read_keyed-returns-in_err-comps
read_keyed-returns-in_err-comps t c =
    let p = err_from_is_err_and c.from_residual-in_err-comps.result c.from_residual-in_err-comps.ensures.1 in
    let l = form_tree c.args.inner.now in
    let tree = view c.args.tree.now in
    let members = members_view c.in-Some.members.now.entries in
    rw (p.1, p.2)
    (refused_with c.in_err-comps.field-0.0 (ArePlaces l (member_contents members)) (IsComplement (form_keyed l) tree) (contents_refused l tree members c.in-Some.ensures) c.in_err-comps.ensures)

pub read_keyed-returns : goal.read_keyed-returns
read_keyed-returns t c =
    let l = form_tree c.args.inner.now in
    let tree = view c.args.tree.now in
    let comps = c.in_ok-comps.comps in
    let keys = c.in-Some-from_names.keys in
    let names = c.in-Some-from_names.ensures.1 in
    let rising = ap is_rising names ∙ c.in-Some-from_names.ensures.0 in
    subst (IsComplement (form_keyed l) tree) (sym (hold_level _ comps))
    (keyed_found l tree (members_view c.in-Some.members.now.entries) keys (comps_tree comps) c.in-Some.ensures c.in_ok-comps.ensures rising (names ∙ c.in_ok-names_of.ensures))

-- ---- an ordered tree

pub read_nodes-returns-in_default : goal.read_nodes-returns-in_default
read_nodes-returns-in_default t c = no_nodes (form_tree c.args.inner.now) (view c.args.tree.now) c.in_default.ensures

pub read_nodes-returns-in_default-2 : goal.read_nodes-returns-in_default-2
read_nodes-returns-in_default-2 t c =
    let ns = items_view c.in-Some.depths.now.items in
    let none : counts_of ns ≡ None =
    ap (λ (vs : List Value). counts_of (items_view vs)) (sym c.deref.ensures.value) ∙ sym c.in_ok-depths.ensures ∙ ap (option_map (λ (v : Vec ℕ Global). v.items)) c.in_default-2.is in
    not_counts (form_tree c.args.inner.now) (view c.args.tree.now) ns (items_view c.in-Some.items.now.items) c.in-Some.ensures none

pub read_nodes-returns-then-len : goal.read_nodes-returns-then-len
read_nodes-returns-then-len t c =
    let ns = items_view c.in-Some.depths.now.items in
    let vs = c.in-Some.items.now.items in
    let depths = c.in-Some-2.depths.items in
    let numbers : counts_of ns ≡ Some depths =
    ap (λ (ws : List Value). counts_of (items_view ws)) (sym c.deref.ensures.value) ∙ sym c.in_ok-depths.ensures ∙ ap (option_map (λ (v : Vec ℕ Global). v.items)) c.in-Some-2.is in
    let differ : length depths ≢ length vs = λ same. c.if-len.true (c.len.ensures ∙ c.in-Some-2.depths.ok.0 ∙ same ∙ sym c.in-Some.items.now.ok.0 ∙ sym c.len-2.ensures) in
    not_as_many (form_tree c.args.inner.now) (view c.args.tree.now) ns vs depths c.in-Some.ensures numbers differ

pub read_nodes-returns-in_default-from_depths : goal.read_nodes-returns-in_default-from_depths
read_nodes-returns-in_default-from_depths t c =
    let ns = items_view c.in-Some.depths.now.items in
    let depths = c.in-Some-2.depths.items in
    let numbers : counts_of ns ≡ Some depths =
    ap (λ (ws : List Value). counts_of (items_view ws)) (sym c.deref.ensures.value) ∙ sym c.in_ok-depths.ensures ∙ ap (option_map (λ (v : Vec ℕ Global). v.items)) c.in-Some-2.is in
    not_valid (form_tree c.args.inner.now) (view c.args.tree.now) ns (items_view c.in-Some.items.now.items) depths c.in-Some.ensures numbers
    (sym (ap is_valid c.in_ok-from_vec.ensures) ∙ c.in_default-from_depths.ensures)

pub read_nodes-returns-in_err-comps : goal.read_nodes-returns-in_err-comps
read_nodes-returns-in_err-comps t c =
    let p = err_from_is_err_and c.from_residual-in_err-comps.result c.from_residual-in_err-comps.ensures.1 in
    let l = form_tree c.args.inner.now in
    let ns = items_view c.in-Some.depths.now.items in
    let tree = view c.args.tree.now in
    let items = items_view c.deref-2.result.now in
    let is = subst (λ (vs : List Value). nodes_tree ns (items_view vs) ≡ tree) (sym c.deref-2.ensures.value) c.in-Some.ensures in
    rw (p.1, p.2) (refused_with c.in_err-comps.field-0.0 (ArePlaces l items) (IsComplement (form_ordered l) tree) (nodes_refused l tree ns items is) c.in_err-comps.ensures)

pub read_nodes-returns : goal.read_nodes-returns
read_nodes-returns t c =
    let l = form_tree c.args.inner.now in
    let tree = view c.args.tree.now in
    let ns = items_view c.in-Some.depths.now.items in
    let vs = c.in-Some.items.now.items in
    let depths = c.in-Some-2.depths.items in
    let comps = comps_tree c.in_ok-comps.comps in
    let same = c.in-Some-from_depths.ensures.1 in
    let places = subst (λ (ws : List Value). ArePlaces l (items_view ws) comps) c.deref-2.ensures.value c.in_ok-comps.ensures in
    let numbers : counts_of ns ≡ Some depths =
    ap (λ (ws : List Value). counts_of (items_view ws)) (sym c.deref.ensures.value) ∙ sym c.in_ok-depths.ensures ∙ ap (option_map (λ (v : Vec ℕ Global). v.items)) c.in-Some-2.is in
    let many : length depths ≡ length vs = sym c.in-Some-2.depths.ok.0 ∙ sym c.len.ensures ∙ c.if-len.false ∙ c.len-2.ensures ∙ c.in-Some.items.now.ok.0 in
    subst (IsComplement (form_ordered l) tree) (sym (hold_level _ c.in_ok-comps.comps))
    (nodes_found l tree ns (items_view vs) depths c.in-Some-from_depths.nodes comps c.in-Some.ensures numbers (same ∙ c.in_ok-from_vec.ensures) (ap is_valid same ∙ c.in-Some-from_depths.ensures.0)
    (many ∙ sym (places_many (tree_of_complement l) comps vs places.1)) places)

-- ---- the members of an object

pub read_contents-loop-content-preserved : goal.read_contents-loop-content-preserved
read_contents-loop-content-preserved t c =
    let l = c.loop-content in
    rw (c.in_ok-push.ensures.items, map-append)
    (next_place _ (form_tree c.args.inner.now) _ (view c.in-Some.content.now) _ (map comp_tree l.comps.items) _
    (contents_next _ _ _ _ c.in-Some.ensures.steps) c.in_ok-read.ensures l.invariant)

pub read_contents-returns-in_err-read : goal.read_contents-returns-in_err-read
read_contents-returns-in_err-read t c =
    let p = err_from_is_err_and c.from_residual.result c.from_residual.ensures.1 in
    let l = c.loop-content in
    let inner = form_tree c.args.inner.now in
    let content = view c.in-Some.content.now in
    let whole = ArePlaces inner (member_contents (members_view c.args.members.now.entries)) in
    rw (p.1, p.2)
    (refused_with c.in_err-read.field-0.0 (IsComplement inner content) whole
    (refused_place whole inner _ content _ (map comp_tree l.comps.items) (contents_next _ _ _ _ c.in-Some.ensures.steps) l.invariant)
    c.in_err-read.ensures)

pub read_contents-returns : goal.read_contents-returns
read_contents-returns t c =
    let l = c.loop-content in
    rw c.in_ok-from_vec.ensures (all_places _ (form_tree c.args.inner.now) _ (map comp_tree l.comps.items) (contents_end _ c.in-None.ensures.steps.0) l.invariant)

-- ---- the items of an array

pub read_places-loop-item-preserved : goal.read_places-loop-item-preserved
read_places-loop-item-preserved t c =
    let l = c.loop-item in
    rw (c.in_ok-push.ensures.items, map-append)
    (next_place _ (form_tree c.args.inner.now) _ (view c.item-item.result) _ (map comp_tree l.comps.items) _
    (items_next c.args.items.now l.item-index c.item-item.result c.loop-item-test.true c.item-item.is) c.in_ok-read.ensures l.invariant)

pub read_places-returns-in_err-read : goal.read_places-returns-in_err-read
read_places-returns-in_err-read t c =
    let p = err_from_is_err_and c.from_residual.result c.from_residual.ensures.1 in
    let l = c.loop-item in
    let inner = form_tree c.args.inner.now in
    let content = view c.item-item.result in
    let whole = ArePlaces inner (items_view c.args.items.now) in
    rw (p.1, p.2)
    (refused_with c.in_err-read.field-0.0 (IsComplement inner content) whole
    (refused_place whole inner _ content _ (map comp_tree l.comps.items) (items_next c.args.items.now l.item-index c.item-item.result c.loop-item-test.true c.item-item.is) l.invariant)
    c.in_err-read.ensures)

pub read_places-returns : goal.read_places-returns
read_places-returns t c =
    let l = c.loop-item in
    rw c.in_ok-from_vec.ensures
    (all_places _ (form_tree c.args.inner.now) _ (map comp_tree l.comps.items) (items_end c.args.items.now l.item-index c.loop-item-test.false) l.invariant)
