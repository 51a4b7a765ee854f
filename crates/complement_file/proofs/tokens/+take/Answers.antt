use Rattle.std.proofs.Common.{◌+◌, ◌∷◌, Vec, Global, ◌-◌, List, ℕ, [], Some, None, codes, length, map, option_map, refl, sym, ap, subst, ◌∙◌, arith}
use Rattle.std.proofs.lemmas.List.{map-append}
use Rattle.std.specs.Borrow.{Bor}
use Rattle.texts.specs.Keys.{is_rising}
use Rattle.json.specs.Token.{begin_object}
use Rattle.json.proofs.Grammar.{read_key-shorter}
use Rattle.hold_shapes.specs.declared.shape.Shape.TheVariants.{List as ListOf, Keyed as KeyedOf}
use Rattle.lens_forms.specs.Forms.{form_tree, rows_tree, arms_tree, form_then, form_rec, form_alt, form_each, form_keyed, form_ordered}
use Rattle.lens_forms.specs.Measures.{rows_parts}
use Rattle.lens_forms.specs.Typing.{are_typed_rows}
use Rattle.lens_core.specs.declared.comp.Comp.{Comp, Hold, Rec, Alt}
use Rattle.lens_core.specs.Complements.{comp_tree, comps_tree, comps_of, alt_comp}
use Rattle.doc_tokens.specs.MembersAt.{follows, last_of}
use Rattle.doc_tokens.proofs.RisingMembers.{last_of-append}
use Rattle.complement_file.specs.Taken.{TakesComp, TakesPlaces, TakesRows, TakesContents}
use Rattle.complement_file.proofs.Arms.{arm_smaller, arm_typed}
use Rattle.complement_file.proofs.Levels.{rec_level, alt_level, hold_level}
use Rattle.complement_file.proofs.Rows.{row_smaller_is}
use Rattle.complement_file.proofs.TakenParts.{PlacesSoFar, RowsSoFar, ContentsSoFar, pair_taken, record_taken, tagged_taken, list_taken, keyed_taken, nodes_taken, next_place, places_end, no_row_yet, row_is_typed, row_taken, skip_left, skip_right, rows_end, no_content_yet, one_content_more, contents_end, tree_shorter, if_some}
use Rattle.complement_file.proofs.tokens.+take.Goals as goal
use Rattle.complement_file.proofs.tokens.+take.Goals.{take_rows-in-Both+in_ok-comp-in-Both+in-Ok, take_rows-in-OnlyLeft, take_rows-in-OnlyRight}

-- ---- places

pub take_places-loop-reader-smaller : goal.take_places-loop-reader-smaller
take_places-loop-reader-smaller t c =
    let p = c.in_ok-comp.ensures in
    let less = tree_shorter c.args.depth c.take_end_array.new.self c.take.new.reader p.0 p.1 in
    omega (arith, less, ap length c.loop-reader-test.ensures.1)

pub take_places-loop-reader-preserved : goal.take_places-loop-reader-preserved
take_places-loop-reader-preserved t c =
    let l = c.loop-reader in
    let f = form_tree c.args.inner.now in
    subst (λ cs. PlacesSoFar f c.args.depth c.args.reader.now c.take.new.reader cs) (sym (ap (map comp_tree) c.in-Ok.ensures.items ∙ map-append comp_tree l.comps.items _))
    (next_place f c.args.depth c.args.reader.now c.take_end_array.new.self c.take.new.reader (map comp_tree l.comps.items) (comp_tree c.in_ok-comp.comp)
    (subst (λ ts. PlacesSoFar f c.args.depth c.args.reader.now ts (map comp_tree l.comps.items)) (sym c.loop-reader-test.ensures.1) l.invariant) c.in_ok-comp.ensures)

pub take_places-returns-in-Ok-from_vec : goal.take_places-returns-in-Ok-from_vec
take_places-returns-in-Ok-from_vec t c =
    let l = c.loop-reader in
    let f = form_tree c.args.inner.now in
    subst (λ cs. TakesPlaces f c.args.depth c.args.reader.now cs c.take_end_array.new.self) (sym c.in-Ok-from_vec.ensures)
    (places_end f c.args.depth c.args.reader.now l.reader c.take_end_array.new.self (map comp_tree l.comps.items) l.invariant c.loop-reader-test.ensures)

-- ---- a list, a keyed map and an ordered tree

pub take_list-returns : goal.take_list-returns
take_list-returns t c =
    let f = form_tree c.args.inner.now in
    let o = c.if-not-opens_array_in.ensures refl in
    let comps = c.in_ok-comps.comps in
    subst (λ ts. TakesComp (form_each f) c.args.depth ts (comp_tree (Hold (ListOf (record { count = c.len-count.result })) comps)) c.closes_object.new.reader) (sym o.1)
    (subst (λ x. TakesComp (form_each f) c.args.depth (begin_object ∷ o.0) x c.closes_object.new.reader) (sym (hold_level (ListOf (record { count = c.len-count.result })) comps))
    (list_taken c.args.depth (omega arith) f o.0 c.opens_array_in.new.reader c.take_places.new.reader c.closes_object.new.reader (comps_tree comps) c.len-count.result o.2 c.in_ok-comps.ensures
    (c.if-not-closes_object.ensures refl) c.len-count.ensures))

pub take_contents-loop-comps-init : goal.take_contents-loop-comps-init
take_contents-loop-comps-init t c =
    let f = form_tree c.args.inner.now in
    subst (λ ns. ContentsSoFar f c.args.depth c.args.reader.now c.args.reader.now ns (map comp_tree c.new-comps.result.items) (last_of ns)) (sym c.new-names.ensures.items)
    (subst (λ cs. ContentsSoFar f c.args.depth c.args.reader.now c.args.reader.now [] cs None) (sym (ap (map comp_tree) c.new-comps.ensures.items)) (no_content_yet f c.args.depth c.args.reader.now))

pub take_contents-loop-comps-smaller : goal.take_contents-loop-comps-smaller
take_contents-loop-comps-smaller t c =
    let p = c.in_ok-comp.ensures in
    let key = read_key-shorter c.loop-comps.reader _ c.next_key.new.reader c.in_ok-key.ensures in
    let less = tree_shorter c.args.depth c.next_key.new.reader c.take.new.reader p.0 p.1 in
    omega (arith, less, key)

pub take_contents-loop-comps-preserved : goal.take_contents-loop-comps-preserved
take_contents-loop-comps-preserved t c =
    let l = c.loop-comps in
    let r = c.next_key.new.reader in
    rw (c.in-Ok-push.ensures.items, map-append, c.in-Ok.ensures.items, last_of-append)
    (one_content_more (form_tree c.args.inner.now) c.args.depth c.args.reader.now l.reader r c.take.new.reader l.names.items (map comp_tree l.comps.items) (last_of l.names.items) c.in_ok-name.name
    (comp_tree c.in_ok-comp.comp) l.invariant (ap (λ ns. follows (last_of ns) c.in_ok-name.name) (sym c.deref.ensures.value) ∙ sym c.if-not-rises.ensures)
    (c.in_ok-key.ensures ∙ ap (λ k. Some (option_map (λ (x : Bor (List ℕ)). x.now) k, r)) c.in-Some.is ∙ ap (λ n. Some (Some n, r)) (sym c.in_ok-name.ensures)) c.in_ok-comp.ensures)

pub take_contents-returns-in-Ok-from_vec : goal.take_contents-returns-in-Ok-from_vec
take_contents-returns-in-Ok-from_vec t c =
    let l = c.loop-comps in
    let r = c.next_key.new.reader in
    let f = form_tree c.args.inner.now in
    subst (λ cs. TakesContents f c.args.depth c.args.reader.now l.names.items cs r) (sym c.in-Ok-from_vec.ensures)
    (contents_end f c.args.depth c.args.reader.now l.reader r l.names.items (map comp_tree l.comps.items) (last_of l.names.items) l.invariant
    (c.in_ok-key.ensures ∙ ap (λ k. Some (option_map (λ (x : Bor (List ℕ)). x.now) k, r)) c.in_default.is))

pub take_keyed-returns : goal.take_keyed-returns
take_keyed-returns t c =
    let f = form_tree c.args.inner.now in
    let o = c.if-not-opens_object_in.ensures refl in
    let comps = c.in_ok-names.comps in
    let keys = c.in-Some.keys in
    let same = c.in-Some.ensures.1 in
    subst (λ ts. TakesComp (form_keyed f) c.args.depth ts (comp_tree (Hold (KeyedOf keys) comps)) c.closes_object.new.reader) (sym o.1)
    (subst (λ x. TakesComp (form_keyed f) c.args.depth (begin_object ∷ o.0) x c.closes_object.new.reader) (sym (hold_level (KeyedOf keys) comps))
    (keyed_taken c.args.depth (omega arith) f o.0 c.opens_object_in.new.reader c.take_contents.new.reader c.closes_object.new.reader c.in_ok-names.names.items keys (comps_tree comps) o.2 c.in_ok-names.ensures
    (c.if-not-closes_object.ensures refl) (ap is_rising same ∙ c.in-Some.ensures.0) (same ∙ c.in-Ok.ensures)))

pub take_nodes-returns : goal.take_nodes-returns
take_nodes-returns t c =
    let f = form_tree c.args.inner.now in
    let o = c.if-not-opens_object_in.ensures refl in
    let last = c.closes_object-else-not-closes_object.new.reader in
    if_some c.nodes.result
    (λ comp n.
    subst (λ ts. TakesComp (form_ordered f) c.args.depth ts (comp_tree comp) last) (sym o.1)
    (subst (λ x. TakesComp (form_ordered f) c.args.depth (begin_object ∷ o.0) x last) (sym n.4)
    (nodes_taken c.args.depth f o.0 c.opens_object_in.new.reader c.opens_array.new.reader c.take_counts.new.reader c.opens_array-else-not-takes_key-2.new.reader c.take_places.new.reader c.closes_object.new.reader last
    c.in_ok-depths.depths.items n.0 (comps_tree c.in_ok-comps.comps) (omega arith) o.2 (c.if-not-takes_key.ensures refl ∙ ap (λ ts. Some (Some (codes "depths"), ts)) (c.if-not-opens_array.ensures refl))
    (c.in_ok-depths.ensures (c.args.depth - 3)) (c.if-not-takes_key-2.ensures refl ∙ ap (λ ts. Some (Some (codes "items"), ts)) (c.if-not-opens_array-2.ensures refl)) c.in_ok-comps.ensures
    (c.if-not-closes_object.ensures refl) (c.if-not-closes_object-2.ensures refl) n.1 n.2 n.3)))
    c.nodes.ensures

-- ---- a composition, a record and alternatives

pub take_pair-returns-in-Ok : goal.take_pair-returns-in-Ok
take_pair-returns-in-Ok t c =
    let l = form_tree c.args.first.now in
    let m = form_tree c.args.second.now in
    let o = c.if-not-opens_array_in.ensures refl in
    subst (λ ts. TakesComp (form_then l m) c.args.depth ts (comp_tree c.in-Ok.comp) c.closes_object.new.reader) (sym o.1)
    (subst (λ x. TakesComp (form_then l m) c.args.depth (begin_object ∷ o.0) x c.closes_object.new.reader) (sym c.in-Ok.ensures)
    (pair_taken c.args.depth (omega arith) l m o.0 c.opens_array_in.new.reader c.take.new.reader c.take-2.new.reader c.take_end_array.new.self c.closes_object.new.reader (comp_tree c.in_ok-one.one) (comp_tree c.in_ok-other.other)
    o.2 c.in_ok-one.ensures c.in_ok-other.ensures c.if-not-take_end_array.ensures (c.if-not-closes_object.ensures refl)))

pub take_record-returns : goal.take_record-returns
take_record-returns t c =
    let rows = rows_tree c.args.rows.now in
    let o = c.if-not-opens_array_in.ensures refl in
    let comps = c.in_ok-comps.comps in
    subst (λ ts. TakesComp (form_rec rows) c.args.depth ts (comp_tree (Rec comps)) c.closes_object.new.reader) (sym o.1)
    (subst (λ x. TakesComp (form_rec rows) c.args.depth (begin_object ∷ o.0) x c.closes_object.new.reader) (sym (rec_level comps))
    (record_taken c.args.depth (omega arith) rows o.0 c.opens_array_in.new.reader c.take_rows.new.reader c.closes_object.new.reader (comps_tree comps) o.2 c.in_ok-comps.ensures (c.if-not-closes_object.ensures refl)))

-- ---- the paired rows

pub take_rows-loop-row-init : goal.take_rows-loop-row-init
take_rows-loop-row-init t c =
    let rows = c.as_slice-row-items.result.now in
    subst (λ cs. RowsSoFar rows 0 c.args.depth c.args.reader.now c.args.reader.now cs) (sym (ap (map comp_tree) c.new-comps.ensures.items))
    (no_row_yet rows c.args.depth c.args.reader.now (ap are_typed_rows c.as_slice-row-items.ensures ∙ c.requires.typed))

pub take_rows-take-requires : goal.take_rows-take-requires
take_rows-take-requires t c =
    let rows = c.as_slice-row-items.result.now in
    let l = c.loop-row in
    let low = row_smaller_is rows l.row-index c.row-item.result _ _ c.in-Both.form c.loop-row-test.true c.row-item.is c.in-Both.is in
    let parts = ap rows_parts c.as_slice-row-items.ensures in
    let small = c.requires.small in (
      omega (arith, low, parts),
      (
        row_is_typed rows l.row-index c.args.depth c.args.reader.now l.reader (map comp_tree l.comps.items) c.row-item.result c.loop-row-test.true c.row-item.is l.invariant _ _ c.in-Both.form c.in-Both.is,
        omega (arith, low, parts, small),
      ),
    )

pub take_rows-loop-row-preserved : goal.take_rows-loop-row-preserved
take_rows-loop-row-preserved t c =
    let rows = c.as_slice-row-items.result.now in
    let l = c.loop-row in
    let i = l.row-index in
    let depth = c.args.depth in
    let first = c.args.reader.now in
    let old = l.comps.items in
    let r = c.row-item.result in
    let now = c.loop-row-test.true in
    elim c.match-row.branch [
      | take_rows-in-Both+in_ok-comp-in-Both+in-Ok w ↦
          let new = w.take.new.reader in
          subst (λ ts. RowsSoFar rows (i + 1) depth first ts (map comp_tree c.match-row.comps.items)) (sym w.reader-is)
          (subst (λ cs. RowsSoFar rows (i + 1) depth first new cs)
          (sym (ap (λ (v : Vec Comp Global). map comp_tree v.items) w.comps-is ∙ ap (map comp_tree) w.in-Ok.ensures.items ∙ map-append comp_tree old _))
          (row_taken rows i depth first l.reader (map comp_tree old) r now c.row-item.is l.invariant w.in-Both.field-0 w.in-Both.field-1 w.in-Both.form w.in-Both.is (comp_tree w.in_ok-comp-in-Both.comp) new w.in_ok-comp-in-Both.ensures))
      | take_rows-in-OnlyLeft w ↦
          subst (λ ts. RowsSoFar rows (i + 1) depth first ts (map comp_tree c.match-row.comps.items)) (sym w.reader-is)
          (subst (λ cs. RowsSoFar rows (i + 1) depth first l.reader cs) (sym (ap (λ (v : Vec Comp Global). map comp_tree v.items) w.comps-is))
          (skip_left rows i depth first l.reader (map comp_tree old) r now c.row-item.is l.invariant w.in-OnlyLeft.field-0 w.in-OnlyLeft.field-1 w.in-OnlyLeft.is))
      | take_rows-in-OnlyRight w ↦
          subst (λ ts. RowsSoFar rows (i + 1) depth first ts (map comp_tree c.match-row.comps.items)) (sym w.reader-is)
          (subst (λ cs. RowsSoFar rows (i + 1) depth first l.reader cs) (sym (ap (λ (v : Vec Comp Global). map comp_tree v.items) w.comps-is))
          (skip_right rows i depth first l.reader (map comp_tree old) r now c.row-item.is l.invariant w.in-OnlyRight.field-0 w.in-OnlyRight.field-1 w.in-OnlyRight.is))
    ]

pub take_rows-returns-in-Ok-from_vec : goal.take_rows-returns-in-Ok-from_vec
take_rows-returns-in-Ok-from_vec t c =
    let rows = c.as_slice-row-items.result.now in
    let l = c.loop-row in
    let cs = map comp_tree l.comps.items in
    subst (λ x. TakesRows (rows_tree c.args.rows.now) c.args.depth c.args.reader.now x c.take_end_array.new.self) (sym c.in-Ok-from_vec.ensures)
    (subst (λ rs. TakesRows rs c.args.depth c.args.reader.now (comps_of cs) c.take_end_array.new.self) c.as_slice-row-items.ensures
    (rows_end rows l.row-index c.args.depth c.args.reader.now l.reader c.take_end_array.new.self cs c.loop-row-test.false l.invariant c.if-not-take_end_array.ensures))

-- ---- alternatives

pub take_tagged-take-requires : goal.take_tagged-take-requires
take_tagged-take-requires t c =
    let arms = arms_tree c.args.arms.now in
    let found = sym c.in-Some.ensures in
    let low = arm_smaller _ arms _ found in
    let small = c.requires.small in
    (omega (arith, low), (arm_typed arms _ _ c.requires.typed found, omega (arith, low, small)))

pub take_tagged-returns-in-Ok : goal.take_tagged-returns-in-Ok
take_tagged-returns-in-Ok t c =
    let arms = arms_tree c.args.arms.now in
    let o = c.if-not-opens_array_in.ensures refl in
    let tag = c.in_ok-tag-2.tag in
    let level = alt_level tag c.in-Ok.content ∙ ap (alt_comp tag) (ap comp_tree c.in-Ok.ensures.ok) ∙ ap (λ n. alt_comp n (comp_tree c.in_ok-content.content)) c.in_ok-tag-2.ensures in
    subst (λ ts. TakesComp (form_alt arms) c.args.depth ts (comp_tree (Alt tag c.in-Ok.content)) c.closes_object.new.reader) (sym o.1)
    (subst (λ x. TakesComp (form_alt arms) c.args.depth (begin_object ∷ o.0) x c.closes_object.new.reader) (sym level)
    (tagged_taken c.args.depth (omega arith) arms o.0 c.opens_array_in.new.reader c.take_text.new.reader c.take.new.reader c.take_end_array.new.self c.closes_object.new.reader c.in_ok-tag.tag.now (form_tree c.in-Some.form.now)
    (comp_tree c.in_ok-content.content) o.2 (c.in_ok-tag.ensures (c.args.depth - 2)) (sym c.in-Some.ensures) c.in_ok-content.ensures c.if-not-take_end_array.ensures (c.if-not-closes_object.ensures refl)))
