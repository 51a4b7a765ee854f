use Rattle.std.proofs.Common.{◌<◌, ◌≤◌, map, length, ap, ap₂, sym, ◌∙◌, arith}
use Rattle.std.proofs.lemmas.List.{take_all, map-append}
use Rattle.serde_json.specs.Data.{array, object, no_members, member, put}
use Rattle.serde_json.specs.View.{view, items_of, members_view}
use Rattle.serde_json.proofs.Views.{view-Array, view-Object}
use Rattle.texts.specs.Keys.{is_rising}
use Rattle.doc_values.specs.Documents.{unit, doc_tree, docs_tree, docs_of, doc_list}
use Rattle.doc_values.specs.Types.{ty_tree, fields_tree, type_fields_of, field_tree, names_of, are_well_formed, highest}
use Rattle.doc_values.specs.Typing.{has_fields, has_each}
use Rattle.doc_values.proofs.Lists.{docs_of-doc_list}
use Rattle.hold_shapes.proofs.SharedItems.{item-at}
use Rattle.value_json.specs.DocumentJson.{tree_of_document, field_members, key_members, content_items, all_hold_i64s}
use Rattle.doc_values.proofs.FieldPlaces.{lookup_field-height, lookup_field-well_formed}
use Rattle.doc_values.proofs.Heights.{field_height}
use Rattle.value_json.proofs.Writing.{same_many, field_typed, field_formed, each_typed, put_field, put_key, whole_more, push_item, items_of_contents, content_tree}
use Rattle.value_json.proofs.write.+write.Goals as goal
use Rattle.doc_values.proofs.TagContents.{content_typed, tag_is_there}

-- ---- records

pub write_record-get-requires : goal.write_record-get-requires
write_record-get-requires t c =
    let contents = doc_list (docs_tree c.args.docs.now) in
    let typed = ap₂ has_fields c.as_slice-field-items.ensures (docs_of-doc_list _) ∙ c.requires.typed in
    omega (arith, same_many c.as_slice-field-items.result.now contents typed, c.loop-i-test.true)

pub write_record-write-requires : goal.write_record-write-requires
write_record-write-requires t c =
    let fields = c.as_slice-field-items.result.now in
    let contents = doc_list (docs_tree c.args.docs.now) in
    let low = field_height fields c.loop-i.i c.field-item.result c.loop-i-test.true c.field-item.is in
    let same = ap highest c.as_slice-field-items.ensures in
    let typed = ap₂ has_fields c.as_slice-field-items.ensures (docs_of-doc_list _) ∙ c.requires.typed in
    let formed = ap are_well_formed c.as_slice-field-items.ensures ∙ c.requires.well_formed in
    (omega (arith, low, same), (field_formed fields c.loop-i.i c.field-item.result c.loop-i-test.true c.field-item.is formed, field_typed fields contents c.loop-i.i c.field-item.result (doc_tree c.get.result.now) c.loop-i-test.true c.field-item.is c.get.ensures typed))

pub write_record-loop-i-preserved : goal.write_record-loop-i-preserved
write_record-loop-i-preserved t c =
    let l = c.loop-i in
    let fields = c.as_slice-field-items.result.now in
    let contents = doc_list (docs_tree c.args.docs.now) in
    let content = doc_tree c.get.result.now in
    let typed = ap₂ has_fields c.as_slice-field-items.ensures (docs_of-doc_list _) ∙ c.requires.typed in
    let within : l.i < length contents = omega (arith, same_many fields contents typed, c.loop-i-test.true) in
    let rising = ap (λ fs. is_rising (names_of fs)) c.as_slice-field-items.ensures ∙ c.requires.rising in
    let name = ap (λ k. put k (view c.in_ok-content.content) (members_view l.members.entries)) c.as_str.ensures in
    let tree = ap (λ d. put c.field-item.result.0 d (members_view l.members.entries)) c.in_ok-content.ensures.tree in
    let before = ap (put c.field-item.result.0 (tree_of_document (ty_tree c.field-item.result.1) content)) l.invariant.0 in
    (c.in_ok-put.ensures.ok ∙ name ∙ tree ∙ before ∙ put_field fields contents l.i c.field-item.result content c.loop-i-test.true within rising c.field-item.is c.get.ensures, whole_more contents l.i content within c.get.ensures l.invariant.1 c.in_ok-content.ensures.whole)

pub write_record-returns-clause-tree : goal.write_record-returns-clause-tree
write_record-returns-clause-tree t c =
    let l = c.loop-i in
    let fields = c.as_slice-field-items.result.now in
    let contents = doc_list (docs_tree c.args.docs.now) in
    let typed = ap₂ has_fields c.as_slice-field-items.ensures (docs_of-doc_list _) ∙ c.requires.typed in
    let past : length contents ≤ l.i = omega (arith, same_many fields contents typed, c.loop-i-test.false) in
    let all = ap₂ (λ fs ds. field_members (type_fields_of (map field_tree fs)) (docs_of ds)) (take_all l.i fields c.loop-i-test.false) (take_all l.i contents past) in
    view-Object l.members ∙ ap object (l.invariant.0 ∙ all ∙ ap₂ field_members c.as_slice-field-items.ensures (docs_of-doc_list _))

pub write_record-returns-clause-whole : goal.write_record-returns-clause-whole
write_record-returns-clause-whole t c =
    let l = c.loop-i in
    let fields = c.as_slice-field-items.result.now in
    let contents = doc_list (docs_tree c.args.docs.now) in
    let typed = ap₂ has_fields c.as_slice-field-items.ensures (docs_of-doc_list _) ∙ c.requires.typed in
    let past : length contents ≤ l.i = omega (arith, same_many fields contents typed, c.loop-i-test.false) in
    ap all_hold_i64s (sym (docs_of-doc_list (docs_tree c.args.docs.now))) ∙ ap (λ ds. all_hold_i64s (docs_of ds)) (sym (take_all l.i contents past)) ∙ l.invariant.1

-- ---- alternatives

pub write_tagged-unreachable-requires : goal.write_tagged-unreachable-requires
write_tagged-unreachable-requires t c = tag_is_there (fields_tree c.args.tags.now) c.args.tag.now _ c.requires.typed (sym (rw c.as_str-name.ensures at c.in_default.ensures))

pub write_tagged-write-requires : goal.write_tagged-write-requires
write_tagged-write-requires t c =
    let tags = fields_tree c.args.tags.now in
    let there = sym (rw c.as_str-name.ensures at c.in-Some.ensures) in
    let low = lookup_field-height tags c.args.tag.now _ there in
    (omega (arith, low), (lookup_field-well_formed tags c.args.tag.now _ c.requires.well_formed there, content_typed tags c.args.tag.now (doc_tree c.args.content.now) _ c.requires.typed there))

pub write_tagged-returns-clause-tree : goal.write_tagged-returns-clause-tree
write_tagged-returns-clause-tree t c =
    let tags = fields_tree c.args.tags.now in
    let empty = ap (λ ms. put c.as_str-name.result.now (view c.in_ok-content.content) (members_view ms)) c.new-members.ensures.empty in
    let name = ap (λ k. member k (view c.in_ok-content.content) no_members) c.as_str-name.ensures in
    let content = ap (λ d. member c.args.tag.now d no_members) c.in_ok-content.ensures.tree in
    view-Object c.put.new.map ∙ ap object (c.in_ok-put.ensures.ok ∙ empty ∙ name ∙ content)
    ∙ sym (content_tree tags c.args.tag.now (doc_tree c.args.content.now) _ (sym (rw c.as_str-name.ensures at c.in-Some.ensures)))

-- ---- lists

pub write_list-get-requires : goal.write_list-get-requires
write_list-get-requires t c = omega (arith, c.len-count.ensures, c.loop-i-test.true)

pub write_list-write-requires : goal.write_list-write-requires
write_list-write-requires t c =
    let contents = doc_list (docs_tree c.args.docs.now) in
    let inner = ty_tree c.args.inner.now in
    let typed = ap (has_each inner) (docs_of-doc_list _) ∙ c.requires.typed in
    let within : c.loop-i.i < length contents = omega (arith, c.len-count.ensures, c.loop-i-test.true) in
    (omega arith, (c.requires.well_formed, each_typed inner contents c.loop-i.i (doc_tree c.get.result.now) within c.get.ensures typed))

pub write_list-loop-i-preserved : goal.write_list-loop-i-preserved
write_list-loop-i-preserved t c =
    let l = c.loop-i in
    let contents = doc_list (docs_tree c.args.docs.now) in
    let content = doc_tree c.get.result.now in
    let inner = ty_tree c.args.inner.now in
    let within : l.i < length contents = omega (arith, c.len-count.ensures, c.loop-i-test.true) in
    let item = push_item (tree_of_document inner) contents l.i content unit (map view l.items.items) (view c.in_ok-write.field-0) within c.get.ensures l.invariant.0 c.in_ok-write.ensures.tree in
    (ap (map view) c.in_ok-push.ensures.items ∙ map-append _ _ _ ∙ item, whole_more contents l.i content within c.get.ensures l.invariant.1 c.in_ok-write.ensures.whole)

pub write_list-returns-clause-tree : goal.write_list-returns-clause-tree
write_list-returns-clause-tree t c =
    let l = c.loop-i in
    let contents = doc_list (docs_tree c.args.docs.now) in
    let inner = ty_tree c.args.inner.now in
    let past : length contents ≤ l.i = omega (arith, c.len-count.ensures, c.loop-i-test.false) in
    let all = ap (λ ds. items_of (map (tree_of_document inner) ds)) (take_all l.i contents past) in
    view-Array l.items ∙ ap array (ap items_of l.invariant.0 ∙ all ∙ items_of_contents inner contents ∙ ap (content_items inner) (docs_of-doc_list _))

pub write_list-returns-clause-whole : goal.write_list-returns-clause-whole
write_list-returns-clause-whole t c =
    let l = c.loop-i in
    let contents = doc_list (docs_tree c.args.docs.now) in
    let past : length contents ≤ l.i = omega (arith, c.len-count.ensures, c.loop-i-test.false) in
    ap all_hold_i64s (sym (docs_of-doc_list (docs_tree c.args.docs.now))) ∙ ap (λ ds. all_hold_i64s (docs_of ds)) (sym (take_all l.i contents past)) ∙ l.invariant.1

-- ---- keyed maps

pub write_keyed-get-key-requires : goal.write_keyed-get-key-requires
write_keyed-get-key-requires t c = omega (arith, c.requires.many, c.len-i-end.ensures, c.loop-i-test.true)

pub write_keyed-get-requires : goal.write_keyed-get-requires
write_keyed-get-requires t c = omega (arith, c.len-i-end.ensures, c.loop-i-test.true)

pub write_keyed-write-requires : goal.write_keyed-write-requires
write_keyed-write-requires t c =
    let contents = doc_list (docs_tree c.args.docs.now) in
    let inner = ty_tree c.args.inner.now in
    let typed = ap (has_each inner) (docs_of-doc_list _) ∙ c.requires.typed in
    let within : c.loop-i.i < length contents = omega (arith, c.len-i-end.ensures, c.loop-i-test.true) in
    (omega arith, (c.requires.well_formed, each_typed inner contents c.loop-i.i (doc_tree c.get.result.now) within c.get.ensures typed))

pub write_keyed-loop-i-preserved : goal.write_keyed-loop-i-preserved
write_keyed-loop-i-preserved t c =
    let l = c.loop-i in
    let contents = doc_list (docs_tree c.args.docs.now) in
    let content = doc_tree c.get.result.now in
    let key = c.get-key.result.now in
    let inner = ty_tree c.args.inner.now in
    let below : l.i < length contents = omega (arith, c.len-i-end.ensures, c.loop-i-test.true) in
    let within : l.i < length c.args.keys.now = omega (arith, c.requires.many, below) in
    let name = ap (λ k. put k (view c.in_ok-content.content) (members_view l.members.entries)) c.as_str.ensures in
    let tree = ap (λ d. put key d (members_view l.members.entries)) c.in_ok-content.ensures.tree in
    let before = ap (put key (tree_of_document inner content)) l.invariant.0 in
    (c.in_ok-put.ensures.ok ∙ name ∙ tree ∙ before ∙ put_key inner c.args.keys.now contents l.i key content within below c.requires.rising (item-at c.args.keys.now l.i key key c.get-key.ensures) c.get.ensures, whole_more contents l.i content below c.get.ensures l.invariant.1 c.in_ok-content.ensures.whole)

pub write_keyed-returns-clause-tree : goal.write_keyed-returns-clause-tree
write_keyed-returns-clause-tree t c =
    let l = c.loop-i in
    let contents = doc_list (docs_tree c.args.docs.now) in
    let inner = ty_tree c.args.inner.now in
    let past : length contents ≤ l.i = omega (arith, c.len-i-end.ensures, c.loop-i-test.false) in
    let done : length c.args.keys.now ≤ l.i = omega (arith, c.requires.many, past) in
    let all = ap₂ (λ ks ds. key_members inner ks (docs_of ds)) (take_all l.i c.args.keys.now done) (take_all l.i contents past) in
    view-Object l.members ∙ ap object (l.invariant.0 ∙ all ∙ ap (key_members inner c.args.keys.now) (docs_of-doc_list _))

pub write_keyed-returns-clause-whole : goal.write_keyed-returns-clause-whole
write_keyed-returns-clause-whole t c =
    let l = c.loop-i in
    let contents = doc_list (docs_tree c.args.docs.now) in
    let past : length contents ≤ l.i = omega (arith, c.len-i-end.ensures, c.loop-i-test.false) in
    ap all_hold_i64s (sym (docs_of-doc_list (docs_tree c.args.docs.now))) ∙ ap (λ ds. all_hold_i64s (docs_of ds)) (sym (take_all l.i contents past)) ∙ l.invariant.1
