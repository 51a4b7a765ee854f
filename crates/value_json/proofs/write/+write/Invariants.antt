use Rattle.std.proofs.Common.{◌≡◌, ◌+◌, ◌*◌, true, take, map}
use Rattle.serde_json.specs.View.{view, members_view}
use Rattle.doc_values.specs.Documents.{docs_tree, docs_of, doc_list}
use Rattle.doc_values.specs.Types.{ty_tree, fields_tree, type_fields_of, field_tree, height, highest}
use Rattle.value_json.specs.DocumentJson.{tree_of_document, field_members, key_members, all_hold_i64s}
use Rattle.value_json.proofs.write.+write.Given as goal

abbrev pub decreases-write : goal.decreases-write
decreases-write l = 3 * height (ty_tree l.ty.now)

abbrev pub decreases-write_record : goal.decreases-write_record
decreases-write_record l = 3 * highest (fields_tree l.fields.now) + 1

abbrev pub decreases-write_tagged : goal.decreases-write_tagged
decreases-write_tagged l = 3 * highest (fields_tree l.tags.now) + 1

abbrev pub decreases-write_list : goal.decreases-write_list
decreases-write_list l = 3 * height (ty_tree l.inner.now) + 1

abbrev pub decreases-write_keyed : goal.decreases-write_keyed
decreases-write_keyed l = 3 * height (ty_tree l.inner.now) + 1

abbrev pub decreases-write_ordered : goal.decreases-write_ordered
decreases-write_ordered l = 3 * height (ty_tree l.inner.now) + 2

abbrev pub invariant-write_record-loop-i : goal.invariant-write_record-loop-i
invariant-write_record-loop-i l =
    let contents = doc_list (docs_tree l.docs) in
    (members_view l.members.entries ≡ field_members (type_fields_of (map field_tree (take l.i l.field-items))) (docs_of (take l.i contents)))
    × (all_hold_i64s (docs_of (take l.i contents)) ≡ true)

abbrev pub invariant-write_list-loop-i : goal.invariant-write_list-loop-i
invariant-write_list-loop-i l =
    let contents = doc_list (docs_tree l.docs) in
    (map view l.items.items ≡ map (tree_of_document (ty_tree l.inner)) (take l.i contents))
    × (all_hold_i64s (docs_of (take l.i contents)) ≡ true)

abbrev pub invariant-write_keyed-loop-i : goal.invariant-write_keyed-loop-i
invariant-write_keyed-loop-i l =
    let contents = doc_list (docs_tree l.docs) in
    (members_view l.members.entries ≡ key_members (ty_tree l.inner) (take l.i l.keys) (docs_of (take l.i contents)))
    × (all_hold_i64s (docs_of (take l.i contents)) ≡ true)
