use Rattle.std.proofs.Common.{◌≡◌, ◌+◌, ◌*◌, drop, map, option_map}
use Rattle.serde_json.specs.View.{items_view, members_view}
use Rattle.doc_values.specs.Documents.{doc_tree}
use Rattle.doc_values.specs.Types.{ty_tree, fields_tree, type_fields_of, field_tree, height, highest}
use Rattle.value_json.specs.DocumentJson.{field_documents, member_documents, item_documents}
use Rattle.value_json.proofs.ReadLoops.{then_docs}
use Rattle.value_json.proofs.read.+read.Given as goal

abbrev pub decreases-read : goal.decreases-read
decreases-read l = 3 * height (ty_tree l.ty.now)

abbrev pub decreases-read_record : goal.decreases-read_record
decreases-read_record l = 3 * highest (fields_tree l.fields.now) + 2

abbrev pub decreases-read_fields : goal.decreases-read_fields
decreases-read_fields l = 3 * highest (fields_tree l.fields.now) + 1

abbrev pub decreases-read_tagged : goal.decreases-read_tagged
decreases-read_tagged l = 3 * highest (fields_tree l.tags.now) + 2

abbrev pub decreases-read_list : goal.decreases-read_list
decreases-read_list l = 3 * height (ty_tree l.inner.now) + 2

abbrev pub decreases-read_keyed : goal.decreases-read_keyed
decreases-read_keyed l = 3 * height (ty_tree l.inner.now) + 2

abbrev pub decreases-read_ordered : goal.decreases-read_ordered
decreases-read_ordered l = 3 * height (ty_tree l.inner.now) + 2

abbrev pub decreases-read_members : goal.decreases-read_members
decreases-read_members l = 3 * height (ty_tree l.inner.now) + 1

abbrev pub decreases-read_items : goal.decreases-read_items
decreases-read_items l = 3 * height (ty_tree l.inner.now) + 1

-- the contents so far, and those of what is left, are those of all
abbrev pub invariant-read_fields-loop-field : goal.invariant-read_fields-loop-field
invariant-read_fields-loop-field l =
    field_documents (fields_tree l.fields) (members_view l.members.entries)
    ≡ option_map (then_docs (map doc_tree l.docs.items)) (field_documents (type_fields_of (map field_tree (drop l.field-index l.field-items))) (members_view l.rest))

abbrev pub invariant-read_members-loop-content : goal.invariant-read_members-loop-content
invariant-read_members-loop-content l =
    member_documents (ty_tree l.inner) (members_view l.members.entries)
    ≡ option_map (then_docs (map doc_tree l.docs.items)) (member_documents (ty_tree l.inner) (members_view l.content-iterator))

abbrev pub invariant-read_items-loop-item : goal.invariant-read_items-loop-item
invariant-read_items-loop-item l =
    item_documents (ty_tree l.inner) (items_view l.items)
    ≡ option_map (then_docs (map doc_tree l.docs.items)) (item_documents (ty_tree l.inner) (items_view (drop l.item-index l.items)))
