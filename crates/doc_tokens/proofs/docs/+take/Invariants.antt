use Rattle.std.proofs.Common.{◌≡◌, ◌+◌, ◌*◌, map, drop, length, option_map}
use Rattle.doc_values.specs.Documents.{doc_tree}
use Rattle.doc_values.specs.Types.{ty_tree, fields_tree, type_fields_of, field_tree, height, highest}
use Rattle.json_tokens.specs.TreesAt.{read_items_at}
use Rattle.value_json.specs.DocumentJson.{item_documents}
use Rattle.doc_tokens.proofs.ReadingDocs.{onto_docs}
use Rattle.doc_tokens.specs.MembersAt.{last_of}
use Rattle.doc_tokens.proofs.RisingMembers.{FieldsSoFar, EntriesSoFar}
use Rattle.doc_tokens.proofs.docs.+take.Given as goal

abbrev pub decreases-take_doc : goal.decreases-take_doc
decreases-take_doc l = 3 * height (ty_tree l.ty.now)

abbrev pub decreases-take_record : goal.decreases-take_record
decreases-take_record l = 3 * highest (fields_tree l.fields.now) + 2

abbrev pub decreases-take_fields : goal.decreases-take_fields
decreases-take_fields l = 3 * highest (fields_tree l.fields.now) + 1

abbrev pub decreases-take_tagged : goal.decreases-take_tagged
decreases-take_tagged l = 3 * highest (fields_tree l.tags.now) + 2

abbrev pub decreases-take_list : goal.decreases-take_list
decreases-take_list l = 3 * height (ty_tree l.inner.now) + 2

abbrev pub decreases-take_keyed : goal.decreases-take_keyed
decreases-take_keyed l = 3 * height (ty_tree l.inner.now) + 2

abbrev pub decreases-take_ordered : goal.decreases-take_ordered
decreases-take_ordered l = 3 * height (ty_tree l.inner.now) + 2

abbrev pub decreases-take_entries : goal.decreases-take_entries
decreases-take_entries l = 3 * height (ty_tree l.inner.now) + 1

abbrev pub decreases-take_items : goal.decreases-take_items
decreases-take_items l = 3 * height (ty_tree l.inner.now) + 1

-- the contents so far, and those that are left, are those of all
abbrev pub invariant-take_items-loop-reader : goal.invariant-take_items-loop-reader
invariant-take_items-loop-reader l =
    read_items_at (item_documents (ty_tree l.inner)) l.depth l.initial.reader ≡ onto_docs (map doc_tree l.docs.items) (read_items_at (item_documents (ty_tree l.inner)) l.depth l.reader)

abbrev pub decreases-take_items-loop-reader : goal.decreases-take_items-loop-reader
decreases-take_items-loop-reader l = length l.reader

abbrev pub invariant-take_fields-loop-field : goal.invariant-take_fields-loop-field
invariant-take_fields-loop-field l =
    FieldsSoFar (fields_tree l.fields) (type_fields_of (map field_tree (drop l.field-index l.field-items))) l.depth l.initial.reader l.reader (map doc_tree l.docs.items) (option_map (λ x. x.now) l.last)

abbrev pub invariant-take_entries-loop-docs : goal.invariant-take_entries-loop-docs
invariant-take_entries-loop-docs l = EntriesSoFar (ty_tree l.inner) l.depth l.initial.reader l.reader l.names.items (map doc_tree l.docs.items) (last_of l.names.items)

abbrev pub decreases-take_entries-loop-docs : goal.decreases-take_entries-loop-docs
decreases-take_entries-loop-docs l = length l.reader
