use Rattle.std.proofs.Common.{◌-◌, List, ℕ, codes, rules, Some, map, length, option_map, refl, ap, sym, ◌∙◌, arith}
use Rattle.std.proofs.lemmas.List.{map-append}
use Rattle.json.proofs.Grammar.{read_key-shorter}
use Rattle.doc_values.proofs.Heights.{field_height}
use Rattle.std.specs.Borrow.{Bor}
use Rattle.hold_shapes.specs.declared.shape.Shape.TheVariants.{List as ListOf}
use Rattle.doc_values.proofs.FieldPlaces.{lookup_field-height}
use Rattle.doc_values.specs.declared.doc.Doc.{the_lemmas}
use Rattle.doc_values.specs.Documents.{doc_tree, docs_tree, rec, hold, alt}
use Rattle.doc_values.specs.Types.{ty_tree, fields_tree, highest, ty_rec, ty_list, ty_keyed, ty_ordered, ty_alt}
use Rattle.json_tokens.specs.TreesAt.{read_at, read_items_at}
use Rattle.json_tokens.proofs.ReadParts.{read_shorter, array_read}
use Rattle.value_json.specs.DocumentJson.{document_of, item_documents, field_documents, list_document}
use Rattle.value_json.proofs.Levels.{doc_tree-Hold}
use Rattle.doc_tokens.specs.MembersAt.{follows, last_of, entry_documents}
use Rattle.doc_tokens.proofs.ReadingDocs.{if_some, onto_docs, next_doc, docs_end, keyed_gives, ordered_read, tagged_read}
use Rattle.doc_tokens.proofs.RisingMembers.{object_read, fields_begin, next_field, fields_end, entries_begin, one_entry_more, all_entries, last_of-append}
use Rattle.doc_tokens.proofs.docs.+take.Goals as goal

pub take_items-loop-reader-smaller : goal.take_items-loop-reader-smaller
take_items-loop-reader-smaller t c =
    let less = read_shorter (document_of (ty_tree c.args.inner.now)) c.args.depth c.take_end_array.new.self c.take_doc.new.reader (doc_tree c.in_ok-doc.doc) c.in_ok-doc.ensures in
    omega (arith, less, ap length c.loop-reader-test.ensures.1)

pub take_items-loop-reader-preserved : goal.take_items-loop-reader-preserved
take_items-loop-reader-preserved t c =
    let ty = ty_tree c.args.inner.now in
    let depth = c.args.depth in
    let cs = map doc_tree c.loop-reader.docs.items in
    c.loop-reader.invariant ∙ ap (λ ts. onto_docs cs (read_items_at (item_documents ty) depth ts)) (sym c.loop-reader-test.ensures.1)
    ∙ next_doc ty depth cs (doc_tree c.in_ok-doc.doc) c.take_end_array.new.self c.take_doc.new.reader c.in_ok-doc.ensures
    ∙ ap (λ ds. onto_docs ds (read_items_at (item_documents ty) depth c.take_doc.new.reader)) (sym (ap (map doc_tree) c.in-Ok.ensures.items ∙ map-append doc_tree c.loop-reader.docs.items _))

pub take_items-returns-in-Ok-from_vec : goal.take_items-returns-in-Ok-from_vec
take_items-returns-in-Ok-from_vec t c =
    let cs = map doc_tree c.loop-reader.docs.items in
    c.loop-reader.invariant ∙ docs_end (ty_tree c.args.inner.now) c.args.depth cs c.loop-reader.reader c.take_end_array.new.self c.loop-reader-test.ensures ∙ ap (λ ds. Some (ds, c.take_end_array.new.self)) (sym c.in-Ok-from_vec.ensures)

pub take_fields-loop-field-init : goal.take_fields-loop-field-init
take_fields-loop-field-init t c = fields_begin (fields_tree c.args.fields.now) _ c.args.depth c.args.reader.now _ c.as_slice-field-items.ensures (ap (map doc_tree) c.in-Ok.ensures.items)

pub take_fields-take_doc-requires : goal.take_fields-take_doc-requires
take_fields-take_doc-requires t c =
    let low = field_height c.as_slice-field-items.result.now c.loop-field.field-index c.field-item.result c.loop-field-test.true c.field-item.is in
    let same = ap highest c.as_slice-field-items.ensures in
    omega (arith, low, same)

pub take_fields-loop-field-preserved : goal.take_fields-loop-field-preserved
take_fields-loop-field-preserved t c =
    let l = c.loop-field in
    let item = c.field-item.result in
    rw (c.in-Ok-push.ensures.items, map-append)
    (next_field (fields_tree c.args.fields.now) c.as_slice-field-items.result.now l.field-index item c.args.depth c.args.reader.now l.reader c.takes_key.new.reader c.take_doc.new.reader (map doc_tree l.docs.items) _
    (doc_tree c.in_ok-doc.doc) c.loop-field-test.true c.field-item.is l.invariant (sym c.if-not-follows.ensures) (c.if-not-takes_key.ensures refl ∙ ap (λ k. Some (Some k, c.takes_key.new.reader)) c.as_str.ensures) c.in_ok-doc.ensures)

pub take_fields-returns-in-Ok-from_vec : goal.take_fields-returns-in-Ok-from_vec
take_fields-returns-in-Ok-from_vec t c =
    let l = c.loop-field in
    fields_end (fields_tree c.args.fields.now) c.as_slice-field-items.result.now l.field-index c.args.depth c.args.reader.now l.reader c.closes_object.new.reader (map doc_tree l.docs.items) _ c.loop-field-test.false
    l.invariant (c.if-not-closes_object.ensures refl) ∙ ap (λ ds. Some (ds, c.closes_object.new.reader)) (sym c.in-Ok-from_vec.ensures)

pub take_entries-loop-docs-init : goal.take_entries-loop-docs-init
take_entries-loop-docs-init t c = entries_begin (ty_tree c.args.inner.now) c.args.depth c.args.reader.now _ _ c.new-names.ensures.items (ap (map doc_tree) c.new-docs.ensures.items)

pub take_entries-loop-docs-smaller : goal.take_entries-loop-docs-smaller
take_entries-loop-docs-smaller t c =
    let key = read_key-shorter c.loop-docs.reader _ c.next_key.new.reader c.in_ok-key.ensures in
    let less = read_shorter (document_of (ty_tree c.args.inner.now)) c.args.depth c.next_key.new.reader c.take_doc.new.reader (doc_tree c.in_ok-doc.doc) c.in_ok-doc.ensures in
    omega (arith, less, key)

pub take_entries-loop-docs-preserved : goal.take_entries-loop-docs-preserved
take_entries-loop-docs-preserved t c =
    let l = c.loop-docs in
    let r = c.next_key.new.reader in
    rw (c.in-Ok-push.ensures.items, map-append, c.in-Ok.ensures.items, last_of-append)
    (one_entry_more (ty_tree c.args.inner.now) c.args.depth c.args.reader.now l.reader r c.take_doc.new.reader l.names.items (map doc_tree l.docs.items) (last_of l.names.items) c.in_ok-name.name (doc_tree c.in_ok-doc.doc)
    l.invariant (ap (λ ns. follows (last_of ns) c.in_ok-name.name) (sym c.deref.ensures.value) ∙ sym c.if-not-rises.ensures)
    (c.in_ok-key.ensures ∙ ap (λ k. Some (option_map (λ (x : Bor (List ℕ)). x.now) k, r)) c.in-Some.is ∙ ap (λ n. Some (Some n, r)) (sym c.in_ok-name.ensures)) c.in_ok-doc.ensures)

pub take_entries-returns-in-Ok-from_vec : goal.take_entries-returns-in-Ok-from_vec
take_entries-returns-in-Ok-from_vec t c =
    let l = c.loop-docs in
    let r = c.next_key.new.reader in
    all_entries (ty_tree c.args.inner.now) c.args.depth c.args.reader.now l.reader r l.names.items (map doc_tree l.docs.items) (last_of l.names.items) l.invariant
    (c.in_ok-key.ensures ∙ ap (λ k. Some (option_map (λ (x : Bor (List ℕ)). x.now) k, r)) c.in_default.is) ∙ ap (λ ds. Some ((l.names.items, ds), r)) (sym c.in-Ok-from_vec.ensures)

pub take_record-returns : goal.take_record-returns
take_record-returns t c =
    let fs = fields_tree c.args.fields.now in
    let ds = docs_tree c.in_ok-take_fields.field-0 in
    ap (read_at (document_of (ty_rec fs)) c.args.depth) (c.if-not-opens_object.ensures refl)
    ∙ object_read (field_documents fs) (document_of (ty_rec fs)) c.args.depth c.opens_object.new.reader c.take_fields.new.reader ds (rec ds) (omega arith) c.in_ok-take_fields.ensures (λ ms h. ap (option_map rec) h)
    ∙ (search (rules, the_lemmas))

pub take_list-returns : goal.take_list-returns
take_list-returns t c =
    let ty = ty_tree c.args.inner.now in
    let ds = docs_tree c.in_ok-docs.docs in
    ap (read_at (document_of (ty_list ty)) c.args.depth) (c.if-not-opens_array.ensures refl)
    ∙ array_read (item_documents ty) (document_of (ty_list ty)) c.args.depth c.opens_array.new.reader c.take_items.new.reader ds (list_document ds) (omega arith) c.in_ok-docs.ensures (λ is h. ap (option_map list_document) h)
    ∙ ap (λ d. Some (d, c.take_items.new.reader)) (ap (λ n. hold (ListOf (record { count = n })) ds) (sym c.len-count.ensures) ∙ sym (doc_tree-Hold _ c.in_ok-docs.docs))

pub take_keyed-returns : goal.take_keyed-returns
take_keyed-returns t c =
    let ty = ty_tree c.args.inner.now in
    if_some c.keyed.result
    (λ doc e. ap (read_at (document_of (ty_keyed ty)) c.args.depth) (c.if-not-opens_object.ensures refl)
    ∙ object_read (entry_documents ty) (document_of (ty_keyed ty)) c.args.depth c.opens_object.new.reader c.take_entries.new.reader (c.in_ok-names.names.items, docs_tree c.in_ok-names.docs) (doc_tree doc) (omega arith) c.in_ok-names.ensures (λ ms h. keyed_gives ty ms c.in_ok-names.names.items (docs_tree c.in_ok-names.docs) (doc_tree doc) h e))
    c.keyed.ensures

pub take_ordered-returns : goal.take_ordered-returns
take_ordered-returns t c =
    let ty = ty_tree c.args.inner.now in
    if_some c.ordered.result
    (λ doc e. ap (read_at (document_of (ty_ordered ty)) c.args.depth) (c.if-not-opens_object.ensures refl)
    ∙ ordered_read ty c.args.depth c.opens_object.new.reader c.opens_array.new.reader c.take_counts.new.reader c.opens_array-else-not-takes_key-2.new.reader c.take_items.new.reader c.closes_object.new.reader
    c.in_ok-depths.depths.items (docs_tree c.in_ok-docs.docs) (doc_tree doc) (omega arith)
    (c.if-not-takes_key.ensures refl ∙ ap (λ ts. Some (Some (codes "depths"), ts)) (c.if-not-opens_array.ensures refl)) (c.in_ok-depths.ensures (c.args.depth - 2))
    (c.if-not-takes_key-2.ensures refl ∙ ap (λ ts. Some (Some (codes "items"), ts)) (c.if-not-opens_array-2.ensures refl)) c.in_ok-docs.ensures (c.if-not-closes_object.ensures refl) e)
    c.ordered.ensures

pub take_tagged-take_doc-requires : goal.take_tagged-take_doc-requires
take_tagged-take_doc-requires t c =
    let low = lookup_field-height (fields_tree c.args.tags.now) _ _ (sym c.in-Some.ensures) in
    omega (arith, low)

pub take_tagged-returns-in-Ok : goal.take_tagged-returns-in-Ok
take_tagged-returns-in-Ok t c =
    let tags = fields_tree c.args.tags.now in
    ap (read_at (document_of (ty_alt tags)) c.args.depth) (c.if-not-opens_object.ensures refl)
    ∙ tagged_read tags c.args.depth c.in_ok-name.name.now _ c.opens_object.new.reader c.take_key.new.reader c.take_doc.new.reader c.closes_object.new.reader (doc_tree c.in_ok-content.content) (omega arith)
    (sym c.in-Some.ensures) c.in_ok-name.ensures c.in_ok-content.ensures (c.if-not-closes_object.ensures refl)
    ∙ ap (λ n. Some (alt n (doc_tree c.in_ok-content.content), c.closes_object.new.reader)) (sym c.in_ok-tag.ensures)
    ∙ ap (λ d. Some (alt c.in_ok-tag.tag (doc_tree d), c.closes_object.new.reader)) (sym c.in-Ok.ensures.ok) ∙ (search (rules, the_lemmas))
