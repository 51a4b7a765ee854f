use Rattle.std.proofs.Common.{◌≡◌, true, map, option_map, Option, Some, ap, sym, subst, ◌∙◌, arith, drop, bytes_eq, string_bytes}
use Rattle.std.proofs.lemmas.List.{map-append}
use Rattle.std.proofs.lemmas.Result.{err_from_is_err_and}
use Rattle.value_json.proofs.Levels.{refused_with}
use Rattle.serde_json.specs.View.{view, items_view, members_view}
use Rattle.doc_values.specs.Documents.{DocTree, doc_tree, docs_tree}
use Rattle.doc_values.specs.Types.{ty_tree, fields_tree, type_fields_of, field_tree, highest}
use Rattle.value_json.specs.Numbers.{counts_of}
use Rattle.value_json.specs.Reading.{Gives}
use Rattle.value_json.specs.DocumentJson.{item_documents, member_documents, field_documents}
use Rattle.doc_values.proofs.FieldPlaces.{lookup_field-height}
use Rattle.value_json.proofs.ReadLoops.{next_item, items_done, next_entry, entries_done, next_field, fields_done, then_docs}
use Rattle.doc_values.proofs.Heights.{field_height}
use Rattle.value_json.proofs.DocumentOf.{ordered_of, ordered_by, ordered_found, alt_of, tagged_by, tag_none, tag_refused, tag_found}
use Rattle.value_json.proofs.read.+read.Goals as goal

pub read_fields-read-requires : goal.read_fields-read-requires
read_fields-read-requires t c =
    let low = field_height c.as_slice-field-items.result.now c.loop-field.field-index c.field-item.result c.loop-field-test.true c.field-item.is in
    let same = ap highest c.as_slice-field-items.ensures in
    (omega (arith, low, same), tt)

pub read_fields-loop-field-preserved : goal.read_fields-loop-field-preserved
read_fields-loop-field-preserved t c =
    let l = c.loop-field in
    let fields = c.as_slice-field-items.result.now in
    let name = string_bytes c.in-Some.name.now in
    let same : bytes_eq c.field-item.result.0 name ≡ true = ap (bytes_eq c.field-item.result.0) (sym c.as_str.ensures.value) ∙ sym c.is_named.ensures ∙ c.if-not-is_named.false in
    let next = ap (λ es. option_map (then_docs (map doc_tree l.docs.items)) (field_documents (type_fields_of (map field_tree (drop l.field-index fields))) (members_view es))) c.in-Some.ensures.steps in
    rw (c.in_ok-push.ensures.items, map-append)
    (l.invariant ∙ next ∙ next_field fields l.field-index c.field-item.result name (view c.in-Some.content.now) (members_view c.next.new.self) (map doc_tree l.docs.items) _ c.loop-field-test.true c.field-item.is same c.in_ok-read.ensures)

pub read_fields-returns-in_ok-from_vec-in-None : goal.read_fields-returns-in_ok-from_vec-in-None
read_fields-returns-in_ok-from_vec-in-None t c =
    let l = c.loop-field in
    let fields = c.as_slice-field-items.result.now in
    let last = ap (λ es. option_map (then_docs (map doc_tree l.docs.items)) (field_documents (type_fields_of (map field_tree (drop l.field-index fields))) (members_view es))) c.in-None.ensures.steps.0 in
    l.invariant ∙ last ∙ fields_done fields l.field-index (map doc_tree l.docs.items) c.loop-field-test.false ∙ ap Some (sym c.in_ok-from_vec-in-None.ensures)

pub read_items-loop-item-preserved : goal.read_items-loop-item-preserved
read_items-loop-item-preserved t c =
    let l = c.loop-item in
    rw (c.in_ok-push.ensures.items, map-append) (l.invariant ∙ next_item (ty_tree c.args.inner.now) c.args.items.now l.item-index c.item-item.result (map doc_tree l.docs.items) _ c.loop-item-test.true c.item-item.is c.in_ok-read.ensures)

pub read_items-returns : goal.read_items-returns
read_items-returns t c =
    let l = c.loop-item in
    l.invariant ∙ items_done (ty_tree c.args.inner.now) c.args.items.now l.item-index (map doc_tree l.docs.items) c.loop-item-test.false ∙ ap Some (sym c.in_ok-from_vec.ensures)

pub read_members-loop-content-preserved : goal.read_members-loop-content-preserved
read_members-loop-content-preserved t c =
    let l = c.loop-content in
    let inner = ty_tree c.args.inner.now in
    let next = ap (λ es. option_map (then_docs (map doc_tree l.docs.items)) (member_documents inner (members_view es))) c.in-Some.ensures.steps in
    rw (c.in_ok-push.ensures.items, map-append)
    (l.invariant ∙ next ∙ next_entry inner (string_bytes c.in-Some.field-0-0.now) (view c.in-Some.content.now) (members_view c.next.new.self) (map doc_tree l.docs.items) _ c.in_ok-read.ensures)

pub read_members-returns : goal.read_members-returns
read_members-returns t c =
    let l = c.loop-content in
    let inner = ty_tree c.args.inner.now in
    let last = ap (λ es. option_map (then_docs (map doc_tree l.docs.items)) (member_documents inner (members_view es))) c.in-None.ensures.steps.0 in
    l.invariant ∙ last ∙ entries_done inner (map doc_tree l.docs.items) ∙ ap Some (sym c.in_ok-from_vec.ensures)

pub read_ordered-returns : goal.read_ordered-returns
read_ordered-returns t c =
    let inner = ty_tree c.args.inner.now in
    let depths = c.in-Some-2.depths.items in
    let numbers : counts_of (items_view c.in-Some.depths.now.items) ≡ Some depths =
    ap (λ vs. counts_of (items_view vs)) (sym c.deref.ensures.value) ∙ sym c.in_ok-depths.ensures ∙ ap (option_map (λ v. v.items)) c.in-Some-2.is in
    let contents : item_documents inner (items_view c.in-Some.items.now.items) ≡ Some (docs_tree c.in_ok-docs.docs) = ap (λ vs. item_documents inner (items_view vs)) (sym c.deref-2.ensures.value) ∙ c.in_ok-docs.ensures in
    let found = ordered_found inner (items_view c.in-Some.depths.now.items) (items_view c.in-Some.items.now.items) depths (docs_tree c.in_ok-docs.docs) numbers contents in
    subst (λ (r : Option DocTree). Gives doc_tree c.ordered.result r) (sym (ordered_of inner (view c.args.tree.now) ∙ sym (ap (ordered_by inner) c.in-Some.ensures) ∙ found)) c.ordered.ensures

pub read_tagged-returns-in_default-find : goal.read_tagged-returns-in_default-find
read_tagged-returns-in_default-find t c =
    let tags = fields_tree c.args.tags.now in
    alt_of tags (view c.args.tree.now) ∙ sym (ap (tagged_by tags) c.in-Some.ensures)
    ∙ tag_none tags _ _ (sym c.in_default-find.ensures)

pub read_tagged-read-requires : goal.read_tagged-read-requires
read_tagged-read-requires t c =
    let low = lookup_field-height (fields_tree c.args.tags.now) _ _ (sym c.in-Some-find.ensures) in
    (omega (arith, low), tt)

pub read_tagged-returns-in_err-content : goal.read_tagged-returns-in_err-content
read_tagged-returns-in_err-content t c =
    let p = err_from_is_err_and c.from_residual.result c.from_residual.ensures.1 in
    let tags = fields_tree c.args.tags.now in
    rw (p.1, p.2) (refused_with c.in_err-content.field-0.0 _ _
    (λ none. alt_of tags (view c.args.tree.now) ∙ sym (ap (tagged_by tags) c.in-Some.ensures)
    ∙ tag_refused tags _ _ _ (sym c.in-Some-find.ensures) none)
    c.in_err-content.ensures)

pub read_tagged-returns : goal.read_tagged-returns
read_tagged-returns t c =
    let tags = fields_tree c.args.tags.now in
    let found = tag_found tags _ (doc_tree c.in_ok-content.content) _ _ (sym c.in-Some-find.ensures) c.in_ok-content.ensures in
    subst (λ (r : Option DocTree). Gives doc_tree c.tagged.result r) (sym (alt_of tags (view c.args.tree.now) ∙ sym (ap (tagged_by tags) c.in-Some.ensures) ∙ found)) c.tagged.ensures
