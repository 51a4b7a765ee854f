use Rattle.std.proofs.Common.{◌≡◌, ◌<◌, ◌≤◌, true, drop, map, length, option_map, Some, ap, sym, ◌∙◌, arith, rules}
use Rattle.std.specs.Option.{option_flatten}
use Rattle.std.proofs.lemmas.Result.{err_from_is_err_and}
use Rattle.texts.specs.Keys.{is_rising}
use Rattle.hold_shapes.proofs.SharedItems.{item-at}
use Rattle.hold_shapes.specs.declared.shape.Shape.TheVariants.{Keyed as KeyedOf}
use Rattle.file_trees.proofs.Owned.{tree-Array, tree-Object}
use Rattle.doc_values.specs.Documents.{doc_tree, docs_tree, docs_of, doc_list}
use Rattle.doc_values.specs.Typing.{is_list_of}
use Rattle.file_forms.specs.Forms.{file_form_tree, forms_view}
use Rattle.file_forms.specs.FileValues.{write, write_fields, object_slot}
use Rattle.file_values.specs.Writing.{slot_view}
use Rattle.file_values.proofs.WriteLoops.{fields_from, items_from, next_field, fields_done, next_item, items_done, items_are, keys_are, left_keys, key_without, key_refused_at, next_key_at, keys_done_at, refused_with}
use Rattle.file_values.proofs.write.+write.Goals as goal

pub write_object-loop-field-preserved : goal.write_object-loop-field-preserved
write_object-loop-field-preserved t c =
    let l = c.loop-field in
    let fields = c.deref-field-items.result.now in
    let rest = docs_of (map doc_tree c.next.new.self) in
    let left = ap (λ ds. fields_from l.members.items (drop l.field-index fields) (docs_of (map doc_tree ds))) c.in-Some.ensures.steps in
    l.invariant ∙ left
    ∙ next_field fields l.field-index c.field-item.result (doc_tree c.in-Some.content.now) rest l.members.items c.push_member.new.members.items _ (omega arith) c.field-item.is c.in_ok-slot.ensures c.in_ok-push_member.ensures

pub write_object-returns-in-None : goal.write_object-returns-in-None
write_object-returns-in-None t c =
    let l = c.loop-field in
    let fields = c.deref-field-items.result.now in
    let last = ap (λ ds. fields_from l.members.items (drop l.field-index fields) (docs_of (map doc_tree ds))) c.in-None.ensures.steps.0 in
    let all = l.invariant ∙ last ∙ fields_done fields l.field-index l.members.items (omega arith) in
    ap (λ fs. option_map object_slot (write_fields (forms_view fs) (docs_tree c.args.docs.now))) (sym c.deref-field-items.ensures.value)
    ∙ ap (option_map object_slot) all ∙ ap (λ j. Some (Some j)) (sym (tree-Object l.members))

pub write_items-loop-content-preserved : goal.write_items-loop-content-preserved
write_items-loop-content-preserved t c =
    let l = c.loop-content in
    let w = write (file_form_tree c.args.inner.now.value) in
    let rest = docs_of (map doc_tree c.next.new.self) in
    let left = ap (λ ds. items_from w l.items.items (docs_of (map doc_tree ds))) c.in-Some.ensures.steps in
    let same : c.args.inner.now.value ≡ c.deref.result.now = search rules in
    let here = ap (λ f. write (file_form_tree f) (doc_tree c.in-Some.content.now)) same ∙ c.in_ok-tree.ensures ∙ ap (λ s. Some (slot_view s)) c.in-Some-2.is in
    rw c.in_ok-push.ensures.items (l.invariant ∙ left ∙ next_item w (doc_tree c.in-Some.content.now) rest l.items.items c.in-Some-2.tree here)

pub write_items-returns : goal.write_items-returns
write_items-returns t c =
    let l = c.loop-content in
    let f = file_form_tree c.args.inner.now.value in
    let docs = docs_tree c.args.docs.now in
    let last = ap (λ ds. items_from (write f) l.items.items (docs_of (map doc_tree ds))) c.in-None.ensures.steps.0 in
    let all = l.invariant ∙ last ∙ items_done (write f) l.items.items in
    let listed : is_list_of c.args.shape.now (length (doc_list docs)) ≡ true = ap (is_list_of c.args.shape.now) (sym c.len.ensures) ∙ sym c.is_list_of.ensures ∙ c.if-not-is_list_of.false in
    items_are f c.args.shape.now docs _ listed all ∙ ap (λ j. Some (Some j)) (sym (tree-Array l.items))

pub write_map-returns-in_default-next : goal.write_map-returns-in_default-next
write_map-returns-in_default-next t c =
    let l = c.loop-i in
    let f = file_form_tree c.args.inner.now.value in
    let ks = c.names-names.result.now in
    let whole = keys_are f c.args.shape.now ks (docs_tree c.args.docs.now) (c.in-Keyed.is ∙ ap KeyedOf (sym c.names-names.ensures.value)) (ap is_rising c.names-names.ensures.value ∙ c.names-names.ensures.rising) in
    let last = ap (λ ds. left_keys f l.members.items (drop l.i ks) (docs_of (map doc_tree ds))) c.in_default-next.ensures.steps.0 in
    whole ∙ ap (option_map object_slot) (l.invariant ∙ last ∙ key_without f l.members.items ks l.i (omega (arith, c.len-i-end.ensures, c.loop-i-test.true)))

pub write_map-loop-i-preserved : goal.write_map-loop-i-preserved
write_map-loop-i-preserved t c =
    let l = c.loop-i in
    let f = file_form_tree c.args.inner.now.value in
    let ks = c.names-names.result.now in
    let rest = docs_of (map doc_tree c.next.new.self) in
    let left = ap (λ ds. left_keys f l.members.items (drop l.i ks) (docs_of (map doc_tree ds))) c.in-Some.ensures.steps in
    let same : c.args.inner.now.value ≡ c.deref.result.now = search rules in
    let here = ap (λ g. write (file_form_tree g) (doc_tree c.in-Some.content.now)) same ∙ c.in_ok-tree.ensures ∙ ap (λ s. Some (slot_view s)) c.in-Some-2.is in
    let key = c.get.result.now in
    let within : l.i < length ks = omega (arith, c.len-i-end.ensures, c.loop-i-test.true) in
    rw (c.in_ok-push.ensures.items, c.in_ok-twin.ensures) (l.invariant ∙ left ∙ next_key_at f l.members.items ks l.i key (doc_tree c.in-Some.content.now) rest c.in-Some-2.tree within (item-at ks l.i key key c.get.ensures) here)

pub write_map-returns-in-None : goal.write_map-returns-in-None
write_map-returns-in-None t c =
    let l = c.loop-i in
    let f = file_form_tree c.args.inner.now.value in
    let ks = c.names-names.result.now in
    let whole = keys_are f c.args.shape.now ks (docs_tree c.args.docs.now) (c.in-Keyed.is ∙ ap KeyedOf (sym c.names-names.ensures.value)) (ap is_rising c.names-names.ensures.value ∙ c.names-names.ensures.rising) in
    let last = ap (λ ds. left_keys f l.members.items (drop l.i ks) (docs_of (map doc_tree ds))) c.in-None.ensures.steps.0 in
    let past : length ks ≤ l.i = omega (arith, c.len-i-end.ensures, c.loop-i-test.false) in
    whole ∙ ap (option_map object_slot) (l.invariant ∙ last ∙ keys_done_at f l.members.items ks l.i past) ∙ ap (λ j. Some (Some j)) (sym (tree-Object l.members))

pub write_map-returns-in_default-2 : goal.write_map-returns-in_default-2
write_map-returns-in_default-2 t c =
    let l = c.loop-i in
    let f = file_form_tree c.args.inner.now.value in
    let ks = c.names-names.result.now in
    let content = doc_tree c.in-Some.content.now in
    let whole = keys_are f c.args.shape.now ks (docs_tree c.args.docs.now) (c.in-Keyed.is ∙ ap KeyedOf (sym c.names-names.ensures.value)) (ap is_rising c.names-names.ensures.value ∙ c.names-names.ensures.rising) in
    let left = ap (λ ds. left_keys f l.members.items (drop l.i ks) (docs_of (map doc_tree ds))) c.in-Some.ensures.steps in
    let same : c.args.inner.now.value ≡ c.deref.result.now = search rules in
    let none = ap option_flatten (ap (λ g. write (file_form_tree g) content) same ∙ c.in_ok-tree.ensures) ∙ ap slot_view c.in_default-2.is in
    let within : l.i < length ks = omega (arith, c.len-i-end.ensures, c.loop-i-test.true) in
    whole ∙ ap (option_map object_slot) (l.invariant ∙ left ∙ key_refused_at f l.members.items ks l.i content (docs_of (map doc_tree c.next.new.self)) within none)

pub write_map-returns-in_err-tree : goal.write_map-returns-in_err-tree
write_map-returns-in_err-tree t c =
    let l = c.loop-i in
    let f = file_form_tree c.args.inner.now.value in
    let ks = c.names-names.result.now in
    let content = doc_tree c.in-Some.content.now in
    let whole = keys_are f c.args.shape.now ks (docs_tree c.args.docs.now) (c.in-Keyed.is ∙ ap KeyedOf (sym c.names-names.ensures.value)) (ap is_rising c.names-names.ensures.value ∙ c.names-names.ensures.rising) in
    let left = ap (λ ds. left_keys f l.members.items (drop l.i ks) (docs_of (map doc_tree ds))) c.in-Some.ensures.steps in
    let same : c.args.inner.now.value ≡ c.deref.result.now = search rules in
    let within : l.i < length ks = omega (arith, c.len-i-end.ensures, c.loop-i-test.true) in
    let p = err_from_is_err_and c.from_residual-in_err-tree.result c.from_residual-in_err-tree.ensures.1 in
    rw (p.1, p.2) (refused_with c.in_err-tree.field-0.0 (write (file_form_tree c.deref.result.now) content) _
    (λ none. whole ∙ ap (option_map object_slot) (l.invariant ∙ left
    ∙ key_refused_at f l.members.items ks l.i content (docs_of (map doc_tree c.next.new.self)) within (ap option_flatten (ap (λ g. write (file_form_tree g) content) same ∙ none))))
    c.in_err-tree.ensures)
