use Rattle.std.proofs.Common.{◌≡◌, ℕ, Bool, List, [], ◌+◌, ◌<◌, ◌≤◌, get_or, refl, subst, map, take, drop, length, ap, sym, ◌∙◌, arith}
use Rattle.hold_shapes.specs.declared.edit.Place.TheVariants.{Index, Node}
use Rattle.hold_shapes.specs.declared.edit.ShapeEdit.TheVariants.{Graft}
use Rattle.hold_shapes.proofs.SharedItems.{item-at}
use Rattle.hold_shapes.proofs.ValidDepths.{GoesOn, valid-some}
use Rattle.texts.specs.Keys.{key_rank}
use Rattle.texts.proofs.Tests.{bytes_eq-is}
use Rattle.doc_values.specs.declared.doc.Doc.{Doc}
use Rattle.doc_values.specs.Documents.{DocTree, rec, alt, DocTrees, doc_tree, docs_tree, doc_list}
use Rattle.doc_values.specs.Types.{FieldTrees, ty_tree, fields_tree, ty_rec, ty_alt, names_of, highest}
use Rattle.doc_values.specs.Typing.{has, has_fields, lookup_field}
use Rattle.doc_values.proofs.FieldPlaces.{lookup_field-height}
use Rattle.doc_values.proofs.Heights.{field_height}
use Rattle.doc_values.proofs.Lists.{docs_of-doc_list}
use Rattle.doc_values.proofs.TagContents.{content_typed}
use Rattle.edit_module.specs.Words.{WordTree, word_of, joined, at, modify}
use Rattle.edit_module.specs.Views.{primitive_tree, word_tree}
use Rattle.edit_module.proofs.JoinedWords.{joined_nothing}
use Rattle.edit_inverse.specs.Construct.{construct_each, unless_empty, reshape, modify_each, at_each, graft_each, grow}
use Rattle.edit_inverse.specs.Paths.{parent_path, next_path, paths, paths_after}
use Rattle.edit_inverse.proofs.Building.{fields_of, same_many, field_typed, fields-done, each_typed, goes-first, goes-next}
use Rattle.edit_inverse.proofs.Building as anew
use Rattle.edit_between.specs.Between.{between, between_fields, between_items, between_keys, modify_nodes, with_root, drop_keys, is_first}
use Rattle.edit_between.specs.Steps.{key_word}
use Rattle.edit_between.proofs.BetweenLoops.{item-modified, items-done, field-next, keys_left, key-next, keys-done, node-next, nodes-done, root-first, root-anew, there-within, rank-within, place-behind}
use Rattle.edit_between.proofs.DocParts.{rec-is, alt-is, has-as}
use Rattle.edit_between.proofs.building.+build.Goals as goal

-- ---- records

pub of_record-get-requires : goal.of_record-get-requires
of_record-get-requires t c =
    let fields = c.as_slice-field-items.result.now in
    let ds = docs_tree c.args.olds.now in
    let typed = ap (λ (fs : FieldTrees). has_fields fs ds) c.as_slice-field-items.ensures ∙ c.requires.from in
    omega (arith, same_many fields ds typed, c.loop-i-test.true)

pub of_record-get-requires-in-loop-i : goal.of_record-get-requires-in-loop-i
of_record-get-requires-in-loop-i t c =
    let fields = c.as_slice-field-items.result.now in
    let es = docs_tree c.in-Rec.news in
    let new = has-as (ty_rec (fields_tree c.args.fields.now)) (doc_tree c.args.to.now) (rec es) (rec-is c.args.to.now c.in-Rec.news c.in-Rec.is) c.requires.to in
    let typed = ap (λ (fs : FieldTrees). has_fields fs es) c.as_slice-field-items.ensures ∙ new in
    omega (arith, same_many fields es typed, c.loop-i-test.true)

pub of_record-build-requires : goal.of_record-build-requires
of_record-build-requires t c =
    let fields = c.as_slice-field-items.result.now in
    let ds = docs_tree c.args.olds.now in
    let es = docs_tree c.in-Rec.news in
    let low = field_height fields c.loop-i.i c.field-item.result c.loop-i-test.true c.field-item.is in
    let same = ap highest c.as_slice-field-items.ensures in
    let old = ap (λ (fs : FieldTrees). has_fields fs ds) c.as_slice-field-items.ensures ∙ c.requires.from in
    let to = has-as (ty_rec (fields_tree c.args.fields.now)) (doc_tree c.args.to.now) (rec es) (rec-is c.args.to.now c.in-Rec.news c.in-Rec.is) c.requires.to in
    let new = ap (λ (fs : FieldTrees). has_fields fs es) c.as_slice-field-items.ensures ∙ to in (
      omega (arith, low, same),
      (
        field_typed fields ds c.loop-i.i c.field-item.result (doc_tree c.get.result.now) c.loop-i-test.true c.field-item.is c.get.ensures old,
        field_typed fields es c.loop-i.i c.field-item.result (doc_tree c.get-in-loop-i.result.now) c.loop-i-test.true c.field-item.is c.get-in-loop-i.ensures new,
      ),
    )

pub of_record-loop-i-preserved : goal.of_record-loop-i-preserved
of_record-loop-i-preserved t c =
    let l = c.loop-i in
    let fields = c.as_slice-field-items.result.now in
    let f = c.field-item.result in
    let ds = docs_tree c.args.olds.now in
    let es = docs_tree c.in-Rec.news in
    let d = doc_tree c.get.result.now in
    let e = doc_tree c.get-in-loop-i.result.now in
    let old = ap (λ (fs : FieldTrees). has_fields fs ds) c.as_slice-field-items.ensures ∙ c.requires.from in
    let to = has-as (ty_rec (fields_tree c.args.fields.now)) (doc_tree c.args.to.now) (rec es) (rec-is c.args.to.now c.in-Rec.news c.in-Rec.is) c.requires.to in
    let new = ap (λ (fs : FieldTrees). has_fields fs es) c.as_slice-field-items.ensures ∙ to in
    let within : l.i < length (doc_list ds) = omega (arith, same_many fields ds old, c.loop-i-test.true) in
    let inside : l.i < length (doc_list es) = omega (arith, same_many fields es new, c.loop-i-test.true) in
    let rest = at_each (drop (l.i + 1) (names_of (fields_of fields))) (drop (l.i + 1) (between_fields (fields_of fields) ds es)) in
    let before = joined (word_of (map primitive_tree l.out.items)) in
    c.in_ok-push_at.ensures rest
    ∙ (ap (λ (w : WordTree). before (unless_empty (at f.0) w rest)) c.in_ok-word.ensures
    ∙ (ap before (sym (field-next fields ds es l.i f d e c.loop-i-test.true within inside c.field-item.is c.get.ensures c.get-in-loop-i.ensures)) ∙ l.invariant))

pub of_record-returns : goal.of_record-returns
of_record-returns t c =
    let l = c.loop-i in
    let fields = c.as_slice-field-items.result.now in
    let ds = docs_tree c.args.olds.now in
    let es = docs_tree c.in-Rec.news in
    let word = word_of (map primitive_tree l.out.items) in
    let to = rec-is c.args.to.now c.in-Rec.news c.in-Rec.is in
    c.from_vec.ensures
    ∙ (sym (joined_nothing word)
    ∙ (ap (joined word) (sym (fields-done fields (drop l.i (between_fields (fields_of fields) ds es)) l.i c.loop-i-test.false))
    ∙ (l.invariant
    ∙ (ap (λ (fs : FieldTrees). at_each (names_of fs) (between_fields fs ds es)) c.as_slice-field-items.ensures
    ∙ ap (λ (x : DocTree). between (ty_rec (fields_tree c.args.fields.now)) (rec ds) x) (sym to)))))

-- ---- tags

pub of_tag-build-requires : goal.of_tag-build-requires
of_tag-build-requires t c =
    let tags = fields_tree c.args.tags.now in
    let tag = c.args.tag.now in
    let other = c.in-Alt.other in
    let there = sym (rw c.as_str.ensures at c.in-Some.ensures) in
    let low = lookup_field-height tags other _ there in
    let same : tag ≡ other = bytes_eq-is tag other (sym c.is_same.ensures.test ∙ c.if-is_same.true) in
    let to = has-as (ty_alt tags) (doc_tree c.args.to.now) (alt other (doc_tree c.in-Alt.new.value)) (alt-is c.args.to.now other c.in-Alt.new c.in-Alt.is) c.requires.to in
    let new = content_typed tags other (doc_tree c.in-Alt.new.value) _ to there in
    let ty = ty_tree c.in-Some.ty.now in (
      omega (arith, low),
      (
        content_typed tags tag (doc_tree c.args.content.now) _ c.requires.from (ap (λ (n : List ℕ). lookup_field tags n) same ∙ there),
        ap (λ (d : Doc). has ty (doc_tree d)) c.deref.ensures ∙ new,
      ),
    )

-- ---- items

pub with_items-of_item-requires : goal.with_items-of_item-requires
with_items-of_item-requires t c =
    let within : c.loop-i.i < length (doc_list (docs_tree c.args.news.now)) = omega (arith, c.len-i-end.ensures, c.loop-i-test.true) in
    (omega arith, (c.requires.from, each_typed (ty_tree c.args.inner.now) (docs_tree c.args.news.now) c.loop-i.i (doc_tree c.get.result.now) within c.get.ensures c.requires.to))

pub with_items-loop-i-preserved : goal.with_items-loop-i-preserved
with_items-loop-i-preserved t c =
    let l = c.loop-i in
    let ds = docs_tree c.args.olds.now in
    let es = docs_tree c.args.news.now in
    let ty = ty_tree c.args.inner.now in
    let e = doc_tree c.get.result.now in
    let within : l.i < length (doc_list es) = omega (arith, c.len-i-end.ensures, c.loop-i-test.true) in
    let rest = modify_each (l.i + 1) (drop (l.i + 1) (between_items ty ds es)) in
    let before = joined (word_of (map primitive_tree l.out.items)) in
    c.in_ok-push_modify.ensures rest
    ∙ (ap (λ (w : WordTree). before (unless_empty (modify (Index l.i)) w rest)) c.in_ok-word.ensures
    ∙ (ap before (sym (item-modified ty ds es l.i e within c.get.ensures)) ∙ l.invariant))

pub with_items-returns : goal.with_items-returns
with_items-returns t c =
    let l = c.loop-i in
    let ds = docs_tree c.args.olds.now in
    let es = docs_tree c.args.news.now in
    let past : length (doc_list es) ≤ l.i = omega (arith, c.len-i-end.ensures, c.loop-i-test.false) in
    let word = word_of (map primitive_tree l.out.items) in
    c.from_vec.ensures ∙ (sym (joined_nothing word) ∙ (ap (joined word) (sym (items-done (ty_tree c.args.inner.now) ds es l.i past)) ∙ l.invariant))

pub of_item-build-requires : goal.of_item-build-requires
of_item-build-requires t c =
    let within : c.args.place < length (doc_list (docs_tree c.args.olds.now)) = omega (arith, c.len.ensures, c.if-place-len.true) in
    (omega arith, (each_typed (ty_tree c.args.inner.now) (docs_tree c.args.olds.now) c.args.place (doc_tree c.get.result.now) within c.get.ensures c.requires.from, c.requires.to))

-- ---- keys

pub with_keys-loop-i-init : goal.with_keys-loop-i-init
with_keys-loop-i-init t c =
    let es = docs_tree c.args.news.now in
    record {
      left = rw c.new-out.ensures.items (ap (λ (x : DocTrees). between_keys (ty_tree c.args.inner.now) c.args.old_keys.now (doc_list (docs_tree c.args.olds.now)) c.args.keys.now x) (docs_of-doc_list es));
      within = omega arith;
    }

pub with_keys-push_entry-requires : goal.with_keys-push_entry-requires
with_keys-push_entry-requires t c =
    let ty = ty_tree c.args.inner.now in
    let es = docs_tree c.args.news.now in
    let within : c.loop-i.i < length (doc_list es) = omega (arith, c.len-i-end.ensures, c.loop-i-test.true) in (
      omega arith,
      (
        c.requires.from,
        (
          each_typed ty es c.loop-i.i (doc_tree c.get.result.now) within c.get.ensures c.requires.to,
          λ h. let p = there-within c.get-key.result.now c.args.old_keys.now c.in_ok-at.at (sym c.is_first-is_there.ensures ∙ h) in omega (arith, p, c.requires.old_many),
        ),
      ),
    )

pub with_keys-loop-i-preserved : goal.with_keys-loop-i-preserved
with_keys-loop-i-preserved t c =
    let l = c.loop-i in
    let ty = ty_tree c.args.inner.now in
    let ks = c.args.old_keys.now in
    let ls = c.args.keys.now in
    let ds = doc_list (docs_tree c.args.olds.now) in
    let es = doc_list (docs_tree c.args.news.now) in
    let key = c.get-key.result.now in
    let e = doc_tree c.get.result.now in
    let p = c.in_ok-at.at in
    let n = key_rank key (drop l.at ks) in
    let q = c.in_ok-at-2.at in
    let behind : p ≡ l.at + n = c.in_ok-at.ensures.behind in
    let within : l.i < length es = omega (arith, c.len-i-end.ensures, c.loop-i-test.true) in
    let inside : l.i < length ls = omega (arith, within, c.requires.many) in
    let rest : ℕ → WordTree = λ j. keys_left ty ks ds ls es (l.i + 1) j in
    let start = joined (word_of (map primitive_tree l.out.items)) in
    let middle = joined (word_of (map primitive_tree c.drop_before.new.out.items)) in
    let there = c.is_first-is_there.result in
    let step = key-next ty ks ds ls es l.i l.at n key e inside within (item-at ls l.i key key c.get-key.ensures) c.get.ensures refl in
    let K : ℕ → Bool → WordTree = λ j b. key_word b ty ds key j e rest in
    let low = rank-within key ks l.at l.invariant.within in
    let left = c.in_ok-at-2.ensures.word rest
    ∙ (ap (λ (b : Bool). middle (K p b)) c.is_first-is_there.ensures
    ∙ (c.in_ok-at.ensures.dropped (K p (is_first key (drop p ks)))
    ∙ (ap (λ (j : ℕ). start (drop_keys (take n (drop l.at ks)) (K j (is_first key (drop j ks))))) behind
    ∙ (ap start (sym step) ∙ l.invariant.left)))) in
    record { left = left; within = place-behind ks key p q there c.is_first-is_there.ensures (omega (arith, behind, low)) c.in_ok-at-2.ensures.place }

pub with_keys-returns : goal.with_keys-returns
with_keys-returns t c =
    let l = c.loop-i in
    let ty = ty_tree c.args.inner.now in
    let ks = c.args.old_keys.now in
    let ls = c.args.keys.now in
    let ds = doc_list (docs_tree c.args.olds.now) in
    let es = doc_list (docs_tree c.args.news.now) in
    let past : length es ≤ l.i = omega (arith, c.len-i-end.ensures, c.loop-i-test.false) in
    let out = word_of (map primitive_tree c.drop_rest.new.out.items) in
    c.from_vec.ensures
    ∙ (sym (joined_nothing out)
    ∙ (c.in_ok-drop_rest.ensures _
    ∙ (ap (joined (word_of (map primitive_tree l.out.items))) (sym (keys-done ty ks ds ls es l.i l.at past)) ∙ l.invariant.left)))

pub push_entry-build-requires : goal.push_entry-build-requires
push_entry-build-requires t c =
    let ds = docs_tree c.args.olds.now in
    let within : c.args.at < length (doc_list ds) = let w = c.requires.there c.if-is_there.true in omega (arith, w) in
    (omega arith, (each_typed (ty_tree c.args.inner.now) ds c.args.at (doc_tree c.get.result.now) within c.get.ensures c.requires.from, c.requires.to))

-- ---- trees

pub with_nodes-loop-i-init : goal.with_nodes-loop-i-init
with_nodes-loop-i-init t c =
    let ds = docs_tree c.args.olds.now in
    let cs = docs_tree c.args.news.now in
    let es = c.args.depths.now in
    let ty = ty_tree c.args.inner.now in
    let ws = between_items ty ds cs in
    let some = valid-some es c.requires.valid in
    let rest = modify_nodes (paths_after [] (drop 1 es)) (drop 1 ws) in
    let P : List ℕ → Type 0 = λ q. joined (word_of (map primitive_tree c.push_node_content.new.out.items)) (modify_nodes (paths_after q (drop 1 es)) (drop 1 ws)) ≡ modify_nodes (paths es) ws in
    let before = joined (word_of (map primitive_tree c.new-out.result.items)) in
    let none : before (modify_nodes (paths es) ws) ≡ modify_nodes (paths es) ws = rw c.new-out.ensures.items refl in
    let path : c.as_slice.result.now ≡ [] = c.as_slice.ensures.value ∙ c.new-path.ensures.items in
    let there = c.in_ok-push_node_content.ensures rest
    ∙ (ap (λ (q : List ℕ). before (unless_empty (modify (Node q)) (word_tree c.in_ok-root.root) rest)) path
    ∙ (ap (λ (w : WordTree). before (unless_empty (modify (Node [])) w rest)) c.in_ok-root.ensures
    ∙ (ap before (sym (root-first ty es ds cs (doc_tree c.get.result.now) some (omega (arith, some, c.requires.many)) c.get.ensures)) ∙ none))) in
    let empty = c.new-path.ensures.items in
    let G : List ℕ → Type 0 = λ q. GoesOn (length q) (drop 1 es) in
    let L : List ℕ → Type 0 = λ q. (k : ℕ) → get_or q k 0 < 1 in
    record {
      left = subst P (sym empty) there;
      goes = subst G (sym empty) (goes-first es c.requires.valid);
      low = subst L (sym empty) (λ k. omega arith);
    }

pub with_nodes-of_item-requires-in-loop-i : goal.with_nodes-of_item-requires-in-loop-i
with_nodes-of_item-requires-in-loop-i t c =
    let cs = docs_tree c.args.news.now in
    let within : c.loop-i.i < length (doc_list cs) = omega (arith, c.len-i-end.ensures, c.loop-i-test.true) in
    (omega arith, (c.requires.from, each_typed (ty_tree c.args.inner.now) cs c.loop-i.i (doc_tree c.get-in-loop-i.result.now) within c.get-in-loop-i.ensures c.requires.to))

pub with_nodes-next_path-requires-clause-some : goal.with_nodes-next_path-requires-clause-some
with_nodes-next_path-requires-clause-some t c =
    let d = c.get-in-loop-i-2.result.now in
    let there : c.loop-i.i < length c.args.depths.now = omega (arith, c.requires.many, c.len-i-end.ensures, c.loop-i-test.true) in
    (goes-next c.loop-i.path.items c.args.depths.now c.loop-i.i d there (item-at c.args.depths.now c.loop-i.i d d c.get-in-loop-i-2.ensures) c.loop-i.invariant.goes).0

pub with_nodes-next_path-requires-clause-most : goal.with_nodes-next_path-requires-clause-most
with_nodes-next_path-requires-clause-most t c =
    let d = c.get-in-loop-i-2.result.now in
    let there : c.loop-i.i < length c.args.depths.now = omega (arith, c.requires.many, c.len-i-end.ensures, c.loop-i-test.true) in
    (goes-next c.loop-i.path.items c.args.depths.now c.loop-i.i d there (item-at c.args.depths.now c.loop-i.i d d c.get-in-loop-i-2.ensures) c.loop-i.invariant.goes).1

pub with_nodes-loop-i-preserved : goal.with_nodes-loop-i-preserved
with_nodes-loop-i-preserved t c =
    let l = c.loop-i in
    let ds = docs_tree c.args.olds.now in
    let cs = docs_tree c.args.news.now in
    let es = c.args.depths.now in
    let ty = ty_tree c.args.inner.now in
    let ws = between_items ty ds cs in
    let d = c.get-in-loop-i-2.result.now in
    let v = doc_tree c.get-in-loop-i.result.now in
    let within : l.i < length (doc_list cs) = omega (arith, c.len-i-end.ensures, c.loop-i-test.true) in
    let there : l.i < length es = omega (arith, c.requires.many, within) in
    let is = item-at es l.i d d c.get-in-loop-i-2.ensures in
    let next = goes-next l.path.items es l.i d there is l.invariant.goes in
    let q = next_path l.path.items d in
    let path : c.in_ok-path.path.items ≡ q = c.in_ok-path.ensures.0 in
    let shown : c.as_slice-in-loop-i.result.now ≡ q = c.as_slice-in-loop-i.ensures.value ∙ path in
    let rest = modify_nodes (paths_after q (drop (l.i + 1) es)) (drop (l.i + 1) ws) in
    let before = joined (word_of (map primitive_tree l.out.items)) in
    let left = c.in_ok-push_node_content-2.ensures rest
    ∙ (ap (λ (p : List ℕ). before (unless_empty (modify (Node p)) (word_tree c.in_ok-word.word) rest)) shown
    ∙ (ap (λ (w : WordTree). before (unless_empty (modify (Node q)) w rest)) c.in_ok-word.ensures
    ∙ (ap before (sym (node-next ty l.path.items es ds cs l.i d v there within is c.get-in-loop-i.ensures)) ∙ l.invariant.left))) in
    let P : List ℕ → Type 0 = λ p. joined (word_of (map primitive_tree c.push_node_content-in-loop-i.new.out.items)) (modify_nodes (paths_after p (drop (l.i + 1) es)) (drop (l.i + 1) ws)) ≡ modify_nodes (paths es) ws in
    let G : List ℕ → Type 0 = λ p. GoesOn (length p) (drop (l.i + 1) es) in
    record {
      left = subst P (sym path) left;
      goes = subst G (sym path) next.2;
      low = c.in_ok-path.ensures.1;
    }

pub with_nodes-returns : goal.with_nodes-returns
with_nodes-returns t c =
    let l = c.loop-i in
    let es = c.args.depths.now in
    let past : length es ≤ l.i = omega (arith, c.requires.many, c.len-i-end.ensures, c.loop-i-test.false) in
    let word = word_of (map primitive_tree l.out.items) in
    c.from_vec.ensures
    ∙ (sym (joined_nothing word) ∙ (ap (joined word) (sym (nodes-done l.path.items es (drop l.i (between_items (ty_tree c.args.inner.now) (docs_tree c.args.olds.now) (docs_tree c.args.news.now))) l.i past)) ∙ l.invariant.left))

pub with_new_nodes-loop-i-init : goal.with_new_nodes-loop-i-init
with_new_nodes-loop-i-init t c =
    let ds = docs_tree c.args.olds.now in
    let cs = docs_tree c.args.news.now in
    let es = c.args.depths.now in
    let ty = ty_tree c.args.inner.now in
    let us = construct_each ty cs in
    let whole = grow (paths es) (with_root (between_items ty ds cs) us) in
    let some = valid-some es c.requires.valid in
    let rest = graft_each (paths_after [] (drop 1 es)) (drop 1 us) in
    let before = joined (word_of (map primitive_tree c.args.before.items)) in
    let P : List ℕ → Type 0 = λ q. joined (word_of (map primitive_tree c.push_node_content.new.out.items)) (graft_each (paths_after q (drop 1 es)) (drop 1 us)) ≡ before whole in
    let path : c.as_slice.result.now ≡ [] = c.as_slice.ensures.value ∙ c.new-path.ensures.items in
    let there = c.in_ok-push_node_content.ensures rest
    ∙ (ap (λ (q : List ℕ). before (unless_empty (modify (Node q)) (word_tree c.in_ok-root.root) rest)) path
    ∙ (ap (λ (w : WordTree). before (unless_empty (modify (Node [])) w rest)) c.in_ok-root.ensures
    ∙ ap before (sym (root-anew ty es ds cs (doc_tree c.get.result.now) some (omega (arith, some, c.requires.many)) c.get.ensures)))) in
    let empty = c.new-path.ensures.items in
    let G : List ℕ → Type 0 = λ q. GoesOn (length q) (drop 1 es) in
    let L : List ℕ → Type 0 = λ q. (k : ℕ) → get_or q k 0 < 1 in
    record {
      left = subst P (sym empty) there;
      goes = subst G (sym empty) (goes-first es c.requires.valid);
      low = subst L (sym empty) (λ k. omega arith);
    }

pub with_new_nodes-construct-requires : goal.with_new_nodes-construct-requires
with_new_nodes-construct-requires t c =
    let cs = docs_tree c.args.news.now in
    let within : c.loop-i.i < length (doc_list cs) = omega (arith, c.len-i-end.ensures, c.loop-i-test.true) in
    each_typed (ty_tree c.args.inner.now) cs c.loop-i.i (doc_tree c.get-in-loop-i.result.now) within c.get-in-loop-i.ensures c.requires.to

pub with_new_nodes-next_path-requires-clause-some : goal.with_new_nodes-next_path-requires-clause-some
with_new_nodes-next_path-requires-clause-some t c =
    let d = c.get-in-loop-i-2.result.now in
    let there : c.loop-i.i < length c.args.depths.now = omega (arith, c.requires.many, c.len-i-end.ensures, c.loop-i-test.true) in
    (goes-next c.loop-i.path.items c.args.depths.now c.loop-i.i d there (item-at c.args.depths.now c.loop-i.i d d c.get-in-loop-i-2.ensures) c.loop-i.invariant.goes).0

pub with_new_nodes-next_path-requires-clause-most : goal.with_new_nodes-next_path-requires-clause-most
with_new_nodes-next_path-requires-clause-most t c =
    let d = c.get-in-loop-i-2.result.now in
    let there : c.loop-i.i < length c.args.depths.now = omega (arith, c.requires.many, c.len-i-end.ensures, c.loop-i-test.true) in
    (goes-next c.loop-i.path.items c.args.depths.now c.loop-i.i d there (item-at c.args.depths.now c.loop-i.i d d c.get-in-loop-i-2.ensures) c.loop-i.invariant.goes).1

pub with_new_nodes-loop-i-preserved : goal.with_new_nodes-loop-i-preserved
with_new_nodes-loop-i-preserved t c =
    let l = c.loop-i in
    let ds = docs_tree c.args.olds.now in
    let cs = docs_tree c.args.news.now in
    let es = c.args.depths.now in
    let ty = ty_tree c.args.inner.now in
    let us = construct_each ty cs in
    let whole = joined (word_of (map primitive_tree c.args.before.items)) (grow (paths es) (with_root (between_items ty ds cs) us)) in
    let d = c.get-in-loop-i-2.result.now in
    let v = doc_tree c.get-in-loop-i.result.now in
    let within : l.i < length (doc_list cs) = omega (arith, c.len-i-end.ensures, c.loop-i-test.true) in
    let there : l.i < length es = omega (arith, c.requires.many, within) in
    let is = item-at es l.i d d c.get-in-loop-i-2.ensures in
    let next = goes-next l.path.items es l.i d there is l.invariant.goes in
    let q = next_path l.path.items d in
    let path : c.in_ok-path.path.items ≡ q = c.in_ok-path.ensures.0 in
    let shown : c.as_slice-in-loop-i.result.now ≡ q = c.as_slice-in-loop-i.ensures.value ∙ path in
    let rest = graft_each (paths_after q (drop (l.i + 1) es)) (drop (l.i + 1) us) in
    let before = joined (word_of (map primitive_tree l.out.items)) in
    let left = c.in_ok-push_node.ensures rest
    ∙ (ap (λ (p : List ℕ). before (reshape (Graft (parent_path p)) (unless_empty (modify (Node p)) (word_tree c.in_ok-word.word) rest))) shown
    ∙ (ap (λ (w : WordTree). before (reshape (Graft (parent_path q)) (unless_empty (modify (Node q)) w rest))) c.in_ok-word.ensures.exact
    ∙ (ap before (sym (anew.node-next ty l.path.items es cs l.i d v there within is c.get-in-loop-i.ensures)) ∙ l.invariant.left))) in
    let P : List ℕ → Type 0 = λ p. joined (word_of (map primitive_tree c.push_node.new.out.items)) (graft_each (paths_after p (drop (l.i + 1) es)) (drop (l.i + 1) us)) ≡ whole in
    let G : List ℕ → Type 0 = λ p. GoesOn (length p) (drop (l.i + 1) es) in
    record {
      left = subst P (sym path) left;
      goes = subst G (sym path) next.2;
      low = c.in_ok-path.ensures.1;
    }

pub with_new_nodes-returns : goal.with_new_nodes-returns
with_new_nodes-returns t c =
    let l = c.loop-i in
    let es = c.args.depths.now in
    let past : length es ≤ l.i = omega (arith, c.requires.many, c.len-i-end.ensures, c.loop-i-test.false) in
    let word = word_of (map primitive_tree l.out.items) in
    c.from_vec.ensures
    ∙ (sym (joined_nothing word) ∙ (ap (joined word) (sym (anew.nodes-done l.path.items es (drop l.i (construct_each (ty_tree c.args.inner.now) (docs_tree c.args.news.now))) l.i past)) ∙ l.invariant.left))
