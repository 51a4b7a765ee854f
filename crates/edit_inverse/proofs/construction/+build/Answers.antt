use Rattle.std.proofs.Common.{◌≡◌, ℕ, List, [], ◌+◌, ◌<◌, ◌≤◌, get_or, refl, subst, map, drop, length, ap, sym, ◌∙◌, arith}
use Rattle.hold_shapes.specs.declared.edit.Place.TheVariants.{Index}
use Rattle.doc_values.specs.Documents.{doc_tree, docs_tree, doc_list}
use Rattle.doc_values.specs.Types.{FieldTrees, ty_tree, fields_tree, names_of, highest}
use Rattle.doc_values.specs.Typing.{has_fields}
use Rattle.doc_values.proofs.FieldPlaces.{lookup_field-height}
use Rattle.hold_shapes.proofs.SharedItems.{item-at}
use Rattle.hold_shapes.specs.declared.edit.Place.TheVariants.{Key, Node}
use Rattle.hold_shapes.specs.declared.edit.ShapeEdit.TheVariants.{PutKey, Graft}
use Rattle.doc_values.proofs.Heights.{field_height}
use Rattle.edit_module.specs.Words.{WordTree, word_of, joined, at, modify}
use Rattle.edit_module.specs.Views.{primitive_tree, word_tree}
use Rattle.edit_inverse.specs.Construct.{construct_each, construct_fields, unless_empty, reshape, modify_each, at_each, put_each, graft_each, grow}
use Rattle.hold_shapes.proofs.ValidDepths.{GoesOn, valid-some}
use Rattle.edit_inverse.specs.Paths.{parent_path, next_path, paths, paths_after}
use Rattle.edit_inverse.proofs.Building.{fields_of, same_many, field_typed, field-next, fields-done, each_typed, item-modified, items-done, key-next, keys-done, root-first, goes-first, goes-next, node-next, nodes-done}
use Rattle.edit_inverse.proofs.construction.+build.Goals as goal
use Rattle.edit_module.proofs.JoinedWords.{joined_nothing}
use Rattle.doc_values.proofs.TagContents.{content_typed}

-- ---- records

pub of_record-get-requires : goal.of_record-get-requires
of_record-get-requires t c =
    let fields = c.as_slice-field-items.result.now in
    let ds = docs_tree c.args.docs.now in
    let typed = ap (λ (fs : FieldTrees). has_fields fs ds) c.as_slice-field-items.ensures ∙ c.requires in
    omega (arith, same_many fields ds typed, c.loop-i-test.true)

pub of_record-build-requires : goal.of_record-build-requires
of_record-build-requires t c =
    let fields = c.as_slice-field-items.result.now in
    let ds = docs_tree c.args.docs.now in
    let low = field_height fields c.loop-i.i c.field-item.result c.loop-i-test.true c.field-item.is in
    let same = ap highest c.as_slice-field-items.ensures in
    let typed = ap (λ (fs : FieldTrees). has_fields fs ds) c.as_slice-field-items.ensures ∙ c.requires in
    (omega (arith, low, same), field_typed fields ds c.loop-i.i c.field-item.result (doc_tree c.get.result.now) c.loop-i-test.true c.field-item.is c.get.ensures typed)

pub of_record-loop-i-preserved : goal.of_record-loop-i-preserved
of_record-loop-i-preserved t c =
    let l = c.loop-i in
    let fields = c.as_slice-field-items.result.now in
    let f = c.field-item.result in
    let ds = docs_tree c.args.docs.now in
    let d = doc_tree c.get.result.now in
    let typed = ap (λ (fs : FieldTrees). has_fields fs ds) c.as_slice-field-items.ensures ∙ c.requires in
    let within : l.i < length (doc_list ds) = omega (arith, same_many fields ds typed, c.loop-i-test.true) in
    let rest = at_each (drop (l.i + 1) (names_of (fields_of fields))) (drop (l.i + 1) (construct_fields (fields_of fields) ds)) in
    let before = joined (word_of (map primitive_tree l.out.items)) in
    c.in_ok-push_at.ensures rest
    ∙ (ap (λ (w : WordTree). before (unless_empty (at f.0) w rest)) c.in_ok-word.ensures
    ∙ (ap before (sym (field-next fields ds l.i f d c.loop-i-test.true within c.field-item.is c.get.ensures)) ∙ l.invariant))

pub of_record-returns : goal.of_record-returns
of_record-returns t c =
    let l = c.loop-i in
    let fields = c.as_slice-field-items.result.now in
    let ds = docs_tree c.args.docs.now in
    let word = word_of (map primitive_tree l.out.items) in
    c.from_vec.ensures
    ∙ (sym (joined_nothing word)
    ∙ (ap (joined word) (sym (fields-done fields (drop l.i (construct_fields (fields_of fields) ds)) l.i c.loop-i-test.false))
    ∙ (l.invariant ∙ ap (λ (fs : FieldTrees). at_each (names_of fs) (construct_fields fs ds)) c.as_slice-field-items.ensures)))

-- ---- items

pub with_items-build-requires : goal.with_items-build-requires
with_items-build-requires t c =
    let ds = docs_tree c.args.docs.now in
    let within : c.loop-i.i < length (doc_list ds) = omega (arith, c.len-i-end.ensures, c.loop-i-test.true) in
    (omega arith, each_typed (ty_tree c.args.inner.now) ds c.loop-i.i (doc_tree c.get.result.now) within c.get.ensures c.requires.typed)

pub with_items-loop-i-preserved : goal.with_items-loop-i-preserved
with_items-loop-i-preserved t c =
    let l = c.loop-i in
    let ds = docs_tree c.args.docs.now in
    let ty = ty_tree c.args.inner.now in
    let d = doc_tree c.get.result.now in
    let within : l.i < length (doc_list ds) = omega (arith, c.len-i-end.ensures, c.loop-i-test.true) in
    let rest = modify_each (l.i + 1) (drop (l.i + 1) (construct_each ty ds)) in
    let before = joined (word_of (map primitive_tree l.out.items)) in
    c.in_ok-push_modify.ensures rest
    ∙ (ap (λ (w : WordTree). before (unless_empty (modify (Index l.i)) w rest)) c.in_ok-word.ensures
    ∙ (ap before (sym (item-modified ty ds l.i d within c.get.ensures)) ∙ l.invariant))

pub with_items-returns : goal.with_items-returns
with_items-returns t c =
    let l = c.loop-i in
    let ds = docs_tree c.args.docs.now in
    let ty = ty_tree c.args.inner.now in
    let past : length (doc_list ds) ≤ l.i = omega (arith, c.len-i-end.ensures, c.loop-i-test.false) in
    let word = word_of (map primitive_tree l.out.items) in
    c.from_vec.ensures ∙ (sym (joined_nothing word) ∙ (ap (joined word) (sym (items-done ty ds l.i past)) ∙ l.invariant))

-- ---- tags

pub of_tag-build-requires : goal.of_tag-build-requires
of_tag-build-requires t c =
    let tags = fields_tree c.args.tags.now in
    let there = sym (rw c.as_str-name.ensures at c.in-Some.ensures) in
    let low = lookup_field-height tags c.args.tag.now _ there in
    (omega (arith, low), content_typed tags c.args.tag.now (doc_tree c.args.content.now) _ c.requires there)

-- ---- keys

pub of_keyed-build-requires : goal.of_keyed-build-requires
of_keyed-build-requires t c =
    let ds = docs_tree c.args.docs.now in
    let within : c.loop-i.i < length (doc_list ds) = omega (arith, c.len-i-end.ensures, c.loop-i-test.true) in
    (omega arith, each_typed (ty_tree c.args.inner.now) ds c.loop-i.i (doc_tree c.get.result.now) within c.get.ensures c.requires.typed)

pub of_keyed-loop-i-preserved : goal.of_keyed-loop-i-preserved
of_keyed-loop-i-preserved t c =
    let l = c.loop-i in
    let ds = docs_tree c.args.docs.now in
    let ty = ty_tree c.args.inner.now in
    let d = doc_tree c.get.result.now in
    let keys = c.args.keys.now in
    let key = c.get-in-loop-i.result.now in
    let within : l.i < length (doc_list ds) = omega (arith, c.len-i-end.ensures, c.loop-i-test.true) in
    let there : l.i < length keys = omega (arith, c.requires.many, within) in
    let rest = put_each (drop (l.i + 1) keys) (drop (l.i + 1) (construct_each ty ds)) in
    let before = joined (word_of (map primitive_tree l.out.items)) in
    c.in_ok-push_key.ensures rest
    ∙ (ap (λ (w : WordTree). before (reshape (PutKey key) (unless_empty (modify (Key key)) w rest))) c.in_ok-word.ensures
    ∙ (ap before (sym (key-next ty keys ds l.i key d there within (item-at keys l.i key key c.get-in-loop-i.ensures) c.get.ensures)) ∙ l.invariant))

pub of_keyed-returns : goal.of_keyed-returns
of_keyed-returns t c =
    let l = c.loop-i in
    let ds = docs_tree c.args.docs.now in
    let keys = c.args.keys.now in
    let past : length keys ≤ l.i = omega (arith, c.requires.many, c.len-i-end.ensures, c.loop-i-test.false) in
    let word = word_of (map primitive_tree l.out.items) in
    c.from_vec.ensures
    ∙ (sym (joined_nothing word) ∙ (ap (joined word) (sym (keys-done keys (drop l.i (construct_each (ty_tree c.args.inner.now) ds)) l.i past)) ∙ l.invariant))

-- ---- trees

pub of_tree-loop-i-init : goal.of_tree-loop-i-init
of_tree-loop-i-init t c =
    let ds = docs_tree c.args.docs.now in
    let es = c.args.depths.now in
    let ty = ty_tree c.args.inner.now in
    let some = valid-some es c.requires.valid in
    let rest = graft_each (paths_after [] (drop 1 es)) (drop 1 (construct_each ty ds)) in
    let P : List ℕ → Type 0 = λ q. joined (word_of (map primitive_tree c.push_modify.new.out.items)) (graft_each (paths_after q (drop 1 es)) (drop 1 (construct_each ty ds))) ≡ grow (paths es) (construct_each ty ds) in
    let before = joined (word_of (map primitive_tree c.new-out.result.items)) in
    let none : before (grow (paths es) (construct_each ty ds)) ≡ grow (paths es) (construct_each ty ds) = rw c.new-out.ensures.items refl in
    let path : c.from_vec.result ≡ [] = c.from_vec.ensures ∙ c.new.ensures.items in
    let there = c.in_ok-push_modify.ensures rest
    ∙ (ap (λ (q : List ℕ). before (unless_empty (modify (Node q)) (word_tree c.in_ok-root.root) rest)) path
    ∙ (ap (λ (w : WordTree). before (unless_empty (modify (Node [])) w rest)) c.in_ok-root.ensures
    ∙ (ap before (sym (root-first ty es ds (doc_tree c.get.result.now) some (omega (arith, some, c.requires.many)) c.get.ensures)) ∙ none))) in
    let empty = c.new-path.ensures.items in
    let G : List ℕ → Type 0 = λ q. GoesOn (length q) (drop 1 es) in
    let L : List ℕ → Type 0 = λ q. (k : ℕ) → get_or q k 0 < 1 in
    record {
      left = subst P (sym empty) there;
      goes = subst G (sym empty) (goes-first es c.requires.valid);
      low = subst L (sym empty) (λ k. omega arith);
    }

pub of_tree-build-requires-in-loop-i : goal.of_tree-build-requires-in-loop-i
of_tree-build-requires-in-loop-i t c =
    let ds = docs_tree c.args.docs.now in
    let within : c.loop-i.i < length (doc_list ds) = omega (arith, c.len-i-end.ensures, c.loop-i-test.true) in
    (omega arith, each_typed (ty_tree c.args.inner.now) ds c.loop-i.i (doc_tree c.get-in-loop-i.result.now) within c.get-in-loop-i.ensures c.requires.typed)

pub of_tree-next_path-requires-clause-some : goal.of_tree-next_path-requires-clause-some
of_tree-next_path-requires-clause-some t c =
    let es = c.args.depths.now in
    let d = c.get-in-loop-i-2.result.now in
    let there : c.loop-i.i < length es = omega (arith, c.requires.many, c.len-i-end.ensures, c.loop-i-test.true) in
    (goes-next c.loop-i.path.items es c.loop-i.i d there (item-at es c.loop-i.i d d c.get-in-loop-i-2.ensures) c.loop-i.invariant.goes).0

pub of_tree-next_path-requires-clause-most : goal.of_tree-next_path-requires-clause-most
of_tree-next_path-requires-clause-most t c =
    let es = c.args.depths.now in
    let d = c.get-in-loop-i-2.result.now in
    let there : c.loop-i.i < length es = omega (arith, c.requires.many, c.len-i-end.ensures, c.loop-i-test.true) in
    (goes-next c.loop-i.path.items es c.loop-i.i d there (item-at es c.loop-i.i d d c.get-in-loop-i-2.ensures) c.loop-i.invariant.goes).1

pub of_tree-loop-i-preserved : goal.of_tree-loop-i-preserved
of_tree-loop-i-preserved t c =
    let l = c.loop-i in
    let ds = docs_tree c.args.docs.now in
    let es = c.args.depths.now in
    let ty = ty_tree c.args.inner.now in
    let d = c.get-in-loop-i-2.result.now in
    let v = doc_tree c.get-in-loop-i.result.now in
    let within : l.i < length (doc_list ds) = omega (arith, c.len-i-end.ensures, c.loop-i-test.true) in
    let there : l.i < length es = omega (arith, c.requires.many, within) in
    let is = item-at es l.i d d c.get-in-loop-i-2.ensures in
    let next = goes-next l.path.items es l.i d there is l.invariant.goes in
    let q = next_path l.path.items d in
    let path : c.in_ok-path.path.items ≡ q = c.in_ok-path.ensures.0 in
    let shown : c.as_slice.result.now ≡ q = c.as_slice.ensures.value ∙ path in
    let rest = graft_each (paths_after q (drop (l.i + 1) es)) (drop (l.i + 1) (construct_each ty ds)) in
    let before = joined (word_of (map primitive_tree l.out.items)) in
    let left = c.in_ok-push_node.ensures rest
    ∙ (ap (λ (p : List ℕ). before (reshape (Graft (parent_path p)) (unless_empty (modify (Node p)) (word_tree c.in_ok-word.word) rest))) shown
    ∙ (ap (λ (w : WordTree). before (reshape (Graft (parent_path q)) (unless_empty (modify (Node q)) w rest))) c.in_ok-word.ensures
    ∙ (ap before (sym (node-next ty l.path.items es ds l.i d v there within is c.get-in-loop-i.ensures)) ∙ l.invariant.left))) in
    let P : List ℕ → Type 0 = λ p. joined (word_of (map primitive_tree c.push_node.new.out.items)) (graft_each (paths_after p (drop (l.i + 1) es)) (drop (l.i + 1) (construct_each ty ds))) ≡ grow (paths es) (construct_each ty ds) in
    let G : List ℕ → Type 0 = λ p. GoesOn (length p) (drop (l.i + 1) es) in
    record {
      left = subst P (sym path) left;
      goes = subst G (sym path) next.2;
      low = c.in_ok-path.ensures.1;
    }

pub of_tree-returns : goal.of_tree-returns
of_tree-returns t c =
    let l = c.loop-i in
    let ds = docs_tree c.args.docs.now in
    let es = c.args.depths.now in
    let past : length es ≤ l.i = omega (arith, c.requires.many, c.len-i-end.ensures, c.loop-i-test.false) in
    let word = word_of (map primitive_tree l.out.items) in
    c.from_vec-2.ensures
    ∙ (sym (joined_nothing word) ∙ (ap (joined word) (sym (nodes-done l.path.items es (drop l.i (construct_each (ty_tree c.args.inner.now) ds)) l.i past)) ∙ l.invariant.left))
