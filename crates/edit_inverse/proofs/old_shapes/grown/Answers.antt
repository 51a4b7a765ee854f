use Rattle.std.proofs.Common.{◌≡◌, ℕ, List, ◌+◌, ◌<◌, ◌≤◌, map, drop, length, sym, ap, subst, ◌∙◌, arith}
use Rattle.std.specs.Prelude.{slice_range}
use Rattle.hold_shapes.specs.declared.edit.Place.TheVariants.{Node}
use Rattle.hold_shapes.specs.declared.edit.ShapeEdit.TheVariants.{Graft}
use Rattle.hold_shapes.proofs.SharedItems.{item-at}
use Rattle.hold_shapes.proofs.ValidDepths.{GoesOn}
use Rattle.doc_values.specs.Documents.{doc_tree, docs_tree, doc_list}
use Rattle.doc_values.specs.Types.{ty_tree}
use Rattle.edit_module.specs.Views.{primitive_tree, word_tree}
use Rattle.edit_module.specs.Words.{WordTree, word_of, joined, modify}
use Rattle.edit_inverse.specs.Construct.{construct_each, unless_empty, reshape, graft_each}
use Rattle.edit_inverse.specs.Paths.{parent_path, next_path, paths_after}
use Rattle.edit_inverse.proofs.Building.{each_typed, goes-next}
use Rattle.edit_inverse.proofs.Regrown.{grown-next, grown-done}
use Rattle.edit_inverse.proofs.old_shapes.grown.Goals as goal
use Rattle.edit_module.proofs.JoinedWords.{joined_nothing}

pub construct-requires : goal.construct-requires
construct-requires c =
    let ds = docs_tree c.args.docs.now in
    let within : c.loop-i.i < length (doc_list ds) = omega (arith, c.requires.many, c.requires.within, c.loop-i-test.true) in
    each_typed (ty_tree c.args.inner.now) ds c.loop-i.i (doc_tree c.get.result.now) within c.get.ensures c.requires.typed

pub next_path-requires-clause-some : goal.next_path-requires-clause-some
next_path-requires-clause-some c =
    let es = c.args.depths.now in
    let l = c.loop-i in
    let d = c.get-in-loop-i.result.now in
    let there : l.i < length es = omega (arith, c.loop-i-test.true, c.requires.within) in
    (goes-next l.path.items es l.i d there (item-at es l.i d d c.get-in-loop-i.ensures) l.invariant.goes).0

pub next_path-requires-clause-most : goal.next_path-requires-clause-most
next_path-requires-clause-most c =
    let es = c.args.depths.now in
    let l = c.loop-i in
    let d = c.get-in-loop-i.result.now in
    let there : l.i < length es = omega (arith, c.loop-i-test.true, c.requires.within) in
    (goes-next l.path.items es l.i d there (item-at es l.i d d c.get-in-loop-i.ensures) l.invariant.goes).1

pub loop-i-preserved : goal.loop-i-preserved
loop-i-preserved c =
    let l = c.loop-i in
    let ds = docs_tree c.args.docs.now in
    let es = c.args.depths.now in
    let ty = ty_tree c.args.inner.now in
    let to = c.args.to in
    let d = c.get-in-loop-i.result.now in
    let v = doc_tree c.get.result.now in
    let there : l.i < length es = omega (arith, c.loop-i-test.true, c.requires.within) in
    let within : l.i < length (doc_list ds) = omega (arith, c.requires.many, there) in
    let more : l.i < to = omega (arith, c.loop-i-test.true) in
    let is = item-at es l.i d d c.get-in-loop-i.ensures in
    let next = goes-next l.path.items es l.i d there is l.invariant.goes in
    let q = next_path l.path.items d in
    let path : c.in_ok-path.path.items ≡ q = c.in_ok-path.ensures.0 in
    let shown : c.as_slice.result.now ≡ q = c.as_slice.ensures.value ∙ path in
    let rest = graft_each (paths_after q (slice_range es (l.i + 1) to)) (slice_range (construct_each ty ds) (l.i + 1) to) in
    let before = joined (word_of (map primitive_tree l.out.items)) in
    let left = c.in_ok-push_node.ensures rest
    ∙ (ap (λ (p : List ℕ). before (reshape (Graft (parent_path p)) (unless_empty (modify (Node p)) (word_tree c.in_ok-word.word) rest))) shown
    ∙ (ap (λ (w : WordTree). before (reshape (Graft (parent_path q)) (unless_empty (modify (Node q)) w rest))) c.in_ok-word.ensures.exact
    ∙ (ap before (sym (grown-next ty l.path.items es ds l.i to d v more there within is c.get.ensures)) ∙ l.invariant.left))) in
    let P : List ℕ → Type 0 = λ p.
    joined (word_of (map primitive_tree c.push_node.new.out.items)) (graft_each (paths_after p (slice_range es (l.i + 1) to)) (slice_range (construct_each ty ds) (l.i + 1) to))
    ≡ graft_each (paths_after c.args.before.items (slice_range es c.args.from to)) (slice_range (construct_each ty ds) c.args.from to) in
    let G : List ℕ → Type 0 = λ p. GoesOn (length p) (drop (l.i + 1) es) in
    record {
      left = subst P (sym path) left;
      goes = subst G (sym path) next.2;
      low = c.in_ok-path.ensures.1;
    }

pub returns : goal.returns
returns c =
    let l = c.loop-i in
    let word = word_of (map primitive_tree l.out.items) in
    let past : c.args.to ≤ l.i = omega (arith, c.loop-i-test.false) in
    c.from_vec.ensures
    ∙ (sym (joined_nothing word)
    ∙ (ap (joined word) (sym (grown-done (ty_tree c.args.inner.now) l.path.items c.args.depths.now (docs_tree c.args.docs.now) l.i c.args.to past)) ∙ l.invariant.left))
