use Rattle.std.proofs.Common.{◌≡◌, List, ℕ, Some, sym, ap, ◌∙◌}
use Rattle.hold_shapes.specs.declared.edit.Place.TheVariants.{Key}
use Rattle.hold_shapes.specs.Shapes.{place_of}
use Rattle.doc_values.specs.Documents.{doc_tree, docs_tree}
use Rattle.doc_values.specs.Types.{ty_tree}
use Rattle.edit_inverse.specs.Construct.{construct_each}
use Rattle.edit_inverse.proofs.Regrown.{made-at, key-made}
use Rattle.edit_inverse.proofs.old_shapes.key_back.Goals as goal

pub returns : goal.returns
returns c =
    let t = ty_tree c.args.inner.now in
    let ds = docs_tree c.args.docs.now in
    let s = c.args.shape.now in
    let i = c.in-Some.at in
    let there : place_of s (Key c.args.key.now) ≡ Some i =
    ap (λ (k : List ℕ). place_of s (Key k)) (sym c.in_ok-name.ensures) ∙ sym c.in-Some.ensures.place in
    let got = made-at t ds i (doc_tree c.get.result.now) c.in-Some.ensures.typed.0 c.get.ensures in
    c.from_vec.ensures
    ∙ key-made (construct_each t ds) c.new-out.result.items c.push_key.new.out.items c.args.key.now s i _ c.new-out.ensures.items c.in_ok-push_key.ensures there (got ∙ sym c.in_ok-word.ensures.exact)
