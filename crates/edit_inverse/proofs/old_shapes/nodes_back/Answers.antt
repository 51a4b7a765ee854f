use Rattle.std.proofs.Common.{◌≡◌, ◌-◌, ℕ, List, Some, IfOk, sym, ap, subst, ◌∙◌, arith}
use Rattle.hold_shapes.specs.Trees.{node, child, children}
use Rattle.doc_values.specs.Documents.{docs_tree}
use Rattle.doc_values.specs.Types.{ty_tree}
use Rattle.edit_module.specs.Words.{WordTree}
use Rattle.edit_module.specs.Views.{word_tree}
use Rattle.edit_inverse.specs.Construct.{construct_each, depths_in}
use Rattle.edit_inverse.specs.Inverse.{for_found, regrow_last}
use Rattle.edit_inverse.proofs.Regrown.{regrown}
use Rattle.edit_inverse.proofs.old_shapes.nodes_back.Goals as goal

pub returns : goal.returns
returns c =
    let t = ty_tree c.args.inner.now in
    let ds = docs_tree c.args.docs.now in
    let ws = construct_each t ds in
    let es = c.depths-depths.result.now in
    let q = c.args.path.now in
    let p = c.in-Some.parent in
    let first = c.in-Some-child.first in
    let there : node es q ≡ Some p = ap (λ (l : List ℕ). node es l) (sym c.as_slice.ensures) ∙ sym c.in-Some.ensures.value in
    let last : child es p (children es p - 1) ≡ Some first =
    ap (λ (n : ℕ). child es p n) (ap (λ (n : ℕ). n - 1) (sym c.children.ensures) ∙ sym c.saturating_sub-last.ensures) ∙ sym c.in-Some-child.ensures.value in
    let above = c.in-Some-child.ensures.above in
    let within = c.in-Some.ensures.within in
    let P : WordTree → Type 0 = λ x. IfOk c.grown.result (λ w. word_tree w ≡ x) in
    let made = regrown t es q c.in_ok-before.before.items ds p first c.end-end.result there last (sym c.end-end.ensures.value) (omega (arith, above)) (omega (arith, within)) c.in_ok-before.ensures.path in
    let same : depths_in c.args.shape.now ≡ es = ap depths_in c.in-Tree.is ∙ sym c.depths-depths.ensures.value in
    let Q : List ℕ → Type 0 = λ l. IfOk c.grown.result (λ w. word_tree w ≡ for_found (node l q) (regrow_last l ws)) in
    subst Q (sym same) (subst P (sym made) c.grown.ensures)
