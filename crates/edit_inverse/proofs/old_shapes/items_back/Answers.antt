use Rattle.std.proofs.Common.{◌≡◌, ◌-◌, IfOk, sym, ap, subst, ◌∙◌}
use Rattle.doc_values.specs.Documents.{docs_tree}
use Rattle.doc_values.specs.Types.{ty_tree}
use Rattle.edit_module.specs.Words.{WordTree}
use Rattle.edit_module.specs.Views.{word_tree}
use Rattle.edit_inverse.specs.Construct.{construct_each}
use Rattle.edit_inverse.proofs.Regrown.{items-made}
use Rattle.edit_inverse.proofs.old_shapes.items_back.Goals as goal

pub returns : goal.returns
returns c =
    let ws = construct_each (ty_tree c.args.inner.now) (docs_tree c.args.docs.now) in
    let is = c.saturating_sub-kept.ensures ∙ ap (λ n. n - c.args.count) (c.len.ensures ∙ sym c.requires.held.long) in
    let made = items-made ws c.new-out.result.items c.push_shape.new.out.items c.args.count c.saturating_sub-kept.result c.args.shape.now c.new-out.ensures.items c.in_ok-push_shape.ensures is in
    let P : WordTree → Type 0 = λ x. IfOk c.with_items.result (λ w. word_tree w ≡ x) in
    subst P made c.with_items.ensures
