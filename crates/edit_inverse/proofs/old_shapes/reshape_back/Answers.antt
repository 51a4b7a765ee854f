use Rattle.std.proofs.Common.{◌≡◌, true, sym, ap, ◌∙◌}
use Rattle.doc_values.specs.Documents.{DocTree, doc_tree, docs_tree, hold}
use Rattle.doc_values.specs.Types.{ty_tree}
use Rattle.doc_values.specs.Typing.{has}
use Rattle.edit_module.proofs.ContainerRows.{doc_tree-Hold}
use Rattle.edit_inverse.proofs.Rows.{reshapes}
use Rattle.edit_inverse.proofs.old_shapes.reshape_back.Goals as goal

pub edit_back-requires-clause-held : goal.edit_back-requires-clause-held
edit_back-requires-clause-held c =
    let s = c.in-Hold.shape in
    let ds = c.in-Hold.docs in
    let t = ty_tree c.args.ty.now in
    let typed : has t (hold s (docs_tree ds)) ≡ true =
    ap (λ (v : DocTree). has t v) (sym (ap doc_tree c.in-Hold.is ∙ doc_tree-Hold s ds)) ∙ c.requires.typed in
    (reshapes t (ty_tree c.in-Some.inner.now) c.args.edit.now s (docs_tree ds) (sym c.in-Some.ensures)).held typed
