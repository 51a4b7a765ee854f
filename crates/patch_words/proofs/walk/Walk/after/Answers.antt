use Rattle.std.proofs.Common.{ap, ◌∙◌}
use Rattle.doc_values.specs.declared.doc.Doc.{Doc}
use Rattle.doc_values.specs.Documents.{doc_tree}
use Rattle.doc_values.specs.Types.{ty_tree}
use Rattle.doc_values.specs.Typing.{has}
use Rattle.file_trees.specs.FileTrees.{file_tree}
use Rattle.file_forms.specs.Forms.{file_form_tree}
use Rattle.file_patches.specs.Operations.{operation_tree}
use Rattle.patch_words.proofs.WalkSteps.{goes-read, read-has}
use Rattle.patch_words.proofs.walk.Walk.after.Goals as goal

pub read-requires-clause-to : goal.read-requires-clause-to
read-requires-clause-to c =
    read-has (file_form_tree c.args.form.now) (ty_tree c.args.ty.now) (file_tree c.in_ok-tree.tree) (doc_tree c.in-Ok.doc) c.requires.fit c.requires.same (c.in-Ok.ensures.read c.requires.fit)

pub returns-in_ok-read-in-Ok-clause-goes : goal.returns-in_ok-read-in-Ok-clause-goes
returns-in_ok-read-in-Ok-clause-goes c =
    let next = c.in_ok-read-in-Ok.field-0 in
    let state = c.in_ok-read-in-Ok.ensures.state in
    goes-read (ty_tree c.args.ty.now) (file_form_tree c.args.form.now) c.args.number c.args.self next (operation_tree c.args.operation.now) (file_tree c.in_ok-tree.tree) (doc_tree c.in-Ok.doc)
    c.in_ok-tree.ensures c.in-Ok.ensures.document c.in_ok-read-in-Ok.ensures.word (ap doc_tree state.1) (ap file_tree state.0) state.2

pub returns-in_ok-read-in-Ok-clause-typed : goal.returns-in_ok-read-in-Ok-clause-typed
returns-in_ok-read-in-Ok-clause-typed c =
    let state = c.in_ok-read-in-Ok.ensures.state in
    let typed = read-has (file_form_tree c.args.form.now) (ty_tree c.args.ty.now) (file_tree c.in_ok-tree.tree) (doc_tree c.in-Ok.doc) c.requires.fit c.requires.same (c.in-Ok.ensures.read c.requires.fit) in
    ap (λ (d : Doc). has (ty_tree c.args.ty.now) (doc_tree d)) state.1 ∙ typed
