use Rattle.std.proofs.Common.{◌≡◌, Some, None, true, sym, ap, ◌∙◌}
use Rattle.serde_json.specs.View.{view}
use Rattle.doc_values.specs.Documents.{doc_tree}
use Rattle.doc_values.specs.Types.{ty_tree}
use Rattle.doc_values.specs.Typing.{has}
use Rattle.value_json.specs.DocumentJson.{document_of, tree_of_document}
use Rattle.value_json.proofs.WritingReadsBack.{again}
use Rattle.value_json.proofs.ReadingHasTree.{takes}
use Rattle.value_json.proofs.Levels.{given_some, refused_none}
use Rattle.value_json.proofs.read.read_doc.Goals as goal

pub returns-clause-typed : goal.returns-clause-typed
returns-clause-typed c =
    let t = ty_tree c.args.ty.now in
    given_some doc_tree (λ d. has t d ≡ true) c.read.result _ (λ d h. (takes t (view c.args.tree.now) d h).typed) c.read.ensures

pub returns-clause-tree : goal.returns-clause-tree
returns-clause-tree c =
    let t = ty_tree c.args.ty.now in
    given_some doc_tree (λ d. tree_of_document t d ≡ view c.args.tree.now) c.read.result _ (λ d h. (takes t (view c.args.tree.now) d h).tree) c.read.ensures

pub returns-clause-refused : goal.returns-clause-refused
returns-clause-refused c = λ refused d typed whole is.
    let t = ty_tree c.args.ty.now in
    let none = refused_none doc_tree c.read.result (document_of t (view c.args.tree.now)) refused c.read.ensures in
    let some = again t d typed whole in
    let bad : Some d ≡ None = sym some ∙ ap (document_of t) is ∙ none in
    cc
