use Rattle.std.proofs.Common.{ap, ◌∙◌}
use Rattle.serde_json.specs.View.{view}
use Rattle.serde_json.specs.Written.{has_float}
use Rattle.doc_values.specs.Documents.{doc_tree}
use Rattle.doc_values.specs.Types.{ty_tree}
use Rattle.value_json.proofs.ReadingHasTree.{takes}
use Rattle.value_json.proofs.TreeDepths.{whole}
use Rattle.embed_session.proofs.PartTexts.{document_low, written_document}
use Rattle.embed_session.proofs.parts.document_text.Goals as goal

pub tree_text-requires-clause-no_float : goal.tree_text-requires-clause-no_float
tree_text-requires-clause-no_float c = ap has_float c.in_ok-tree.ensures.tree ∙ whole (ty_tree c.args.ty.now) (doc_tree c.args.doc.now)

pub tree_text-requires-clause-low : goal.tree_text-requires-clause-low
tree_text-requires-clause-low c = document_low (ty_tree c.args.ty.now) (doc_tree c.args.doc.now) (view c.in_ok-tree.tree) c.in_ok-tree.ensures.tree c.requires.low

pub returns : goal.returns
returns c =
    let ty = ty_tree c.args.ty.now in let doc = doc_tree c.args.doc.now in let tree = view c.in_ok-tree.tree in
    written_document (λ text. text.items) c.tree_text.result ty doc tree c.in_ok-tree.ensures.tree c.requires.typed (takes ty tree doc c.in_ok-tree.ensures.reads_back).whole c.tree_text.ensures
