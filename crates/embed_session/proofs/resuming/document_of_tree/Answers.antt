use Rattle.serde_json.specs.View.{view}
use Rattle.doc_values.specs.Documents.{doc_tree}
use Rattle.doc_values.specs.Types.{ty_tree}
use Rattle.value_json.proofs.ReadingHasTree.{takes}
use Rattle.embed_session.proofs.resuming.document_of_tree.Goals as goal

pub returns-in-Ok : goal.returns-in-Ok
returns-in-Ok c = record {
  of_type = c.in-Ok.ensures.typed;
  ints = (takes (ty_tree c.args.ty.now) (view c.args.tree.now) (doc_tree c.in-Ok.doc) c.in-Ok.ensures.document).whole;
  is = c.in-Ok.ensures.tree;
}
