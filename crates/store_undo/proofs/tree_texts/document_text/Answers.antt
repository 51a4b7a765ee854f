use Rattle.std.proofs.Common.{ap, ◌∙◌, arith}
use Rattle.serde_json.specs.Data.{depth}
use Rattle.serde_json.specs.View.{view}
use Rattle.serde_json.specs.Written.{has_float}
use Rattle.doc_values.specs.Documents.{doc_tree}
use Rattle.doc_values.specs.Types.{ty_tree}
use Rattle.value_json.proofs.ReadingHasTree.{takes}
use Rattle.value_json.proofs.TreeDepths.{whole, shallow}
use Rattle.edit_json.proofs.Writing.{whatever_ok}
use Rattle.store_undo.proofs.tree_texts.document_text.Goals as goal

pub text_of-requires-clause-whole : goal.text_of-requires-clause-whole
text_of-requires-clause-whole c = ap has_float c.in_ok-tree.ensures.tree ∙ whole (ty_tree c.args.ty.now) (doc_tree c.args.doc.now)

pub text_of-requires-clause-low : goal.text_of-requires-clause-low
text_of-requires-clause-low c =
    let same = ap depth c.in_ok-tree.ensures.tree in
    omega (arith, same, shallow (ty_tree c.args.ty.now) (doc_tree c.args.doc.now), c.requires.low)

pub returns-clause-ints : goal.returns-clause-ints
returns-clause-ints c =
    whatever_ok c.text_of.result (takes (ty_tree c.args.ty.now) (view c.in_ok-tree.tree) (doc_tree c.args.doc.now) c.in_ok-tree.ensures.reads_back).whole
