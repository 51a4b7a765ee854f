use Rattle.std.proofs.Common.{ap, ◌∙◌}
use Rattle.serde_json.specs.View.{view}
use Rattle.serde_json.specs.Written.{has_float}
use Rattle.doc_values.specs.Documents.{doc_tree}
use Rattle.doc_values.specs.Types.{ty_tree, height}
use Rattle.value_json.proofs.Levels.{written_text, text_back}
use Rattle.value_json.proofs.TreeDepths.{whole, shallow}
use Rattle.value_json.proofs.text.write_doc_text.Goals as goal

pub write_compact-requires : goal.write_compact-requires
write_compact-requires c = ap has_float c.in_ok-tree.ensures.tree ∙ whole (ty_tree c.args.ty.now) (doc_tree c.args.doc.now)

pub returns-clause-text : goal.returns-clause-text
returns-clause-text c = written_text c.write_compact.result (view c.in_ok-tree.tree) _ c.in_ok-tree.ensures.tree c.write_compact.ensures.text

pub returns-clause-reads_back : goal.returns-clause-reads_back
returns-clause-reads_back c =
    let t = ty_tree c.args.ty.now in
    text_back c.write_compact.result (view c.in_ok-tree.tree) _ (height t) c.in_ok-tree.ensures.tree (shallow t (doc_tree c.args.doc.now)) c.write_compact.ensures.reads_back
