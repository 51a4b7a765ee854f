use Rattle.doc_values.specs.Documents.{doc_tree}
use Rattle.doc_values.specs.Types.{ty_tree}
use Rattle.value_json.proofs.Levels.{written_back}
use Rattle.value_json.proofs.write.write_doc.Goals as goal

pub returns-clause-reads_back : goal.returns-clause-reads_back
returns-clause-reads_back c = written_back c.write.result (ty_tree c.args.ty.now) (doc_tree c.args.doc.now) c.requires.typed c.write.ensures.tree c.write.ensures.whole
