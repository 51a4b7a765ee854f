use Rattle.std.proofs.Common.{◌≡◌, true}
use Rattle.std.proofs.lemmas.Result.{IfOk-weaker}
use Rattle.serde_json.specs.View.{view}
use Rattle.doc_values.specs.Documents.{doc_tree}
use Rattle.doc_values.specs.Types.{ty_tree}
use Rattle.value_json.specs.DocumentJson.{holds_i64s}
use Rattle.value_json.proofs.ReadingHasTree.{takes}
use Rattle.hub_records.proofs.saving.document_record.Goals as goal

pub returns-clause-ints : goal.returns-clause-ints
returns-clause-ints c =
    IfOk-weaker c.write_doc.result _ (λ _. holds_i64s (doc_tree c.args.doc.now) ≡ true)
    (λ tree back. (takes (ty_tree c.args.ty.now) (view tree) (doc_tree c.args.doc.now) back).whole) c.write_doc.ensures.reads_back
