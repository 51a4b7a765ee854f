use Rattle.texts.proofs.Conjunction.{both}
use Rattle.doc_values.specs.Documents.{doc_tree}
use Rattle.value_json.specs.DocumentJson.{holds_i64s}
use Rattle.view_hub.specs.Views.{view_trees}
use Rattle.hub_records.specs.WholeInts.{views_hold_i64s}
use Rattle.hub_records.proofs.saving.parts_record.Goals as goal

pub document_record-requires : goal.document_record-requires
document_record-requires c = record {
  well_formed = c.left.ensures.well_formed;
  typed = rw (c.left.ensures.left, c.deref.ensures) c.requires.has_type;
}

pub returns-clause-ints : goal.returns-clause-ints
returns-clause-ints c =
    both (holds_i64s (doc_tree c.args.parts.now.hub.value)) (views_hold_i64s (view_trees c.args.parts.now.views.items))
    (rw c.deref.ensures at c.in_ok-hub.ensures.ints) c.in_ok-views.ensures.ints
