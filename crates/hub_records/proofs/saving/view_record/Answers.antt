use Rattle.hub_records.proofs.saving.view_record.Goals as goal

pub document_record-requires : goal.document_record-requires
document_record-requires c = record {
  well_formed = c.right.ensures.well_formed;
  typed = rw (c.right.ensures.right, c.deref.ensures) c.requires.has_type;
}

pub returns-clause-ints : goal.returns-clause-ints
returns-clause-ints c = rw c.deref.ensures at c.in_ok-doc.ensures.ints
