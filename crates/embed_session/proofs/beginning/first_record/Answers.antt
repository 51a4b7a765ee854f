use Rattle.std.proofs.Common.{ap, ◌∙◌}
use Rattle.edit_journal.specs.EntryJson.{tree_of_text}
use Rattle.embed_session.proofs.beginning.first_record.Goals as goal

pub returns : goal.returns
returns c = record {
  compact = c.into_vec.ensures ∙ c.in_ok-payload.ensures.text;
  reads_back = ap tree_of_text c.into_vec.ensures ∙ c.in_ok-payload.ensures.reads_back;
}
