use Rattle.std.proofs.Common.{ap, ◌∙◌}
use Rattle.serde_json.specs.View.{view}
use Rattle.serde_json.specs.Written.{has_float}
use Rattle.store_records.proofs.PayloadTrees.{read_low}
use Rattle.hub_records.specs.Views.{canonical_texts}
use Rattle.hub_records.proofs.HubTrees.{programs_whole, programs_low}
use Rattle.hub_records.proofs.payloads.programs_payload.Goals as goal

pub payload_of-requires : goal.payload_of-requires
payload_of-requires c = ap has_float c.in_ok-tree.ensures ∙ programs_whole (canonical_texts c.args.programs.now)

pub returns-clause-reads_back : goal.returns-clause-reads_back
returns-clause-reads_back c =
    read_low c.payload_of.result (view c.in_ok-tree.tree) _ c.in_ok-tree.ensures (programs_low (canonical_texts c.args.programs.now)) c.payload_of.ensures.reads_back
