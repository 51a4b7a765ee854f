use Rattle.std.proofs.Common.{◌≡◌, map, take}
use Rattle.serde_json.specs.View.{view}
use Rattle.hub_records.proofs.HubTrees.{text_tree}
use Rattle.hub_records.proofs.payloads.write_texts.Given as goal

abbrev pub invariant-loop-program : goal.invariant-loop-program
invariant-loop-program l = map view l.items.items ≡ map text_tree (take l.program-index l.programs)
