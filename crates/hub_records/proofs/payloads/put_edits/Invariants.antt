use Rattle.std.proofs.Common.{◌≡◌, ◌++◌, drop}
use Rattle.view_hub.specs.Views.{edit_trees}
use Rattle.hub_records.specs.HubChanges.{all_numbers_fit}
use Rattle.hub_records.proofs.EditTokens.{edits_from}
use Rattle.hub_records.proofs.payloads.put_edits.Given as goal

abbrev pub invariant-loop-edit : goal.invariant-loop-edit
invariant-loop-edit l =
    (l.out.before ≡ l.initial.out.before)
    × (l.out.tokens ++ edits_from l.edits l.edit-index ≡ l.initial.out.tokens ++ edits_from l.edits 0)
    × (all_numbers_fit (edit_trees l.edits) ≡ all_numbers_fit (edit_trees (drop l.edit-index l.edits)))
