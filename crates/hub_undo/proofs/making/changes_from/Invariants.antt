use Rattle.std.proofs.Common.{◌≡◌, List, ◌++◌, drop}
use Rattle.std.specs.Prelude.{option_map}
use Rattle.hub_records.specs.HubChanges.{HubChangeTree}
use Rattle.hub_undo.specs.HubUndoing.{hub_changes_of}
use Rattle.hub_undo.specs.UndoMaking.{change_trees}
use Rattle.hub_undo.proofs.making.changes_from.Given as goal

-- behind the changes that were read come those of the payloads that are left
abbrev pub invariant-loop-at : goal.invariant-loop-at
invariant-loop-at l =
    option_map (λ (cs : List HubChangeTree). change_trees l.changes.items ++ cs) (hub_changes_of (drop l.at l.records)) ≡ hub_changes_of (drop l.from l.records)
