use Rattle.std.proofs.Common.{◌≡◌, List, ◌++◌, drop}
use Rattle.std.specs.Prelude.{option_map}
use Rattle.edit_module.specs.Changes.{ChangeTree}
use Rattle.store_undo.specs.Undoing.{changes_of}
use Rattle.edit_undo.specs.UndoneViews.{change_trees}
use Rattle.store_undo.proofs.last_changes.changes_from.Given as goal

-- behind the changes that were read come those of the payloads that are left
abbrev pub invariant-loop-at : goal.invariant-loop-at
invariant-loop-at l =
    option_map (λ (cs : List ChangeTree). change_trees l.changes.items ++ cs) (changes_of (drop l.at l.records)) ≡ changes_of (drop l.from l.records)
