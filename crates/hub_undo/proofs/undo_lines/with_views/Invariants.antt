use Rattle.std.proofs.Common.{◌≡◌, ◌++◌, drop}
use Rattle.edit_module.specs.Views.{word_trees}
use Rattle.hub_undo.specs.HubUndoing.{view_undo_lines}
use Rattle.hub_undo.proofs.undo_lines.with_views.Given as goal

-- behind the lines so far come those of the views that are left
abbrev pub invariant-loop-number : goal.invariant-loop-number
invariant-loop-number l = l.all.items ++ view_undo_lines l.number (word_trees (drop l.number l.words)) ≡ l.fn.bytes.items ++ view_undo_lines 0 (word_trees l.words)
