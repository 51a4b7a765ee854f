use Rattle.std.proofs.Common.{◌≡◌}
use Rattle.edit_module.specs.Views.{word_trees}
use Rattle.hub_undo.specs.HubUndone.{no_view_words}
use Rattle.hub_undo.proofs.joining.no_view_words.Given as goal

abbrev pub invariant-loop : goal.invariant-loop
invariant-loop l = word_trees l.words.items ≡ no_view_words l.counter
