use Rattle.std.proofs.Common.{length}
use Rattle.edit_module.specs.Views.{word_trees}
use Rattle.hub_undo.specs.HubUndone.{joined_views}
use Rattle.hub_undo.proofs.JoinedViews.{JoinsTo}
use Rattle.hub_undo.proofs.joining.join_views.Given as goal

abbrev pub decreases-views : goal.decreases-views
decreases-views l = length l.first.items

-- the words that are left, joined, and behind them those that were joined, from the last
abbrev pub invariant-views : goal.invariant-views
invariant-views l = JoinsTo l.first.items l.second.items l.joined.items (joined_views (word_trees l.fn.first.items) (word_trees l.fn.second.items))
