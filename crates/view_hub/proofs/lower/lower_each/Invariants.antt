use Rattle.std.proofs.Common.{take}
use Rattle.edit_module.specs.Views.{word_tree, word_trees}
use Rattle.view_hub.specs.Hubs.{lower_all}
use Rattle.view_hub.specs.Lowering.{Adds}
use Rattle.view_hub.specs.Views.{view_trees}
use Rattle.view_hub.proofs.lower.lower_each.Given as goal

-- the views before this place were lowered
abbrev pub invariant-loop-place : goal.invariant-loop-place
invariant-loop-place g l =
    Adds (lower_all g.L.EditLens (word_tree l.word) (take l.place l.lenses) (take l.place (view_trees l.views)))
    (view_trees l.fn.out.views.items) (word_trees l.fn.out.words.items) (view_trees l.out.views.items) (word_trees l.out.words.items)
