use Rattle.std.proofs.Common.{◌+◌}
use Rattle.edit_module.specs.Views.{word_tree, word_trees}
use Rattle.view_hub.specs.Views.{view_tree, view_trees}
use Rattle.view_hub.proofs.LoweredViews.{can_before, can_behind, adds-others}
use Rattle.view_hub.proofs.lower.lower_others.Goals as goal

pub lower_each-requires : goal.lower_each-requires
lower_each-requires g c =
    can_before g.L.EditLens view_tree word_tree
    (word_tree c.args.word.now) c.args.lenses.now c.args.views.now c.args.place c.requires.lowers

pub lower_each-requires-2 : goal.lower_each-requires-2
lower_each-requires-2 g c =
    can_behind g.L.EditLens view_tree word_tree
    (word_tree c.args.word.now) c.args.lenses.now c.args.views.now (c.args.place + 1) c.requires.lowers

pub returns : goal.returns
returns g c =
    adds-others g.L.EditLens view_tree word_tree
    (word_tree c.args.word.now) c.args.lenses.now c.args.views.now c.args.place c.args.own.view c.args.own.word
    c.new.result.items c.lower_each.new.out.views.items c.push.new.self.items c.new-2.result.items c.lower_each.new.out.words.items c.push-2.new.self.items
    (view_trees c.lower_each-2.new.out.views.items) (word_trees c.lower_each-2.new.out.words.items)
    c.requires.lens c.requires.view c.new.ensures.items c.new-2.ensures.items c.in_ok-push.ensures.items c.in_ok-push-2.ensures.items
    c.in_ok-lower_each.ensures c.in_ok-lower_each-2.ensures
