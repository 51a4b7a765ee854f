use Rattle.std.proofs.Common.{ap, ◌∙◌, arith}
use Rattle.edit_module.specs.Views.{word_trees}
use Rattle.hub_undo.specs.HubUndone.{joined_views}
use Rattle.hub_undo.proofs.JoinedViews.{joins_none, joins_last, joins_end, never_fewer}
use Rattle.hub_undo.proofs.joining.join_views.Goals as goal

pub views-init : goal.views-init
views-init c = joins_none c.args.first.items c.args.second.items c.in_ok-joined.joined.items c.requires.views c.in_ok-joined.ensures.items

pub unreachable-requires : goal.unreachable-requires
unreachable-requires c =
    let l = c.views in
    never_fewer l.first.items c.pop.new.self.items l.second.items c.in-Some.word c.in-Some.ensures.items l.invariant.0 (omega (arith, c.in_default-pop.ensures.cases.0))

pub views-preserved : goal.views-preserved
views-preserved c =
    let l = c.views in
    joins_last c.pop.new.self.items c.pop-in-Some.new.self.items l.first.items l.second.items l.joined.items c.push.new.self.items c.in-Some.word c.in-Some-pop.other c.in_ok-both.both
    (joined_views (word_trees c.args.first.items) (word_trees c.args.second.items)) c.in-Some.ensures.items c.in-Some-pop.ensures.items c.in_ok-push.ensures.items c.in_ok-both.ensures l.invariant

pub returns : goal.returns
returns c =
    let l = c.views in
    ap word_trees c.from_vec.ensures
    ∙ joins_end l.first.items l.second.items l.joined.items c.reverse.new.self.items (joined_views (word_trees c.args.first.items) (word_trees c.args.second.items)) (omega (arith, c.in_default.ensures.cases.0))
    c.reverse.ensures.items l.invariant
