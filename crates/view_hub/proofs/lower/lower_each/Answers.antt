use Rattle.std.proofs.Common.{◌<◌, ◌≤◌, length, arith}
use Rattle.edit_module.specs.Views.{word_tree, word_trees}
use Rattle.view_hub.specs.Views.{view_tree, view_trees}
use Rattle.view_hub.proofs.LoweredViews.{lens_within, can_read, adds-read, adds-end}
use Rattle.view_hub.proofs.lower.lower_each.Goals as goal

pub offset_bounds-lenses-place : goal.offset_bounds-lenses-place
offset_bounds-lenses-place g c =
    let within : c.loop-place.place < length c.args.views.now = omega arith in
    omega (arith, lens_within g.L.EditLens view_tree word_tree (word_tree c.args.word.now) c.args.lenses.now c.args.views.now c.loop-place.place c.requires within)

pub bounds-lenses-place : goal.bounds-lenses-place
bounds-lenses-place g c =
    let within : c.loop-place.place < length c.args.views.now = omega arith in
    lens_within g.L.EditLens view_tree word_tree (word_tree c.args.word.now) c.args.lenses.now c.args.views.now c.loop-place.place c.requires within

pub lower-requires-clause-typed : goal.lower-requires-clause-typed
lower-requires-clause-typed g c =
    let within : c.loop-place.place < length c.args.views.now = omega arith in
    (can_read g.L.EditLens view_tree word_tree
    (word_tree c.args.word.now) c.args.lenses.now c.args.views.now c.loop-place.place c.index-lenses-place.result c.index-views-place.result
    c.requires within c.index-lenses-place.is c.index-views-place.is).0

pub lower-requires-clause-lowers : goal.lower-requires-clause-lowers
lower-requires-clause-lowers g c =
    let within : c.loop-place.place < length c.args.views.now = omega arith in
    (can_read g.L.EditLens view_tree word_tree
    (word_tree c.args.word.now) c.args.lenses.now c.args.views.now c.loop-place.place c.index-lenses-place.result c.index-views-place.result
    c.requires within c.index-lenses-place.is c.index-views-place.is).1

pub loop-place-preserved : goal.loop-place-preserved
loop-place-preserved g c =
    let within : c.loop-place.place < length c.args.views.now = omega arith in
    adds-read g.L.EditLens view_tree word_tree
    (word_tree c.args.word.now) c.args.lenses.now c.args.views.now c.loop-place.place c.index-lenses-place.result c.index-views-place.result
    (view_trees c.args.out.now.views.items) (word_trees c.args.out.now.words.items)
    c.loop-place.out.views.items c.push.new.self.items c.loop-place.out.words.items c.push-in-loop-place.new.self.items
    c.in_ok-after.after c.in_ok-after.carried c.requires within c.index-lenses-place.is c.index-views-place.is
    c.in_ok-after.ensures c.in_ok-push.ensures.items c.in_ok-push-2.ensures.items c.loop-place.invariant

pub returns : goal.returns
returns g c =
    let past : length c.args.views.now ≤ c.loop-place.place = omega arith in
    let end : c.loop-place.place ≤ length c.args.views.now = omega arith in
    adds-end g.L.EditLens view_tree word_tree
    (word_tree c.args.word.now) c.args.lenses.now c.args.views.now c.loop-place.place (view_trees c.args.out.now.views.items) (word_trees c.args.out.now.words.items)
    (view_trees c.loop-place.out.views.items) (word_trees c.loop-place.out.words.items) c.requires past end c.loop-place.invariant
