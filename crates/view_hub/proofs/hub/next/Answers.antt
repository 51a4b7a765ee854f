use Rattle.std.proofs.Common.{◌≡◌, length, map, arith}
use Rattle.std.proofs.lemmas.List.{length-map}
use Rattle.edit_module.specs.Views.{word_tree}
use Rattle.view_hub.specs.Views.{hub_tree, view_tree}
use Rattle.view_hub.proofs.HubOutcomes.{past_refuses}
use Rattle.view_hub.proofs.hub.next.Goals as goal

pub returns-then-at-views : goal.returns-then-at-views
returns-then-at-views g c =
    let items = c.args.parts.now.views.items in
    let count : length (map view_tree items) ≡ c.len-views.result = omega (arith, length-map items view_tree, c.args.parts.now.views.ok.0) in
    rw c.in-View.is (past_refuses g.L.EditLens c.args.lenses.now (hub_tree c.args.parts.now)
    c.in-View.at (word_tree c.args.word.now) c.len-views.result count c.if-at-views.true)
