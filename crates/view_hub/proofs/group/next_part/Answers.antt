use Rattle.view_hub.specs.Views.{hub_tree, hub_carried_tree, edit_tree}
use Rattle.view_hub.proofs.HubOutcomes.{stays}
use Rattle.view_hub.proofs.group.next_part.Goals as goal

pub returns-in-Ok-clause-in_step : goal.returns-in-Ok-clause-in_step
returns-in-Ok-clause-in_step g c =
    let made = c.in-Ok.made in
    stays g.L.EditLens
    g.met.L.EditLens.left_edits_carry g.met.L.EditLens.right_edits_carry
    c.args.lenses.now (hub_tree c.args.parts.now) (hub_tree made.0) (edit_tree c.args.edit.now) (hub_carried_tree made.1) c.requires.in_step c.in-Ok.ensures
