use Rattle.view_hub.specs.Views.{hub_tree}
use Rattle.view_hub.proofs.HubOutcomes.{starts_in_step}
use Rattle.view_hub.proofs.hub.Hub.start.Goals as goal

pub invariant_of-result : goal.invariant_of-result
invariant_of-result g c =
    let started = rw c.deref.ensures.value at c.in_ok-parts.ensures in
    starts_in_step g.L.EditLens
    g.met.L.EditLens.left_edits_carry g.met.L.EditLens.right_edits_carry g.met.L.EditLens.starts_consistent
    c.args.lenses.items (hub_tree c.in_ok-parts.parts) c.requires started
