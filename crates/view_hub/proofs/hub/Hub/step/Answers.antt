use Rattle.std.proofs.Common.{◌≡◌, Some, Ok, subst}
use Rattle.edit_module.specs.Views.{word_tree}
use Rattle.view_hub.specs.Hubs.{hub_step}
use Rattle.view_hub.specs.Views.{hub_tree, hub_carried_tree, place_of_side}
use Rattle.view_hub.proofs.HubOutcomes.{stays}
use Rattle.view_hub.proofs.hub.Hub.step.Goals as goal

pub invariant_of-self : goal.invariant_of-self
invariant_of-self g c =
    stays g.L.EditLens
    g.met.L.EditLens.left_edits_carry g.met.L.EditLens.right_edits_carry
    c.self.inside.lenses.items (hub_tree c.self.inside.parts) (hub_tree c.in_ok-parts.parts)
    (place_of_side c.args.side, word_tree c.args.word.now) (hub_carried_tree c.in_ok-parts.carried) c.self.invariant
    (subst (λ ls. hub_step g.L.EditLens
    ls (hub_tree c.self.inside.parts) (place_of_side c.args.side, word_tree c.args.word.now)
    ≡ Some (Ok (hub_tree c.in_ok-parts.parts, hub_carried_tree c.in_ok-parts.carried))) c.deref.ensures.value c.in_ok-parts.ensures)

pub returns-clause-in_step : goal.returns-clause-in_step
returns-clause-in_step g c =
    stays g.L.EditLens
    g.met.L.EditLens.left_edits_carry g.met.L.EditLens.right_edits_carry
    c.self.inside.lenses.items (hub_tree c.self.inside.parts) (hub_tree c.in_ok-parts.parts)
    (place_of_side c.args.side, word_tree c.args.word.now) (hub_carried_tree c.in_ok-parts.carried) c.self.invariant
    (subst (λ ls. hub_step g.L.EditLens
    ls (hub_tree c.self.inside.parts) (place_of_side c.args.side, word_tree c.args.word.now)
    ≡ Some (Ok (hub_tree c.in_ok-parts.parts, hub_carried_tree c.in_ok-parts.carried))) c.deref.ensures.value c.in_ok-parts.ensures)
