use Rattle.std.proofs.Common.{sym, subst}
use Rattle.edit_module.specs.Views.{word_tree}
use Rattle.view_hub.specs.Laws.{IsHub}
use Rattle.view_hub.specs.Views.{hub_tree}
use Rattle.view_hub.proofs.GroupSteps.{first_lowered, added_in_step}
use Rattle.view_hub.proofs.hub.Hub.add.Goals as goal

pub one_view_more-requires : goal.one_view_more-requires
one_view_more-requires g c =
    first_lowered g.L.EditLens
    g.met.L.EditLens.left_edits_carry g.met.L.EditLens.right_edits_carry g.met.L.EditLens.starts_consistent
    c.args.lens (word_tree c.args.word.now) _ c.requires.makes

pub invariant_of-self-2 : goal.invariant_of-self-2
invariant_of-self-2 g c =
    subst (λ ls. IsHub g.L.EditLens ls (hub_tree c.in_ok-parts.parts)) (sym c.in_ok-push.ensures.items)
    (added_in_step g.L.EditLens
    g.met.L.EditLens.left_edits_carry g.met.L.EditLens.right_edits_carry g.met.L.EditLens.starts_consistent
    c.self.inside.lenses.items c.args.lens (word_tree c.args.word.now) (hub_tree c.self.inside.parts) (hub_tree c.in_ok-parts.parts)
    c.self.invariant (rw (sym c.self.view_is) at c.requires.same_left) (rw (sym c.self.view_is) at c.requires.makes) c.in_ok-parts.ensures)

pub returns-clause-in_step : goal.returns-clause-in_step
returns-clause-in_step g c =
    subst (λ ls. IsHub g.L.EditLens ls (hub_tree c.in_ok-parts.parts)) (sym c.in_ok-push.ensures.items)
    (added_in_step g.L.EditLens
    g.met.L.EditLens.left_edits_carry g.met.L.EditLens.right_edits_carry g.met.L.EditLens.starts_consistent
    c.self.inside.lenses.items c.args.lens (word_tree c.args.word.now) (hub_tree c.self.inside.parts) (hub_tree c.in_ok-parts.parts)
    c.self.invariant (rw (sym c.self.view_is) at c.requires.same_left) (rw (sym c.self.view_is) at c.requires.makes) c.in_ok-parts.ensures)
