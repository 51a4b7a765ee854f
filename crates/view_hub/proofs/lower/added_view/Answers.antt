use Rattle.std.proofs.Common.{sym, subst}
use Rattle.edit_module.specs.Views.{word_tree}
use Rattle.view_hub.specs.Hubs.{ViewTree, lower}
use Rattle.view_hub.specs.Lowering.{IsLowered}
use Rattle.view_hub.specs.Views.{view_tree}
use Rattle.view_hub.proofs.GroupSteps.{first_has}
use Rattle.view_hub.proofs.lower.added_view.Goals as goal

pub lower-requires-clause-typed : goal.lower-requires-clause-typed
lower-requires-clause-typed g c =
    first_has g.L.EditLens g.met.L.EditLens.consistent_is_typed g.met.L.EditLens.starts_consistent c.args.lens.now (view_tree c.in_ok-first.first) c.in_ok-first.ensures

pub lower-requires-clause-lowers : goal.lower-requires-clause-lowers
lower-requires-clause-lowers g c =
    subst (λ (v : ViewTree). IsLowered (lower g.L.EditLens c.args.lens.now (word_tree c.args.word.now) v)) (sym c.in_ok-first.ensures) c.requires
