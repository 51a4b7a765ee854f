use Rattle.std.proofs.Common.{◌≡◌, true, rules}
use Rattle.lens_core.specs.Complements.{comp_tree, comps_tree, hold_comp}
use Rattle.lens_core.proofs.ComplementTrees.{comp_tree-hold}
use Rattle.lens_steps.specs.Kinds.{is_of_kind}
use Rattle.lens_steps.proofs.KindRows.{held_row}
use Rattle.lens_steps.proofs.kinds.held_as.Goals as goal

pub returns-then-is_of_kind : goal.returns-then-is_of_kind
returns-then-is_of_kind c =
    let tree : comp_tree c.args.comp.now ≡ hold_comp c.in-Hold.shape (comps_tree c.in-Hold.comps) = comp_tree-hold _ _ _ c.in-Hold.is in
    let kind : is_of_kind c.args.kind c.in-Hold.shape ≡ true = search rules in
    λ l side p. held_row c.args.kind c.in-Hold.shape (comps_tree c.in-Hold.comps) (comp_tree c.args.comp.now) l side p kind tree
