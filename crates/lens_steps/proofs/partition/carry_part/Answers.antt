use Rattle.std.proofs.Common.{◌≡◌}
use Rattle.lens_core.specs.Complements.{comp_tree, tags_comp}
use Rattle.lens_steps.proofs.PartRows.{tags_tree}
use Rattle.lens_steps.proofs.partition.carry_part.Goals as goal

pub returns-in-Left : goal.returns-in-Left
returns-in-Left c =
    let tree : comp_tree c.args.comp.now ≡ tags_comp c.in-Tags.numbers = tags_tree _ _ c.in-Tags.is in
    rw (tree, c.in-Left.is) c.part_left.ensures

pub returns-in-Right : goal.returns-in-Right
returns-in-Right c =
    let tree : comp_tree c.args.comp.now ≡ tags_comp c.in-Tags.numbers = tags_tree _ _ c.in-Tags.is in
    rw (tree, c.in-Right.is) c.part_right.ensures
