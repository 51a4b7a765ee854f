use Rattle.std.proofs.Common.{refl, ◌∙◌}
use Rattle.edit_inverse.proofs.Regrown.{unhung-made}
use Rattle.edit_inverse.proofs.old_shapes.unhung.Goals as goal

pub returns : goal.returns
returns c =
    c.from_vec.ensures
    ∙ unhung-made c.new-out.result.items c.push_shape.new.out.items c.push_shape-2.new.out.items c.in_ok-child.child c.in_ok-parent.parent c.in_ok-parent-2.parent c.args.part.now c.args.below.now c.args.number c.args.last _
    c.new-out.ensures.items c.in_ok-push_shape.ensures c.in_ok-push_shape-2.ensures c.in_ok-child.ensures c.in_ok-parent.ensures c.in_ok-parent-2.ensures refl
