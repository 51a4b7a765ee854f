use Rattle.edit_session.proofs.StepsCarry.{side_is_well_formed}
use Rattle.edit_session.proofs.session.initial_document.Goals as goal

pub init-requires : goal.init-requires
init-requires g c =
    let lens = c.args.lens.now in
    rw c.ty.ensures (side_is_well_formed (g.L.EditLens.left_type lens) (g.L.EditLens.right_type lens)
    (g.met.L.EditLens.types_are_well_formed lens) c.args.side)
