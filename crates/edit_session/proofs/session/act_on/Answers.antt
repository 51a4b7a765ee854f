use Rattle.edit_session.specs.Views.{triple_tree}
use Rattle.edit_session.proofs.StepsCarry.{side_is_well_formed, side_is_typed}
use Rattle.edit_session.proofs.session.act_on.Goals as goal

pub act-requires-clause-well_formed : goal.act-requires-clause-well_formed
act-requires-clause-well_formed g c =
    let lens = c.args.lens.now in
    rw c.ty.ensures (side_is_well_formed (g.L.EditLens.left_type lens) (g.L.EditLens.right_type lens)
    (g.met.L.EditLens.types_are_well_formed lens) c.args.side)

pub act-requires-clause-typed : goal.act-requires-clause-typed
act-requires-clause-typed g c =
    let lens = c.args.lens.now in
    rw (c.ty.ensures, c.document.ensures) (side_is_typed (g.L.EditLens.holds lens) (g.L.EditLens.left_type lens) (g.L.EditLens.right_type lens)
    (g.met.L.EditLens.consistent_is_typed lens) c.args.side (triple_tree c.args.triple.now) c.requires.consistent)
