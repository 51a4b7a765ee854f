use Rattle.lens_forms.specs.Forms.{form_disc}
use Rattle.program_terms.specs.Views.{type_tree}
use Rattle.lens_types.specs.Earlier.{expanded_type}
use Rattle.lens_types.specs.Entries.{earlier_tree}
use Rattle.lens_types.proofs.lenses.checked_disc.Goals as goal

pub returns : goal.returns
returns c =
    let ds = earlier_tree c.args.earlier.now in
    rw (c.in_ok-check_type.ensures, c.in_ok-check_type-2.ensures)
    (c.low_sides.ensures (form_disc (expanded_type ds (type_tree c.args.left.now)) (expanded_type ds (type_tree c.args.right.now))) (c.type_height.ensures, c.type_height-2.ensures))
