use Rattle.lens_forms.specs.Forms.{form_id}
use Rattle.program_terms.specs.Views.{type_tree}
use Rattle.lens_types.specs.Earlier.{expanded_type}
use Rattle.lens_types.specs.Entries.{earlier_tree}
use Rattle.lens_types.proofs.lenses.checked_identity.Goals as goal

pub returns : goal.returns
returns c =
    rw c.in_ok-check_type.ensures
    (c.low_sides.ensures (form_id (expanded_type (earlier_tree c.args.earlier.now) (type_tree c.args.ty.now))) (c.type_height-height.ensures, c.type_height-height.ensures))
