-- The laws of a form, in the words of the trait `EditLens`: what a lens of a form that keeps the laws shows of itself.
use Rattle.texts.specs.declared.side.Side.TheVariants.{Left, Right}
use Rattle.lens_forms.specs.Forms.{FormTree, left_type, right_type}
use Rattle.lens_core.specs.Laws.{Laws, TypesAreWellFormed}

pub lens_types : (l : FormTree) → Laws l → TypesAreWellFormed (left_type l) (right_type l)
lens_types l laws = (laws.sound Left, laws.sound Right)
