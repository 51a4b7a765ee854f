-- The two sides of a form. Of two things that belong to the left and to the right, which is that of a side.
use Rattle.std.specs.Prelude.{ℕ, List}
use Rattle.texts.specs.declared.side.Side.{Side}
use Rattle.texts.specs.declared.side.Side.TheVariants.{Left, Right}
use Rattle.doc_values.specs.Types.{TyTree, FieldTrees}
use Rattle.lens_forms.specs.Forms.{FormTree, RowTrees, left_type, right_type, left_fields, right_fields}
use Rattle.lens_forms.specs.Typing.{left_names, right_names}

-- of two things, that of the edited side and that of the other side
abbrev pub near : {A : Type 0} → Side → A → A → A
near Left a b = a
near Right a b = b

abbrev pub far : {A : Type 0} → Side → A → A → A
far Left a b = b
far Right a b = a

-- the type of a side
abbrev pub type_on : Side → FormTree → TyTree
type_on Left form = left_type form
type_on Right form = right_type form

-- the names of the rows of a record on a side, and the fields of the side
abbrev pub names_on : Side → RowTrees → List (List ℕ)
names_on Left rows = left_names rows
names_on Right rows = right_names rows

abbrev pub fields_on : Side → RowTrees → FieldTrees
fields_on Left rows = left_fields rows
fields_on Right rows = right_fields rows
