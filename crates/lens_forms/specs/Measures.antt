-- How large and how high types and forms are, all names put in.
-- In order: how many parts a type and a form have, how high a form is, and its longest list; the two bounds stand at
-- the end.
use Rattle.std.specs.Prelude.{ℕ, ◌+◌, length, max}
use Rattle.doc_values.specs.Types.{TyTree, ty_unit, ty_bool, ty_int, ty_text, ty_enum, ty_rec, ty_alt, ty_list}
use Rattle.doc_values.specs.Types.{ty_keyed, ty_ordered, FieldTrees, no_fields, more_fields, names_of}
use Rattle.lens_forms.specs.Forms.{FormTree, form_id, form_bij, form_disc, form_then, form_rec, form_alt, form_each}
use Rattle.lens_forms.specs.Forms.{form_keyed, form_ordered, form_part, form_inv, RowTrees, no_rows, both, only_left}
use Rattle.lens_forms.specs.Forms.{only_right, form_row_list, ArmTrees, no_arms, more_arms, form_arm_list}

-- the counted parts of a type: one for each constructor, and one for each field, tag and member; initial values add
-- nothing
abbrev mutual
  pub type_parts : TyTree → ℕ
  type_parts ty_unit = 1
  type_parts ty_bool = 1
  type_parts (ty_int z) = 1
  type_parts (ty_text s) = 1
  type_parts (ty_enum ms n) = length ms + 1
  type_parts (ty_rec fs) = fields_parts fs + 1
  type_parts (ty_alt fs) = fields_parts fs + 1
  type_parts (ty_list t) = type_parts t + 1
  type_parts (ty_keyed t) = type_parts t + 1
  type_parts (ty_ordered t) = type_parts t + 1

  pub fields_parts : FieldTrees → ℕ
  fields_parts no_fields = 0
  fields_parts (more_fields n t fs) = type_parts t + 1 + fields_parts fs

-- the counted parts of a form: one for each constructor of a form or a type, and one for each pair, row, arm, field,
-- tag and member; the two names of a pair, a row or an arm add nothing, nor do initial values
abbrev mutual
  pub form_parts : FormTree → ℕ
  form_parts (form_id t) = type_parts t + 1
  form_parts (form_bij ps n) = length ps + 1
  form_parts (form_disc t u) = type_parts t + type_parts u + 1
  form_parts (form_then l k) = form_parts l + form_parts k + 1
  form_parts (form_rec rows) = rows_parts rows + 1
  form_parts (form_alt arms) = arms_parts arms + 1
  form_parts (form_each l) = form_parts l + 1
  form_parts (form_keyed l) = form_parts l + 1
  form_parts (form_ordered l) = form_parts l + 1
  form_parts (form_part fs) = fields_parts fs + 1
  form_parts (form_inv l) = form_parts l + 1

  pub rows_parts : RowTrees → ℕ
  rows_parts no_rows = 0
  rows_parts (both a b l rows) = form_parts l + 1 + rows_parts rows
  rows_parts (only_left a t rows) = type_parts t + 1 + rows_parts rows
  rows_parts (only_right b t rows) = type_parts t + 1 + rows_parts rows

  pub arms_parts : ArmTrees → ℕ
  arms_parts no_arms = 0
  arms_parts (more_arms a b l arms) = form_parts l + 1 + arms_parts arms

-- the height of a form: a form without forms inside has height 1, any other has 1 more than its highest form inside
abbrev mutual
  pub form_height : FormTree → ℕ
  form_height (form_id t) = 1
  form_height (form_bij ps n) = 1
  form_height (form_disc t u) = 1
  form_height (form_then l k) = max (form_height l) (form_height k) + 1
  form_height (form_rec rows) = highest_row rows + 1
  form_height (form_alt arms) = highest_arm arms + 1
  form_height (form_each l) = form_height l + 1
  form_height (form_keyed l) = form_height l + 1
  form_height (form_ordered l) = form_height l + 1
  form_height (form_part fs) = 1
  form_height (form_inv l) = form_height l + 1

  pub highest_row : RowTrees → ℕ
  highest_row no_rows = 0
  highest_row (both a b l rows) = max (form_height l) (highest_row rows)
  highest_row (only_left a t rows) = highest_row rows
  highest_row (only_right b t rows) = highest_row rows

  pub highest_arm : ArmTrees → ℕ
  highest_arm no_arms = 0
  highest_arm (more_arms a b l arms) = max (form_height l) (highest_arm arms)

-- the length of the longest list in a type: of members, of fields or of tags
abbrev mutual
  pub longest_in_type : TyTree → ℕ
  longest_in_type ty_unit = 0
  longest_in_type ty_bool = 0
  longest_in_type (ty_int z) = 0
  longest_in_type (ty_text s) = 0
  longest_in_type (ty_enum ms n) = length ms
  longest_in_type (ty_rec fs) = max (length (names_of fs)) (longest_in_fields fs)
  longest_in_type (ty_alt fs) = max (length (names_of fs)) (longest_in_fields fs)
  longest_in_type (ty_list t) = longest_in_type t
  longest_in_type (ty_keyed t) = longest_in_type t
  longest_in_type (ty_ordered t) = longest_in_type t

  pub longest_in_fields : FieldTrees → ℕ
  longest_in_fields no_fields = 0
  longest_in_fields (more_fields n t fs) = max (longest_in_type t) (longest_in_fields fs)

-- the length of the longest list in a form: of pairs, of rows, of arms or of tags, or of a list in a type of the form
abbrev mutual
  pub longest_list : FormTree → ℕ
  longest_list (form_id t) = longest_in_type t
  longest_list (form_bij ps n) = length ps
  longest_list (form_disc t u) = max (longest_in_type t) (longest_in_type u)
  longest_list (form_then l k) = max (longest_list l) (longest_list k)
  longest_list (form_rec rows) = max (length (form_row_list rows)) (longest_in_rows rows)
  longest_list (form_alt arms) = max (length (form_arm_list arms)) (longest_in_arms arms)
  longest_list (form_each l) = longest_list l
  longest_list (form_keyed l) = longest_list l
  longest_list (form_ordered l) = longest_list l
  longest_list (form_part fs) = max (length (names_of fs)) (longest_in_fields fs)
  longest_list (form_inv l) = longest_list l

  pub longest_in_rows : RowTrees → ℕ
  longest_in_rows no_rows = 0
  longest_in_rows (both a b l rows) = max (longest_list l) (longest_in_rows rows)
  longest_in_rows (only_left a t rows) = max (longest_in_type t) (longest_in_rows rows)
  longest_in_rows (only_right b t rows) = max (longest_in_type t) (longest_in_rows rows)

  pub longest_in_arms : ArmTrees → ℕ
  longest_in_arms no_arms = 0
  longest_in_arms (more_arms a b l arms) = max (longest_list l) (longest_in_arms arms)
