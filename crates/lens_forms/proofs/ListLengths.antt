-- No list in a type or in a form is longer than the type or the form has parts.
use Rattle.std.proofs.Common.{◌≤◌, length, arith}
use Rattle.doc_values.specs.Types.{TyTree, ty_unit, ty_bool, ty_int, ty_text, ty_enum, ty_rec, ty_alt, ty_list, ty_keyed, ty_ordered, FieldTrees, no_fields, more_fields, names_of}
use Rattle.lens_forms.specs.Forms.{FormTree, form_id, form_bij, form_disc, form_then, form_rec, form_alt, form_each, form_keyed, form_ordered, form_part, form_inv, RowTrees, no_rows, both, only_left, only_right, form_row_list, ArmTrees, no_arms, more_arms, form_arm_list}
use Rattle.lens_forms.specs.Measures.{type_parts, fields_parts, form_parts, rows_parts, arms_parts, longest_in_type, longest_in_fields, longest_list, longest_in_rows, longest_in_arms}

-- ---- lists of fields, of rows and of arms

fields_within : (fs : FieldTrees) → length (names_of fs) ≤ fields_parts fs
fields_within no_fields = omega arith
fields_within (more_fields n t fs) = omega (arith, fields_within fs)

rows_within : (rows : RowTrees) → length (form_row_list rows) ≤ rows_parts rows
rows_within no_rows = omega arith
rows_within (both a b l rows) = omega (arith, rows_within rows)
rows_within (only_left a t rows) = omega (arith, rows_within rows)
rows_within (only_right b t rows) = omega (arith, rows_within rows)

arms_within : (arms : ArmTrees) → length (form_arm_list arms) ≤ arms_parts arms
arms_within no_arms = omega arith
arms_within (more_arms a b l arms) = omega (arith, arms_within arms)

-- ---- and all lists inside

mutual
  type_longest : (t : TyTree) → longest_in_type t ≤ type_parts t
  type_longest ty_unit = omega arith
  type_longest ty_bool = omega arith
  type_longest (ty_int z) = omega arith
  type_longest (ty_text s) = omega arith
  type_longest (ty_enum ms n) = omega arith
  type_longest (ty_rec fs) = omega (arith, fields_within fs, fields_longest fs)
  type_longest (ty_alt fs) = omega (arith, fields_within fs, fields_longest fs)
  type_longest (ty_list t) = omega (arith, type_longest t)
  type_longest (ty_keyed t) = omega (arith, type_longest t)
  type_longest (ty_ordered t) = omega (arith, type_longest t)

  fields_longest : (fs : FieldTrees) → longest_in_fields fs ≤ fields_parts fs
  fields_longest no_fields = omega arith
  fields_longest (more_fields n t fs) = omega (arith, type_longest t, fields_longest fs)

mutual
  pub form_longest : (f : FormTree) → longest_list f ≤ form_parts f
  form_longest (form_id t) = omega (arith, type_longest t)
  form_longest (form_bij ps n) = omega arith
  form_longest (form_disc t u) = omega (arith, type_longest t, type_longest u)
  form_longest (form_then l k) = omega (arith, form_longest l, form_longest k)
  form_longest (form_rec rows) = omega (arith, rows_within rows, rows_longest rows)
  form_longest (form_alt arms) = omega (arith, arms_within arms, arms_longest arms)
  form_longest (form_each l) = omega (arith, form_longest l)
  form_longest (form_keyed l) = omega (arith, form_longest l)
  form_longest (form_ordered l) = omega (arith, form_longest l)
  form_longest (form_part fs) = omega (arith, fields_within fs, fields_longest fs)
  form_longest (form_inv l) = omega (arith, form_longest l)

  rows_longest : (rows : RowTrees) → longest_in_rows rows ≤ rows_parts rows
  rows_longest no_rows = omega arith
  rows_longest (both a b l rows) = omega (arith, form_longest l, rows_longest rows)
  rows_longest (only_left a t rows) = omega (arith, type_longest t, rows_longest rows)
  rows_longest (only_right b t rows) = omega (arith, type_longest t, rows_longest rows)

  arms_longest : (arms : ArmTrees) → longest_in_arms arms ≤ arms_parts arms
  arms_longest no_arms = omega arith
  arms_longest (more_arms a b l arms) = omega (arith, form_longest l, arms_longest arms)
