-- The two types of small forms, their parts and their heights. The names are "a", "b" and "c".
use Rattle.std.proofs.Common.{◌≡◌, ℕ, true, false, pos, List, [], ◌∷◌, refl}
use Rattle.doc_values.specs.Types.{TyTree, ty_int, ty_text, ty_enum, ty_rec, ty_alt, ty_list, no_fields, more_fields}
use Rattle.lens_forms.specs.Forms.{form_id, form_bij, form_then, form_rec, form_part, form_each, form_inv, no_rows, both, left_type, right_type}
use Rattle.lens_forms.specs.Measures.{form_parts, form_height}
use Rattle.lens_forms.specs.Typing.{is_typed}

abbrev a : List ℕ
a = 97 ∷ []

abbrev b : List ℕ
b = 98 ∷ []

abbrev c : List ℕ
c = 99 ∷ []

abbrev an_int : TyTree
an_int = ty_int (pos 0)

abbrev a_text : TyTree
a_text = ty_text []

-- ---- the two types

-- {b ~ a: id int, a ~ c: id int}: fields are sorted
fields_are_sorted : left_type (form_rec (both b a (form_id an_int) (both a c (form_id a_text) no_rows))) ≡ ty_rec (more_fields a a_text (more_fields b an_int no_fields))
fields_are_sorted = refl

-- inv part <b: text, a: int>: from the record of two lists, sorted, to the list of the alternatives, as written
part_lists : left_type (form_inv (form_part (more_fields b a_text (more_fields a an_int no_fields)))) ≡ ty_rec (more_fields a (ty_list an_int) (more_fields b (ty_list a_text) no_fields))
part_lists = refl

part_tags : right_type (form_inv (form_part (more_fields b a_text (more_fields a an_int no_fields)))) ≡ ty_list (ty_alt (more_fields b a_text (more_fields a an_int no_fields)))
part_tags = refl

-- bij["a"="b", "c"="a"] = "c": the right type has the partner of "c"
left_value : left_type (form_bij ((a, b) ∷ (c, a) ∷ []) c) ≡ ty_enum (a ∷ c ∷ []) c
left_value = refl

right_value : right_type (form_bij ((a, b) ∷ (c, a) ∷ []) c) ≡ ty_enum (b ∷ a ∷ []) a
right_value = refl

-- ---- typing

-- bij["a"="b", "c"="a"] = "b": the value is no left member
right_member_declared : is_typed (form_bij ((a, b) ∷ (c, a) ∷ []) b) ≡ false
right_member_declared = refl

-- then(id int = 5, id int), and with the same value on both sides
values_differ : is_typed (form_then (form_id (ty_int (pos 5))) (form_id an_int)) ≡ false
values_differ = refl

same_value : is_typed (form_then (form_id (ty_int (pos 5))) (form_id (ty_int (pos 5)))) ≡ true
same_value = refl

-- ---- parts and heights

-- {a ~ b: id int}: the record, the row, id and int
four_parts : form_parts (form_rec (both a b (form_id an_int) no_rows)) ≡ 4
four_parts = refl

-- bij["a"="b"] = "a": the bijection and the pair
two_parts : form_parts (form_bij ((a, b) ∷ []) a) ≡ 2
two_parts = refl

two_levels : form_height (form_each (form_id (ty_list an_int))) ≡ 2
two_levels = refl
