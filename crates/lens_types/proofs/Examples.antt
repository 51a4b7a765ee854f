-- The definitions on small programs. The names are "a", "b", "c" and "t".
use Rattle.std.proofs.Common.{◌≡◌, ℕ, pos, List, [], ◌∷◌, Some, None, refl}
use Rattle.doc_values.specs.Types.{TyTree, ty_int, ty_text, ty_rec, ty_alt, no_fields, more_fields}
use Rattle.program_terms.specs.Terms as Term
use Rattle.lens_forms.specs.Forms.{form_id, form_each}
use Rattle.lens_types.specs.Earlier.{known_type, expanded_type, main_form}
use Rattle.lens_types.specs.Checking.{middle_differs, repeated_field, repeated_tag, repeated_member, not_a_member, first_failure}

abbrev a : List ℕ
a = 97 ∷ []

abbrev b : List ℕ
b = 98 ∷ []

abbrev c : List ℕ
c = 99 ∷ []

abbrev t : List ℕ
t = 116 ∷ []

-- int and text, without an initial value
abbrev an_int : TyTree
an_int = ty_int (pos 0)

abbrev a_text : TyTree
a_text = ty_text []

abbrev an_int_written : Term.TypeTree
an_int_written = Term.int (pos 0)

abbrev a_text_written : Term.TypeTree
a_text_written = Term.text []

abbrev id_int : Term.LensTree
id_int = Term.id_of an_int_written

abbrev main_alone : Term.LensTree → Term.ProgramTree
main_alone l = record { definitions = []; main = l }

-- <a: text, b: int> and <b: int, a: text>
abbrev a_or_b : Term.TypeTree
a_or_b = Term.one_of (Term.more_fields a a_text_written (Term.more_fields b an_int_written Term.no_fields))

abbrev b_or_a : Term.TypeTree
b_or_a = Term.one_of (Term.more_fields b an_int_written (Term.more_fields a a_text_written Term.no_fields))

-- ---- names expanded

-- the record type {b: t, a: int} with t = text
type_expanded : expanded_type ((t, known_type a_text) ∷ []) (Term.record_of (Term.more_fields b (Term.named t) (Term.more_fields a an_int_written Term.no_fields)))
    ≡ ty_rec (more_fields a an_int (more_fields b a_text no_fields))
type_expanded = refl

-- lens t = id int; main each t
lens_expanded : main_form (record { definitions = (t, Term.lens_def id_int) ∷ []; main = Term.each_of (Term.named_lens t) }) ≡ form_each (form_id an_int)
lens_expanded = refl

-- ---- faults

-- the written order of tags counts, that of fields does not
tags_differ : first_failure (main_alone (Term.then_of (Term.id_of a_or_b) (Term.id_of b_or_a)))
    ≡ Some (middle_differs (ty_alt (more_fields a a_text (more_fields b an_int no_fields))) (ty_alt (more_fields b an_int (more_fields a a_text no_fields))))
tags_differ = refl

-- {a ~ c: id int, b ~ c: id int, b ~ c: id int}: the second c stands before the second b
second_name : first_failure (main_alone (Term.rec_lens (Term.both a c id_int (Term.both b c id_int (Term.both b c id_int Term.no_rows))))) ≡ Some (repeated_field c)
second_name = refl

-- {a ~ b: id int, left b: int}: each name stands once on its side
one_on_each_side : first_failure (main_alone (Term.rec_lens (Term.both a b id_int (Term.only_left b an_int_written Term.no_rows)))) ≡ None
one_on_each_side = refl

-- bij["a"="b", "a"="b"]: the left one comes first
left_first : first_failure (main_alone (Term.bij_of ((a, b) ∷ (a, b) ∷ []) a)) ≡ Some (repeated_member a)
left_first = refl

-- the inner fault comes first: part <c: enum["a", "a"], c: int>
inner_first : first_failure (main_alone (Term.part_of (Term.more_fields c (Term.enum_of (a ∷ a ∷ []) a) (Term.more_fields c an_int_written Term.no_fields)))) ≡ Some (repeated_member a)
inner_first = refl

-- a definition that is not used is checked
unused_checked : first_failure (record { definitions = (t, Term.type_def (Term.one_of (Term.more_fields a an_int_written (Term.more_fields a an_int_written Term.no_fields)))) ∷ []; main = id_int }) ≡ Some (repeated_tag a)
unused_checked = refl

-- id enum["a"] = "b"
no_member : first_failure (main_alone (Term.id_of (Term.enum_of (a ∷ []) b))) ≡ Some (not_a_member b)
no_member = refl

-- bij["a"="b"] = "b": the initial value is a left member
no_left_member : first_failure (main_alone (Term.bij_of ((a, b) ∷ []) b)) ≡ Some (not_a_member b)
no_left_member = refl

-- bij["a"="b", "c"="b"] = "t": the repeated member comes first
repeat_first : first_failure (main_alone (Term.bij_of ((a, b) ∷ (c, b) ∷ []) t)) ≡ Some (repeated_member b)
repeat_first = refl

-- an enum without a member has no initial value
no_members : first_failure (main_alone (Term.id_of (Term.enum_of [] []))) ≡ Some (not_a_member [])
no_members = refl

-- then(id int = 5, id int): initial values count
values_differ : first_failure (main_alone (Term.then_of (Term.id_of (Term.int (pos 5))) id_int)) ≡ Some (middle_differs (ty_int (pos 5)) an_int)
values_differ = refl
