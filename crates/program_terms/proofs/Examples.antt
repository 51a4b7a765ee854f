-- The definitions on worked examples. Names are bytes: a is 97, b 98, f 102, t 116.
use Rattle.std.proofs.Common.{◌≡◌, true, false, [], ◌∷◌, Some, None, refl}
use lib.IntN.{pos}
use Rattle.program_terms.specs.Terms.{unit, int, text, list, named, no_fields, more_fields, term_fields_of, type_field_list, id_of, each_of, rec_lens, named_lens, no_rows, both, only_left, only_right, row_both, row_left, row_right, with_row, term_rows_of, row_list, no_arms, more_arms, term_arms_of, arm_list, type_def, lens_def, def_named, is_defined, are_defined_once}

-- ---- lists of parts, there and back

-- a: int, b: list text
fields_in_order : term_fields_of ((97 ∷ [], int (pos 0)) ∷ (98 ∷ [], list (text [])) ∷ []) ≡ more_fields (97 ∷ []) (int (pos 0)) (more_fields (98 ∷ []) (list (text [])) no_fields)
fields_in_order = refl

fields_back : type_field_list (more_fields (97 ∷ []) (int (pos 0)) (more_fields (97 ∷ []) (text []) no_fields)) ≡ (97 ∷ [], int (pos 0)) ∷ (97 ∷ [], text []) ∷ []
fields_back = refl

-- left f: unit, before a ~ b: id int
row_in_front : with_row (row_left (102 ∷ []) unit) (both (97 ∷ []) (98 ∷ []) (id_of (int (pos 0))) no_rows) ≡ only_left (102 ∷ []) unit (both (97 ∷ []) (98 ∷ []) (id_of (int (pos 0))) no_rows)
row_in_front = refl

-- a ~ b: id int, right f: unit
rows_in_order : term_rows_of (row_both (97 ∷ []) (98 ∷ []) (id_of (int (pos 0))) ∷ row_right (102 ∷ []) unit ∷ []) ≡ both (97 ∷ []) (98 ∷ []) (id_of (int (pos 0))) (only_right (102 ∷ []) unit no_rows)
rows_in_order = refl

rows_back : row_list (only_right (102 ∷ []) unit (both (97 ∷ []) (98 ∷ []) (each_of (id_of (int (pos 0)))) no_rows)) ≡ row_right (102 ∷ []) unit ∷ row_both (97 ∷ []) (98 ∷ []) (each_of (id_of (int (pos 0)))) ∷ []
rows_back = refl

-- a ~ b: t
arms_in_order : term_arms_of ((97 ∷ [], 98 ∷ [], named_lens (116 ∷ [])) ∷ []) ≡ more_arms (97 ∷ []) (98 ∷ []) (named_lens (116 ∷ [])) no_arms
arms_in_order = refl

arms_back : arm_list (more_arms (97 ∷ []) (98 ∷ []) (rec_lens no_rows) no_arms) ≡ (97 ∷ [], 98 ∷ [], rec_lens no_rows) ∷ []
arms_back = refl

-- ---- definitions: type a = int; lens b = id a;

found_as_type : def_named (97 ∷ []) ((97 ∷ [], type_def (int (pos 0))) ∷ (98 ∷ [], lens_def (id_of (named (97 ∷ [])))) ∷ []) ≡ Some (type_def (int (pos 0)))
found_as_type = refl

found_as_lens : def_named (98 ∷ []) ((97 ∷ [], type_def (int (pos 0))) ∷ (98 ∷ [], lens_def (id_of (named (97 ∷ [])))) ∷ []) ≡ Some (lens_def (id_of (named (97 ∷ []))))
found_as_lens = refl

-- the first one with the name
first_found : def_named (97 ∷ []) ((97 ∷ [], type_def (int (pos 0))) ∷ (97 ∷ [], type_def (text [])) ∷ []) ≡ Some (type_def (int (pos 0)))
first_found = refl

none_found : def_named (97 ∷ 98 ∷ []) ((97 ∷ [], type_def (int (pos 0))) ∷ (98 ∷ [], type_def (text [])) ∷ []) ≡ None
none_found = refl

not_defined : is_defined (116 ∷ []) ((97 ∷ [], type_def (int (pos 0))) ∷ []) ≡ false
not_defined = refl

distinct : are_defined_once ((97 ∷ [], type_def (int (pos 0))) ∷ (98 ∷ [], type_def (int (pos 0))) ∷ []) ≡ true
distinct = refl

-- a name is not defined both as a type and as a lens
not_distinct : are_defined_once ((97 ∷ [], type_def (int (pos 0))) ∷ (98 ∷ [], type_def (int (pos 0))) ∷ (97 ∷ [], lens_def (id_of (int (pos 0)))) ∷ []) ≡ false
not_distinct = refl
