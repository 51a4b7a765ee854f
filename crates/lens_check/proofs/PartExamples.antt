-- Lists by tags, tried by computation on worked examples.
use Rattle.std.proofs.Common.{◌≡◌, refl, [], ◌∷◌, Some, None}
use Rattle.std.specs.Prelude.{codes, pos, ℕ, List}
use Rattle.doc_values.specs.Types.{FieldTrees, ty_int, ty_text, no_fields, more_fields}
use Rattle.law_images.specs.Patterns.{hole, int_pattern, rec_pattern, alt_pattern, PatternTree, no_patterns, more_patterns}
use Rattle.lens_check.specs.PartLists.{place_of, field_pattern, with_content, lists_by_tag, list_at_tag, list_of, tag_lists, item_at}

-- part <p: text, o: int>, with an item p between two items o
abbrev tags : FieldTrees
tags = more_fields (codes "p") (ty_text []) (more_fields (codes "o") (ty_int (pos 0)) no_fields)

abbrev numbers : List ℕ
numbers = 1 ∷ 0 ∷ 1 ∷ []

abbrev three : PatternTree
three = int_pattern (pos 3)

abbrev four : PatternTree
four = int_pattern (pos 4)

-- from the left
by_tag : lists_by_tag 2 numbers (more_patterns three (more_patterns hole (more_patterns four no_patterns))) ≡ (hole ∷ []) ∷ (three ∷ four ∷ []) ∷ []
by_tag = refl

one_more : with_content 1 four ((hole ∷ []) ∷ (three ∷ []) ∷ []) ≡ (hole ∷ []) ∷ (three ∷ four ∷ []) ∷ []
one_more = refl

at_second : list_at_tag tags ((hole ∷ []) ∷ (three ∷ four ∷ []) ∷ []) (codes "o") ≡ list_of (three ∷ four ∷ [])
at_second = refl

-- from the right
last_item : item_at tags numbers (more_patterns hole no_patterns ∷ more_patterns three (more_patterns four no_patterns) ∷ []) 2 ≡ alt_pattern (codes "o") four
last_item = refl

middle_item : item_at tags numbers (more_patterns hole no_patterns ∷ more_patterns three (more_patterns four no_patterns) ∷ []) 1 ≡ alt_pattern (codes "p") hole
middle_item = refl

-- a record whose list has too few items
too_short : tag_lists tags 0 numbers (field_pattern (codes "o" ∷ codes "p" ∷ []) (rec_pattern (more_patterns (list_of (three ∷ [])) (more_patterns hole no_patterns)))) ≡ None
too_short = refl

-- holes have as many holes as there are items
of_hole : tag_lists tags 0 numbers (field_pattern (codes "o" ∷ codes "p" ∷ []) hole) ≡ Some (more_patterns hole no_patterns ∷ more_patterns hole (more_patterns hole no_patterns) ∷ [])
of_hole = refl

second_name : place_of (codes "p") (codes "o" ∷ codes "p" ∷ []) ≡ 1
second_name = refl

no_name : place_of (codes "q") (codes "o" ∷ codes "p" ∷ []) ≡ 2
no_name = refl
