-- Small texts, what is read from them, and how it is spelled.
use Rattle.std.proofs.Common.{◌≡◌, ℕ, List, [], ◌∷◌, Option, Some, Result, Ok, Err, refl}
use Rattle.std.specs.Prelude.{codes}
use Rattle.std.specs.Str.{is_utf8, chars}
use lib.IntN.{pos, negsuc}
use lib.Utf8.{encode}
use Rattle.program_tokens.specs.Numbers.{number_of}
use Rattle.program_tokens.specs.Words.{is_space, begins_word, in_word, keyword_of, mark_of, in_text, is_text}
use Rattle.program_tokens.specs.Tokens.{tokens_of, tokens_from, piece_of, placed}
use Rattle.program_tokens.specs.declared.token.Token.TheVariants as tokens
use Rattle.program_terms.specs.Terms.{TypeTree, int, bool, enum_of, record_of, list, named, term_fields_of, LensTree, id_of, bij_of, disc_of, rec_lens, named_lens, row_both, row_left, term_rows_of, type_def, lens_def}
use Rattle.program_grammar.specs.declared.mention.Sort.TheVariants as sorts
use Rattle.program_grammar.specs.Mentions.{mention, NotedProgram}
use Rattle.program_grammar.specs.Reading.{Read, more_at, mark_at, string_at, number_at, field_at, list_at, closed_at, perhaps_at, initial_at, typed_at, enum_at, record_at, one_of_at, word_type, mark_type, begun_type, type_step, type_at, pair_at, bij_at, arm_at, left_row_at, both_row_at, row_at, disc_at, rec_at, word_lens, mark_lens, begun_lens, lens_step, lens_at, name_at, type_term_at, lens_term_at, definition_at, definitions_at, main_at, end_at, program_at}
use Rattle.program_grammar.specs.Spelling.{IsType}

-- the program of a text, a type that it begins with, and a lens that it begins with
abbrev program_in : List ℕ → Result NotedProgram (Option ℕ)
program_in text = program_at (tokens_of text)

abbrev type_in : ℕ → List ℕ → Read TypeTree
type_in room text = type_at room ([], tokens_of text)

abbrev lens_in : ℕ → List ℕ → Read LensTree
lens_in room text = lens_at room ([], tokens_of text)

-- the shortest programs have a main lens alone
main_alone : program_in (codes "main id int") ≡ Ok (record { definitions = []; main = id_of (int (pos 0)); mentions = [] })
unfolding tokens_from piece_of is_space begins_word in_word keyword_of program_at definitions_at main_at end_at lens_at lens_step
    begun_lens word_lens type_at type_step begun_type word_type initial_at
main_alone = refl

-- each definition has the names that it mentions, and the main lens has its own, each where it is written
two_definitions : program_in (codes "type a=list int;lens b=id a;main b")
    ≡ Ok (record {
      definitions =
          record { name = codes "a"; at = 5; def = type_def (list (int (pos 0))); mentions = [] }
          ∷ record { name = codes "b"; at = 21; def = lens_def (id_of (named (codes "a"))); mentions = mention sorts.Type (codes "a") 26 ∷ [] }
          ∷ [];
      main = named_lens (codes "b");
      mentions = mention sorts.Lens (codes "b") 33 ∷ [];
    })
unfolding tokens_from piece_of is_space begins_word in_word keyword_of mark_of program_at definitions_at definition_at name_at
    mark_at type_term_at lens_term_at main_at end_at lens_at lens_step begun_lens word_lens type_at type_step begun_type word_type initial_at
two_definitions = refl

-- names are mentioned in written order, as often as they are written
mentions_in_order : lens_in 2 (codes "disc b a")
    ≡ Ok (disc_of (named (codes "b")) (named (codes "a")), (mention sorts.Type (codes "b") 5 ∷ mention sorts.Type (codes "a") 7 ∷ [], placed tokens.End 8 ∷ []))
unfolding tokens_from piece_of is_space begins_word in_word keyword_of lens_at lens_step begun_lens word_lens disc_at type_at
    type_step begun_type
mentions_in_order = refl

-- a field is a name or a string; no comma stands behind the last
two_fields : type_in 2 (codes "{x:int,\"y\":bool}") ≡ Ok (record_of (term_fields_of ((codes "x", int (pos 0)) ∷ (codes "y", bool) ∷ [])), ([], placed tokens.End 16 ∷ []))
unfolding tokens_from piece_of is_space begins_word in_word keyword_of mark_of is_text in_text is_utf8 chars encode type_at
    type_step begun_type mark_type word_type record_at perhaps_at closed_at list_at more_at typed_at field_at mark_at initial_at
two_fields = refl

last_comma : type_in 2 (codes "{x:int,}") ≡ Err (Some 7)
unfolding tokens_from piece_of is_space begins_word in_word keyword_of mark_of type_at type_step begun_type mark_type word_type
    record_at perhaps_at closed_at list_at more_at typed_at field_at mark_at initial_at
last_comma = refl

-- a record may have no fields, and alternatives may not
no_fields : type_in 1 (codes "{}") ≡ Ok (record_of (term_fields_of []), ([], placed tokens.End 2 ∷ []))
unfolding tokens_from piece_of is_space begins_word mark_of type_at type_step begun_type mark_type record_at perhaps_at mark_at
no_fields = refl

no_alternatives : type_in 2 (codes "<>") ≡ Err (Some 1)
unfolding tokens_from piece_of is_space begins_word mark_of type_at type_step begun_type mark_type one_of_at closed_at list_at
    typed_at field_at
no_alternatives = refl

-- rows are paired, or stand on one side; a type inside a lens inside another takes room for three
too_deep : lens_in 2 (codes "{a~b:id int,left c:int}") ≡ Err (Some 8)
unfolding tokens_from piece_of is_space begins_word in_word keyword_of mark_of lens_at lens_step begun_lens mark_lens word_lens
    rec_at perhaps_at closed_at list_at more_at row_at both_row_at left_row_at arm_at typed_at field_at mark_at type_at type_step
    begun_type word_type initial_at
too_deep = refl

two_rows : lens_in 3 (codes "{a~b:id int,left c:int}")
    ≡ Ok (rec_lens (term_rows_of (row_both (codes "a") (codes "b") (id_of (int (pos 0))) ∷ row_left (codes "c") (int (pos 0)) ∷ [])), ([], placed tokens.End 23 ∷ []))
unfolding tokens_from piece_of is_space begins_word in_word keyword_of mark_of lens_at lens_step begun_lens mark_lens word_lens
    rec_at perhaps_at closed_at list_at more_at row_at both_row_at left_row_at arm_at typed_at field_at mark_at type_at type_step
    begun_type word_type initial_at
two_rows = refl

-- pairs of strings
a_pair : lens_in 1 (codes "bij[\"a\"=\"b\"]") ≡ Ok (bij_of ((codes "a", codes "b") ∷ []) (codes "a"), ([], placed tokens.End 12 ∷ []))
unfolding tokens_from piece_of is_space begins_word in_word keyword_of mark_of is_text in_text is_utf8 chars encode lens_at
    lens_step begun_lens word_lens bij_at closed_at list_at more_at pair_at string_at mark_at initial_at
a_pair = refl

-- an initial value stands behind `=`; one that is left out is 0, the empty text, the first member or the first left string
a_number : type_in 1 (codes "int=-5") ≡ Ok (int (negsuc 4), ([], placed tokens.End 6 ∷ []))
unfolding tokens_from piece_of is_space begins_word in_word keyword_of mark_of number_of type_at type_step begun_type word_type
    initial_at number_at mark_at
a_number = refl

a_member : type_in 1 (codes "enum[\"a\",\"b\"]=\"b\"") ≡ Ok (enum_of (codes "a" ∷ codes "b" ∷ []) (codes "b"), ([], placed tokens.End 17 ∷ []))
unfolding tokens_from piece_of is_space begins_word in_word keyword_of mark_of is_text in_text is_utf8 chars encode type_at
    type_step begun_type word_type enum_at closed_at list_at more_at string_at mark_at initial_at
a_member = refl

first_member : type_in 1 (codes "enum[\"a\",\"b\"]") ≡ Ok (enum_of (codes "a" ∷ codes "b" ∷ []) (codes "a"), ([], placed tokens.End 13 ∷ []))
unfolding tokens_from piece_of is_space begins_word in_word keyword_of mark_of is_text in_text is_utf8 chars encode type_at
    type_step begun_type word_type enum_at closed_at list_at more_at string_at mark_at initial_at
first_member = refl

no_string : type_in 1 (codes "text=5") ≡ Err (Some 5)
unfolding tokens_from piece_of is_space begins_word in_word keyword_of mark_of number_of type_at type_step begun_type word_type
    initial_at string_at mark_at
no_string = refl

-- the end is missed where it comes too soon, and nothing else may come behind the main lens
too_soon : program_in (codes "main id") ≡ Err (Some 7)
unfolding tokens_from piece_of is_space begins_word in_word keyword_of program_at definitions_at main_at lens_at lens_step
    begun_lens word_lens type_at type_step begun_type
too_soon = refl

too_late : program_in (codes "main a main") ≡ Err (Some 7)
unfolding tokens_from piece_of is_space begins_word in_word keyword_of program_at definitions_at main_at end_at lens_at lens_step begun_lens
too_late = refl

-- how a list of a named type is spelled: two tokens, the second of which is mentioned
spelled : IsType 2 (list (named (codes "a"))) ([], tokens_of (codes "list a")) (mention sorts.Type (codes "a") 5 ∷ [], placed tokens.End 6 ∷ [])
unfolding tokens_from piece_of is_space begins_word in_word keyword_of
spelled =
    (([], placed (tokens.Name (codes "a")) 5 ∷ placed tokens.End 6 ∷ []), record { at = 0; names = refl; parts = refl }, record { at = 5; names = refl; parts = refl })
