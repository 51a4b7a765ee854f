-- The program of some tokens, or its cause, worked out on small texts.
use Rattle.std.proofs.Common.{◌≡◌, [], ◌∷◌, Ok, Err, refl}
use Rattle.std.specs.Prelude.{codes}
use lib.IntN.{pos, negsuc}
use Rattle.program_tokens.specs.Numbers.{number_of}
use Rattle.program_tokens.specs.Words.{is_space, begins_word, in_word, keyword_of, mark_of}
use Rattle.program_tokens.specs.Tokens.{tokens_of, tokens_from, piece_of}
use Rattle.program_terms.specs.Terms.{int, named, id_of, rec_lens, no_rows, type_def}
use Rattle.program_grammar.specs.Reading.{mark_at, number_at, initial_at, field_at, name_at, list_at, closed_at, perhaps_at, word_type, begun_type, type_step, type_at, arm_at, then_at, word_lens, rec_at, alt_at, mark_lens, begun_lens, lens_step, lens_at, type_term_at, lens_term_at, definition_at, definitions_at, main_at, end_at, program_at}
use Rattle.program_reader.specs.Causes.{program_of, ended, not_a_program, unknown_name, repeated_name}

-- a main lens alone
main_alone : program_of (tokens_of (codes "main id int")) ≡ Ok (record { definitions = []; main = id_of (int (pos 0)) })
unfolding tokens_from piece_of is_space begins_word in_word keyword_of program_at definitions_at main_at end_at lens_at lens_step begun_lens word_lens type_at type_step begun_type word_type initial_at
main_alone = refl

-- a declared initial value
declared : program_of (tokens_of (codes "main id int = -5")) ≡ Ok (record { definitions = []; main = id_of (int (negsuc 4)) })
unfolding tokens_from piece_of is_space begins_word in_word keyword_of mark_of number_of mark_at number_at program_at definitions_at main_at end_at lens_at lens_step begun_lens word_lens type_at type_step begun_type word_type initial_at
declared = refl

-- a type by its name
type_by_name : program_of (tokens_of (codes "type t = int; main id t")) ≡ Ok (record { definitions = (codes "t", type_def (int (pos 0))) ∷ []; main = id_of (named (codes "t")) })
unfolding tokens_from piece_of is_space begins_word in_word keyword_of mark_of program_at definitions_at definition_at name_at mark_at type_term_at main_at end_at lens_at lens_step begun_lens word_lens type_at type_step begun_type word_type initial_at
type_by_name = refl

-- a record may have no rows
no_rows_there : program_of (tokens_of (codes "main {}")) ≡ Ok (record { definitions = []; main = rec_lens no_rows })
unfolding tokens_from piece_of is_space begins_word in_word keyword_of mark_of program_at definitions_at mark_at main_at end_at lens_at lens_step begun_lens mark_lens rec_at perhaps_at
no_rows_there = refl

-- alternatives have at least one arm
no_arms_there : program_of (tokens_of (codes "main <>")) ≡ Err (not_a_program 6)
unfolding tokens_from piece_of is_space begins_word in_word keyword_of mark_of program_at definitions_at mark_at main_at end_at lens_at lens_step begun_lens mark_lens alt_at closed_at list_at arm_at field_at
no_arms_there = refl

-- a token behind the main lens
one_more : program_of (tokens_of (codes "main id int;")) ≡ Err (not_a_program 11)
unfolding tokens_from piece_of is_space begins_word in_word keyword_of mark_of program_at definitions_at main_at end_at lens_at lens_step begun_lens word_lens type_at type_step begun_type word_type initial_at
one_more = refl

-- the end, where a lens has to come
no_lens : program_of (tokens_of (codes "main")) ≡ Err (not_a_program 4)
unfolding tokens_from piece_of is_space begins_word in_word keyword_of program_at definitions_at main_at lens_at lens_step begun_lens
no_lens = refl

-- no tokens, not even the end
no_tokens : program_of [] ≡ Err ended
unfolding program_at definitions_at main_at
no_tokens = refl

-- a definition is not in scope in its own body
own_name : program_of (tokens_of (codes "type t = list t; main id t")) ≡ Err (unknown_name 14)
unfolding tokens_from piece_of is_space begins_word in_word keyword_of mark_of program_at definitions_at definition_at name_at mark_at type_term_at main_at end_at lens_at lens_step begun_lens word_lens type_at type_step begun_type word_type initial_at
own_name = refl

-- a type is no lens
wrong_sort : program_of (tokens_of (codes "type t = int; main t")) ≡ Err (unknown_name 19)
unfolding tokens_from piece_of is_space begins_word in_word keyword_of mark_of program_at definitions_at definition_at name_at mark_at type_term_at main_at end_at lens_at lens_step begun_lens type_at type_step begun_type word_type initial_at
wrong_sort = refl

-- types and lenses share their names
other_sort : program_of (tokens_of (codes "type t = int; lens t = id u; main t")) ≡ Err (repeated_name 19)
unfolding tokens_from piece_of is_space begins_word in_word keyword_of mark_of program_at definitions_at definition_at name_at mark_at type_term_at lens_term_at main_at end_at lens_at lens_step begun_lens word_lens type_at type_step begun_type word_type initial_at
other_sort = refl

-- an unexpected token comes before a name that is unknown
grammar_first : program_of (tokens_of (codes "main then(l, m")) ≡ Err (not_a_program 14)
unfolding tokens_from piece_of is_space begins_word in_word keyword_of mark_of program_at definitions_at main_at mark_at lens_at lens_step begun_lens word_lens then_at
grammar_first = refl
