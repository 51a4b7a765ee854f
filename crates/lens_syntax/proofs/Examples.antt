-- The definitions, tried on small texts.
use Rattle.std.proofs.Common.{◌≡◌, [], ◌∷◌, Ok, Err, codes, refl}
use lib.IntN.{pos, negsuc}
use Rattle.program_tokens.specs.Numbers.{number_of}
use Rattle.program_tokens.specs.Words.{is_space, begins_word, in_word, keyword_of, mark_of}
use Rattle.program_tokens.specs.Tokens.{piece_of, tokens_from}
use Rattle.program_terms.specs.Terms.{int, named, id_of, type_def}
use Rattle.program_grammar.specs.Reading.{mark_at, name_at, number_at, initial_at, type_at, type_step, begun_type, word_type, lens_at, lens_step, begun_lens, word_lens, type_term_at, lens_term_at, definition_at, definitions_at, main_at, end_at, program_at}
use Rattle.lens_syntax.specs.Programs.{unbounded, not_a_program, unknown_name, repeated_name}

one_lens : unbounded (codes "main id int") ≡ Ok (record { definitions = []; main = id_of (int (pos 0)) })
unfolding piece_of tokens_from is_space begins_word in_word keyword_of mark_of mark_at name_at type_at type_step begun_type word_type initial_at lens_at lens_step begun_lens word_lens type_term_at lens_term_at definition_at definitions_at main_at end_at program_at
one_lens = refl

one_type : unbounded (codes "type t=int;main id t") ≡ Ok (record { definitions = (codes "t", type_def (int (pos 0))) ∷ []; main = id_of (named (codes "t")) })
unfolding piece_of tokens_from is_space begins_word in_word keyword_of mark_of mark_at name_at type_at type_step begun_type word_type initial_at lens_at lens_step begun_lens word_lens type_term_at lens_term_at definition_at definitions_at main_at end_at program_at
one_type = refl

declared : unbounded (codes "main id int=-5") ≡ Ok (record { definitions = []; main = id_of (int (negsuc 4)) })
unfolding piece_of tokens_from is_space begins_word in_word keyword_of mark_of number_of mark_at number_at type_at type_step begun_type word_type initial_at lens_at lens_step begun_lens word_lens definitions_at main_at end_at program_at
declared = refl

unfinished : unbounded (codes "main id") ≡ Err (not_a_program 7)
unfolding piece_of tokens_from is_space begins_word in_word keyword_of mark_of mark_at name_at type_at type_step begun_type word_type initial_at lens_at lens_step begun_lens word_lens type_term_at lens_term_at definition_at definitions_at main_at end_at program_at
unfinished = refl

unknown : unbounded (codes "main id t") ≡ Err (unknown_name 8)
unfolding piece_of tokens_from is_space begins_word in_word keyword_of mark_of mark_at name_at type_at type_step begun_type word_type initial_at lens_at lens_step begun_lens word_lens type_term_at lens_term_at definition_at definitions_at main_at end_at program_at
unknown = refl

repeated : unbounded (codes "type t=int;type t=u;main id t") ≡ Err (repeated_name 16)
unfolding piece_of tokens_from is_space begins_word in_word keyword_of mark_of mark_at name_at type_at type_step begun_type word_type initial_at lens_at lens_step begun_lens word_lens type_term_at lens_term_at definition_at definitions_at main_at end_at program_at
repeated = refl
