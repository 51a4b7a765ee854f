-- The fixed program is read from its text, has a type, and is the lens of the fixed form.
use Rattle.std.proofs.Common.{◌≡◌, ℕ, List, [], ◌∷◌, Option, Some, None, Ok, Err, codes, refl, sym, ◌∙◌, ap}
use lib.IntN.{pos}
use Rattle.program_tokens.specs.Words.{is_space, begins_word, in_word, keyword_of, mark_of}
use Rattle.program_tokens.specs.Tokens.{piece_of, tokens_from}
use Rattle.program_grammar.specs.Reading.{arm_at, both_row_at, closed_at, field_at, list_at, mark_lens, more_at, part_at, perhaps_at, rec_at, row_at, then_at, typed_at, mark_at, name_at, number_at, initial_at, type_at, type_step, begun_type, word_type, lens_at, lens_step, begun_lens, word_lens, type_term_at, lens_term_at, definition_at, definitions_at, main_at, end_at, program_at}
use Rattle.program_terms.specs.Terms.{ProgramTree}
use Rattle.lens_syntax.specs.Programs.{bounded, program_fault_cause, IsTextRefusal}
use Rattle.lens_syntax.specs.declared.fault.ProgramFault.{ProgramFault}
use Rattle.lens_syntax.specs.declared.fault.ProgramFault.TheVariants as reading
use Rattle.lens_types.specs.Faults.{IsFaultOf}
use Rattle.lens_types.specs.declared.fault.TypeFault.{TypeFault}
use Rattle.lens_types.specs.declared.fault.TypeFault.TheVariants as typing
use Rattle.lens_types.specs.Checking.{first_failure}
use Rattle.lens_types.specs.Earlier.{main_form}
use Rattle.run_gen.specs.Program.{program_text, program_tree, generated_form}

pub text_is_read : bounded program_text ≡ Ok program_tree
unfolding piece_of tokens_from is_space begins_word in_word keyword_of mark_of mark_at name_at number_at type_at type_step begun_type word_type initial_at lens_at lens_step begun_lens word_lens type_term_at lens_term_at definition_at definitions_at main_at end_at program_at arm_at both_row_at closed_at field_at list_at mark_lens more_at part_at perhaps_at rec_at row_at then_at typed_at
text_is_read = refl

pub accepted : first_failure program_tree ≡ None
accepted = refl

pub accepted_form : main_form program_tree ≡ generated_form
accepted_form = refl

-- what the text is read to
pub read_is : (text : List ℕ) (program : ProgramTree) → text ≡ program_text → bounded text ≡ Ok program → program ≡ program_tree
read_is text program is read = let e = sym read ∙ (ap bounded is ∙ text_is_read) in cc

-- so reading it fails only if memory runs out
pub reading_fault : (text : List ℕ) (fault : ProgramFault) → text ≡ program_text → IsTextRefusal (program_fault_cause fault) (bounded text) → fault ≡ reading.NoMemory
reading_fault text reading.ProgramTooLong is refused = let e = sym refused ∙ (ap bounded is ∙ text_is_read) in cc
reading_fault text (reading.NotAProgram at) is refused = let e = sym refused ∙ (ap bounded is ∙ text_is_read) in cc
reading_fault text (reading.UnknownName at) is refused = let e = sym refused ∙ (ap bounded is ∙ text_is_read) in cc
reading_fault text (reading.RepeatedName at) is refused = let e = sym refused ∙ (ap bounded is ∙ text_is_read) in cc
reading_fault text reading.NoMemory is refused = refl

-- and so does checking it
pub typing_fault : (program : ProgramTree) (fault : TypeFault) → program ≡ program_tree → IsFaultOf (first_failure program) fault → fault ≡ typing.NoMemory
typing_fault program (typing.MiddleDiffers left right) is found = let e = sym found ∙ (ap first_failure is ∙ accepted) in cc
typing_fault program (typing.RepeatedField name) is found = let e = sym found ∙ (ap first_failure is ∙ accepted) in cc
typing_fault program (typing.RepeatedTag name) is found = let e = sym found ∙ (ap first_failure is ∙ accepted) in cc
typing_fault program (typing.RepeatedMember name) is found = let e = sym found ∙ (ap first_failure is ∙ accepted) in cc
typing_fault program (typing.NotAMember name) is found = let e = sym found ∙ (ap first_failure is ∙ accepted) in cc
typing_fault program typing.TooLarge is found = let e = sym found ∙ (ap first_failure is ∙ accepted) in cc
typing_fault program typing.TooDeep is found = let e = sym found ∙ (ap first_failure is ∙ accepted) in cc
typing_fault program typing.NoMemory is found = refl

pub form_is : (program : ProgramTree) → program ≡ program_tree → main_form program ≡ generated_form
form_is program is = ap main_form is ∙ accepted_form
