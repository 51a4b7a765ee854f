-- The lens of a program part, or why it is refused. Read it from the end: `IsAccepted`, then `lens_of`.
use Rattle.std.specs.Prelude.{◌≡◌, ℕ, List, Option, Some, None, Result, Ok, Err}
use Rattle.program_terms.specs.Terms.{ProgramTree}
use Rattle.lens_syntax.specs.Programs.{ProgramCause, bounded}
use Rattle.lens_forms.specs.Forms.{FormTree}
use Rattle.lens_types.specs.Checking.{Failure, first_failure}
use Rattle.lens_types.specs.Earlier.{main_form}

-- the text is not a program; the program has no type
pub data Refusal : Type 0 where
  syntax : ProgramCause → Refusal
  typing : Failure → Refusal

-- the main lens with its names expanded, if the program has no failure
abbrev pub form_without_failure : ProgramTree → Option Failure → Result FormTree Refusal
form_without_failure program None = Ok (main_form program)
form_without_failure program (Some failure) = Err (typing failure)

abbrev pub form_of_program : Result ProgramTree ProgramCause → Result FormTree Refusal
form_of_program (Ok program) = form_without_failure program (first_failure program)
form_of_program (Err fault) = Err (syntax fault)

-- the lens of a text
abbrev pub lens_of : List ℕ → Result FormTree Refusal
lens_of text = form_of_program (bounded text)

-- The text is read as the program, and its lens has the form.
pub record IsAccepted (text : List ℕ) (program : ProgramTree) (form : FormTree) : Type 0 where
  pub read : bounded text ≡ Ok program
  pub has_lens : lens_of text ≡ Ok form
