-- The programs of the pieces of a program part, with their lenses. Read it from the end: `AreViews`, `IsViewOf`, then
-- `programs_of_pieces`.
use Rattle.std.specs.Prelude.{◌≡◌, ℕ, List, [], ◌∷◌, Option, Some, None, option_map, option_and_then, Result, Ok, Err}
use Rattle.doc_values.specs.Types.{TyTree}
use Rattle.lens_forms.specs.Forms.{FormTree}
use Rattle.lens_syntax.specs.Programs.{ProgramCause, bounded}
use Rattle.program_terms.specs.Terms.{ProgramTree}
use Rattle.hub_run.specs.Lenses.{form_of_view, forms_of}

-- what was read, if it is a program
abbrev pub if_program : Result ProgramTree ProgramCause → Option ProgramTree
if_program (Ok program) = Some program
if_program (Err cause) = None

-- the program of a text of at most 65,536 bytes
abbrev pub program_of_piece : List ℕ → Option ProgramTree
program_of_piece text = if_program (bounded text)

-- the programs of these pieces, if each is one
abbrev pub programs_of_pieces : List (List ℕ) → Option (List ProgramTree)
programs_of_pieces [] = Some []
programs_of_pieces (piece ∷ pieces) =
    option_and_then (λ p. option_map (λ ps. p ∷ ps) (programs_of_pieces pieces)) (program_of_piece piece)

-- This piece is read as the program, and its lens has the form, as the view with this number, whose left type is to be
-- this one, if there is one.
pub record IsViewOf (left : Option TyTree) (number : ℕ) (piece : List ℕ) (program : ProgramTree)
    (form : FormTree) : Type 0 where
  pub read : bounded piece ≡ Ok program
  pub has_lens : form_of_view left number piece ≡ Ok form

-- These pieces are read as the programs, and their lenses have the forms.
pub record AreViews (pieces : List (List ℕ)) (programs : List ProgramTree) (forms : List FormTree) : Type 0 where
  pub read : programs_of_pieces pieces ≡ Some programs
  pub has_lenses : forms_of pieces ≡ Ok forms
