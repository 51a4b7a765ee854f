-- What a script says to a command that makes a store: what its program part means, or why that is refused.
use Rattle.std.specs.Prelude.{◌≡◌, ℕ, List, Result, Ok, Err, true}
use Rattle.program_accepted.specs.Program.{Refusal, lens_of}
use Rattle.answer_text.specs.RefusalLines.{refused_part_line}
use Rattle.lens_forms.specs.Forms.{FormTree}
use Rattle.lens_io.specs.declared.source.Source as OfSource
use Rattle.script_input.specs.Coming.{has_separator, IsWhole}
use Rattle.script_input.specs.Lines.{program_part}
use Rattle.store_new.specs.Command.{PartMeaning}

-- a program part that is one program: its lens, or the refusal of the program
abbrev pub one_program : PartMeaning
one_program = record { Accepted = FormTree; Refusal = Refusal; accepted = lens_of; refusal_line = refused_part_line }

module _ (part : PartMeaning) where
  -- the program part of these bytes is accepted
  abbrev pub IsAcceptedPart : List ℕ → Type 0
  IsAcceptedPart bytes = (program : part.Accepted) × (part.accepted (program_part bytes) ≡ Ok program)

  -- if the separator has come, the program part is accepted
  abbrev pub PartGoesOn : List ℕ → Type 0
  PartGoesOn bytes = has_separator bytes ≡ true → IsAcceptedPart bytes

  -- the outcome of a program part is a refusal, and this is its line
  pub record IsLineBy (outcome : Result part.Accepted part.Refusal) (line : List ℕ) : Type 0 where
    pub refusal : part.Refusal
    pub is : outcome ≡ Err refusal
    pub is_line : line ≡ part.refusal_line refusal

  -- the program part of these bytes is whole and refused, and this is the line of that refusal
  pub record RefusesPartWith {S : Type 0} (source : OfSource.Ghosts S) (old new : S) (bytes line : List ℕ)
      : Type 0 where
    pub whole : IsWhole source old new bytes
    pub refused : IsLineBy (part.accepted (program_part bytes)) line
