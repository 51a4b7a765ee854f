-- The line of a program part that is refused.
use Rattle.std.specs.Prelude.{◌≡◌, ℕ, List, Result, Err}
use Rattle.lens_forms.specs.Forms.{FormTree}
use Rattle.program_accepted.specs.Program.{Refusal, syntax, typing}
use Rattle.answer_text.specs.Lines.{program_refused_line}
use Rattle.answer_text.specs.Reasons.{syntax_reason, typing_reason}

-- why a program part is refused
abbrev pub reason : Refusal → List ℕ
reason (syntax cause) = syntax_reason cause
reason (typing failure) = typing_reason failure

-- `program refused: REASON`
abbrev pub refused_part_line : Refusal → List ℕ
refused_part_line refusal = program_refused_line (reason refusal)

-- the outcome is a refusal, and this is its line
pub record IsLineOf (outcome : Result FormTree Refusal) (line : List ℕ) : Type 0 where
  pub refusal : Refusal
  pub is : outcome ≡ Err refusal
  pub is_line : line ≡ refused_part_line refusal
