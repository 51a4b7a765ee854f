-- A text is accepted if and only if it is a program that is acceptable.
use Rattle.std.proofs.Common.{◌≡◌, ℕ, Bool, true, false, List, length, Option, None, Some, Result, Ok, Err, refl, ap, sym, ◌∙◌}
use Rattle.std.specs.Prelude.{nat_le, if◌then◌else◌}
use Rattle.program_terms.specs.Terms.{ProgramTree}
use Rattle.lens_syntax.specs.Programs.{ProgramCause, too_long, unbounded, bounded}
use Rattle.lens_syntax.proofs.GrammarAnswers.{tells, tells_only}
use Rattle.lens_syntax.specs.declared.reading.TheConstants.{MOST_PROGRAM_BYTES}
use Rattle.lens_forms.specs.Forms.{FormTree}
use Rattle.lens_types.specs.Checking.{Failure, first_failure}
use Rattle.lens_types.specs.Earlier.{main_form}
use Rattle.program_accepted.specs.Program.{Refusal, form_without_failure, form_of_program, lens_of}
use Rattle.law_acceptance.specs.Acceptable.{IsAcceptedAs}
use Rattle.law_acceptance.proofs.NoFailure.{only_acceptable, all_acceptable}
use Rattle.std.proofs.lemmas.Bool.{leb-true, le-leb}

-- ---- what is accepted

-- a program with a form, in the words of the results that compute
record HasForm (text : List ℕ) (form : FormTree) : Type 0 where
  program : ProgramTree
  read : bounded text ≡ Ok program
  faultless : first_failure program ≡ None
  is_main : form ≡ main_form program

by_failure : (text : List ℕ) (program : ProgramTree) (o : Option Failure) (form : FormTree) → bounded text ≡ Ok program → first_failure program ≡ o
    → form_without_failure program o ≡ Ok form → HasForm text form
by_failure text program None form read is h = let same : form ≡ main_form program = cc in record { program = program; read = read; faultless = is; is_main = same }
by_failure text program (Some failure) form read is h = cc

by_result : (text : List ℕ) (r : Result ProgramTree ProgramCause) (form : FormTree) → bounded text ≡ r → form_of_program r ≡ Ok form → HasForm text form
by_result text (Ok program) form read h = by_failure text program (first_failure program) form read refl h
by_result text (Err cause) form read h = cc

-- a program that was read is that of a text leb-true the limit
short_part : (b : Bool) (r : Result ProgramTree ProgramCause) (program : ProgramTree) → (if b then r else Err too_long) ≡ Ok program → (b ≡ true) × (r ≡ Ok program)
short_part true r program h = (refl, h)
short_part false r program h = cc

pub only_typed : (text : List ℕ) (form : FormTree) → lens_of text ≡ Ok form → IsAcceptedAs text form
only_typed text form h =
    let has = by_result text (bounded text) form refl h in
    let read = short_part (nat_le (length text) MOST_PROGRAM_BYTES) (unbounded text) has.program has.read in
    record {
      program = has.program;
      short = leb-true (length text) MOST_PROGRAM_BYTES read.0;
      is_program = tells text (Ok has.program) read.1;
      acceptable = only_acceptable has.program has.faultless;
      is_main = has.is_main;
    }

-- ---- what is acceptable

pub all_typed : (text : List ℕ) (form : FormTree) → IsAcceptedAs text form → lens_of text ≡ Ok form
all_typed text form a =
    let program = a.program in
    let short : nat_le (length text) MOST_PROGRAM_BYTES ≡ true = le-leb (length text) MOST_PROGRAM_BYTES a.short in
    let read : bounded text ≡ Ok program =
    ap (λ b. if b then unbounded text else Err too_long) short ∙ tells_only text (Ok program) a.is_program in
    ap form_of_program read ∙ ap (form_without_failure program) (all_acceptable program a.acceptable) ∙ ap Ok (sym a.is_main)

pub refused : (text : List ℕ) (refusal : Refusal) → lens_of text ≡ Err refusal → (form : FormTree) → IsAcceptedAs text form → ⊥
refused text refusal h form a = let bad = sym h ∙ all_typed text form a in cc
