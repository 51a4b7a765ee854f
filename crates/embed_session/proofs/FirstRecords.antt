-- A program that is read is begun as its text is.
use Rattle.std.proofs.Common.{◌≡◌, ℕ, List, Result, Ok, Err, sym, ap, subst, ◌∙◌}
use Rattle.std.specs.Prelude.{MatchResult}
use Rattle.program_accepted.specs.Program.{form_of_program, lens_of}
use Rattle.program_accepted.specs.Refused.{IsProgramRefusal}
use Rattle.program_accepted.specs.declared.program.Refused.{Refused}
use Rattle.lens_forms.specs.Forms.{form_tree}
use Rattle.lens_syntax.specs.Programs.{bounded}
use Rattle.program_terms.specs.Terms.{ProgramTree}
use Rattle.program_writing.specs.Canonical.{canonical}
use Rattle.store_records.specs.RecordJson.{tree_of_program}
use Rattle.embed_session.specs.Records.{IsFirstRecord}
use Rattle.embed_session.specs.States.{IsTextOf}
use Rattle.embed_session.specs.declared.beginning.Begun.{Begun}

pub text_begun : (r : Result Begun Refused) (text : List ℕ) (program : ProgramTree) → bounded text ≡ Ok program
    → MatchResult r (λ b. (form_of_program (Ok program) ≡ Ok (form_tree b.typed)) × IsTextOf (tree_of_program (canonical program)) b.text.items)
    (λ refused. IsProgramRefusal (form_of_program (Ok program)) refused)
    → MatchResult r (λ b. (lens_of text ≡ Ok (form_tree b.typed)) × IsFirstRecord text b.text.items) (λ refused. IsProgramRefusal (lens_of text) refused)
text_begun (Ok b) text program is h = (ap form_of_program is ∙ h.0, record { tree = program; is = is; is_text = h.1 })
text_begun (Err refused) text program is h = subst (λ outcome. IsProgramRefusal outcome refused) (sym (ap form_of_program is)) h
