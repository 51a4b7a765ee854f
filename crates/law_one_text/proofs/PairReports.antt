-- The report of `run` is the text of a run of the library, or the line of a refusal.
use Rattle.std.proofs.Common.{◌≡◌, ◌⊎◌, inl, inr, ℕ, List, ◌++◌, Bool, true, false, map, Option, None, Some, option_map, Result, Ok, Err, refl, sym, ap, ap₂, ◌∙◌}
use Rattle.program_accepted.specs.Program.{Refusal, lens_of}
use Rattle.command_ends.specs.Statuses.{IsFinished, status_at_end}
use Rattle.command_ends.specs.declared.status.Status.{Status}
use Rattle.command_ends.specs.declared.status.Status.TheVariants.{ProgramRefused}
use Rattle.edit_journal.specs.Lines.{line_of}
use Rattle.edit_journal.specs.declared.line.Line.{Line}
use Rattle.edit_session.specs.Run as items
use Rattle.embed_session.specs.Journals.{IsGiven, IsReported}
use Rattle.embed_session.specs.Embedded.{IsOpened, IsShown, text_of}
use Rattle.embed_session.specs.declared.embedded.EmbeddedSession.{EmbeddedSession}
use Rattle.embed_session.specs.declared.embedded.EmbeddedSession.TheVariants as embedded
use Rattle.embed_session.specs.declared.outcome.Outcome.TheVariants.{Done}
use Rattle.embed_session.specs.declared.outcome.Part.TheVariants.{State}
use Rattle.embed_session.proofs.GivenLines.{is_reported}
use Rattle.lens_forms.specs.Forms.{FormTree}
use Rattle.run_answers.specs.Answers.{text_from}
use Rattle.run_answers.specs.ItemRuns.{triple_at_first, items_of, run_of}
use Rattle.run_pair.specs.Runs.{first_pair, pair_state_text}
use Rattle.run_pair.specs.Scripts.{pair_script}
use Rattle.script_input.specs.Lines.{program_part, journal}
use Rattle.run_scripts.specs.LineRuns.{of_steps}
use Rattle.run_scripts.specs.Report.{report, report_with, with_state}
use Rattle.law_one_text.specs.RunTexts.{IsRunText, IsRefusalText, IsSessionRefused}
use Rattle.law_one_text.specs.WrittenTexts.{IsReportText}
use Rattle.law_one_text.proofs.PairLines.{Steps, LineSteps, as_lines, runs_alike, texts_alike, refused_alike, last_alike}

-- ---- the report of a program part that is accepted

-- the text and the status of a run over items
abbrev run_text : FormTree → Steps → List ℕ × Status
run_text form steps = (text_from form (triple_at_first form) steps, status_at_end (items.any_refused steps))

module _ (form : FormTree) where
  abbrev written_of : LineSteps → List ℕ × Status
  written_of steps = with_state pair_script (of_steps (first_pair form) steps)

  written_alike : (steps : Steps) → written_of (as_lines form 0 steps) ≡ run_text form steps
  written_alike steps =
      ap₂ (λ (text : List ℕ) (status : Status). (text, status))
      (ap₂ (λ x y. x ++ y) (texts_alike form 0 steps) (ap pair_state_text (last_alike form (triple_at_first form) 0 steps)))
      (ap status_at_end (refused_alike form 0 steps))

  each_alike : (o : Option Steps) → option_map (with_state pair_script) (option_map (of_steps (first_pair form)) (option_map (as_lines form 0) o)) ≡ option_map (run_text form) o
  each_alike None = refl
  each_alike (Some steps) = ap (λ (w : List ℕ × Status). Some w) (written_alike steps)

  report_alike : (lines : List Line) → report_with pair_script (Ok form) lines ≡ option_map (run_text form) (run_of form (items_of lines))
  report_alike lines =
      ap (λ o. option_map (with_state pair_script) (option_map (of_steps (first_pair form)) o)) (runs_alike form (triple_at_first form) 0 lines)
      ∙ each_alike (run_of form (items_of lines))

-- ---- both ways

module _ (script text : List ℕ) (status : Status) where
  run_is_text : (form : FormTree) (o : Option Steps) → lens_of (program_part script) ≡ Ok form → run_of form (items_of (journal script)) ≡ o → option_map (run_text form) o ≡ Some (text, status)
      → IsRunText script text status
  run_is_text form (Some steps) accepted goes h =
      let pair : run_text form steps ≡ (text, status) = cc in
      record {
        form = form;
        lens = accepted;
        steps = steps;
        is_run = goes;
        is_text = sym (ap (λ (w : List ℕ × Status). w.0) pair);
        is_status = sym (ap (λ (w : List ℕ × Status). w.1) pair);
      }
  run_is_text form None accepted goes h = cc

  text_is_one : (r : Result FormTree Refusal) → lens_of (program_part script) ≡ r → report_with pair_script r (journal script) ≡ Some (text, status)
      → IsRunText script text status ⊎ IsRefusalText script text status
  text_is_one (Ok form) accepted h =
      inl (run_is_text form (run_of form (items_of (journal script))) accepted refl (sym (report_alike form (journal script)) ∙ h))
  text_is_one (Err refusal) refused h =
      let pair : (pair_script.refusal_line refusal, ProgramRefused) ≡ (text, status) = cc in
      inr (record {
        refusal = refusal;
        refused = refused;
        is_text = sym (ap (λ (w : List ℕ × Status). w.0) pair);
        is_status = sym (ap (λ (w : List ℕ × Status). w.1) pair);
      })

  pub is_one : report pair_script script ≡ Some (text, status) → IsRunText script text status ⊎ IsRefusalText script text status
  is_one h = text_is_one (lens_of (program_part script)) refl h

  pub run_is_report : IsRunText script text status → report pair_script script ≡ Some (text, status)
  run_is_report r =
      ap (λ (outcome : Result FormTree Refusal). report_with pair_script outcome (journal script)) r.lens
      ∙ report_alike r.form (journal script)
      ∙ ap (option_map (run_text r.form)) r.is_run
      ∙ ap₂ (λ (x : List ℕ) (y : Status). Some (x, y)) (sym r.is_text) (sym r.is_status)

  refusal_is_report : IsRefusalText script text status → report pair_script script ≡ Some (text, status)
  refusal_is_report r =
      ap (λ (outcome : Result FormTree Refusal). report_with pair_script outcome (journal script)) r.refused
      ∙ ap₂ (λ (x : List ℕ) (y : Status). Some (x, y)) (sym r.is_text) (sym r.is_status)

  pub is_report : IsRunText script text status ⊎ IsRefusalText script text status → report pair_script script ≡ Some (text, status)
  is_report (inl r) = run_is_report r
  is_report (inr r) = refusal_is_report r

-- ---- the library

ends : (b : Bool) → IsFinished (status_at_end b)
ends true = inr refl
ends false = inl refl

reported : (script text : List ℕ) (lines : List (List ℕ)) → map line_of lines ≡ journal script → IsReported (program_part script) lines text → IsReportText pair_script script text
reported script text lines behind r = record {
  status = status_at_end (items.any_refused r.steps);
  finished = ends (items.any_refused r.steps);
  is_report = run_is_report script text (status_at_end (items.any_refused r.steps)) (record {
    form = r.form;
    lens = r.lens;
    steps = r.steps;
    is_run = ap (λ l. run_of r.form (items_of l)) (sym behind) ∙ r.is_run;
    is_text = r.is_text;
    is_status = refl;
  });
}

pub session_reports : (script : List ℕ) (lines : List (List ℕ)) (texts : List ℕ) (first last shown : EmbeddedSession) → map line_of lines ≡ journal script → IsOpened (program_part script) first
    → IsGiven first lines texts last → IsShown last State Done shown → IsReportText pair_script script (texts ++ text_of shown)
session_reports script lines texts first last shown behind opened given h =
    reported script (texts ++ text_of shown) lines behind (is_reported (program_part script) lines texts first last shown opened given h)

pub session_refuses : (script : List ℕ) (first : EmbeddedSession) → IsSessionRefused (program_part script) first → report pair_script script ≡ Some (text_of first, ProgramRefused)
session_refuses script (embedded.Refused refused line) r =
    refusal_is_report script line.items ProgramRefused (record { refusal = r.is_line.refusal; refused = r.is_line.is; is_text = r.is_line.is_line; is_status = refl })
session_refuses script (embedded.Open session) r = absurd r
session_refuses script (embedded.StateRefused why) r = absurd r
session_refuses script (embedded.RecordsRefused why) r = absurd r
session_refuses script embedded.NoMemory r = absurd r

-- ---- one text

pub same_text : (o : Option (List ℕ × Status)) (x y : List ℕ) (s t : Status) → o ≡ Some (x, s) → o ≡ Some (y, t) → x ≡ y
same_text o x y s t h k =
    let both : Some (x, s) ≡ Some (y, t) = sym h ∙ k in
    let pair : (x, s) ≡ (y, t) = cc in
    ap (λ (w : List ℕ × Status). w.0) pair
