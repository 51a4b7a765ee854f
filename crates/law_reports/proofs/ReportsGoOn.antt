-- The report of an input that goes on begins with the answers to the lines that had ended.
use Rattle.std.proofs.Common.{◌≡◌, ℕ, List, [], ◌∷◌, ◌++◌, Bool, true, false, Some, Result, Ok, Err, refl, sym, ap, ap₂, ◌∙◌, append_assoc}
use Rattle.std.specs.Prelude.{option_map}
use Rattle.value_json.proofs.Facts.{map_some}
use Rattle.edit_journal.specs.declared.line.Line.{Line}
use Rattle.run_scripts.specs.LineRuns.{answers_text, last_state, of_steps, run_lines}
use Rattle.script_input.specs.Lines.{program_part, journal}
use Rattle.script_input.specs.Coming.{has_separator}
use Rattle.run_scripts.specs.ScriptEnds.{answers_with, AnswersBut, AnswersSome}
use Rattle.run_scripts.specs.Report.{report, report_with, run_report, with_state}
use Rattle.run_scripts.specs.declared.script_state.ScriptState as OfScript
use Rattle.command_ends.specs.declared.status.Status.{Status}
use Rattle.command_ends.specs.declared.status.Status.TheVariants.{ProgramRefused}
use Rattle.law_reports.specs.Beginnings.{BeginsWith}
use Rattle.law_reports.proofs.GoingOn.{part_stays, no_journal, lines_first}
use Rattle.law_reports.proofs.RunsGoOn.{answers-begin, run-begins}

-- anything begins with nothing
begins_with_nothing : (whole text : List ℕ) → text ≡ [] → BeginsWith whole text
begins_with_nothing whole text h = record { rest = whole; is = ap (λ l. l ++ whole) (sym h) }

-- if the first lines and others are none, there are no first ones
none_first : (lines others : List Line) → lines ++ others ≡ [] → lines ≡ []
none_first [] others h = refl
none_first (line ∷ lines) others h = cc

module _ {H : Type 0} (script : OfScript.Ghosts H) where
  -- ---- a run that goes on

  -- the report of a run over lines and more begins with the answers to the lines
  report_begins : (t : script.State) (lines more : List Line) (text whole : List ℕ) (status : Status) → option_map answers_text (run_lines script.answer t 0 lines) ≡ Some text
      → run_report script t (lines ++ more) ≡ Some (whole, status) → BeginsWith whole text
  report_begins t lines more text whole status answers reported =
      let some = map_some answers_text (run_lines script.answer t 0 lines) text answers in
      let written = map_some (with_state script) (option_map (of_steps t) (run_lines script.answer t 0 (lines ++ more))) (whole, status) reported in
      let all = map_some (of_steps t) (run_lines script.answer t 0 (lines ++ more)) written.0 written.1 in
      let on = run-begins script.answer lines more t 0 some.0 all.0 some.1 all.1 in
      let first = answers-begin some.0 on.rest in
      let state = script.state_text (last_state t all.0) in
      let is : whole ≡ answers_text all.0 ++ state = sym (ap (λ (r : List ℕ × Status). r.0) written.2) ∙ sym (ap (λ w. (with_state script w).0) all.2) in
      record {
        rest = first.rest ++ state;
        is = is ∙ ap (λ l. answers_text l ++ state) on.is ∙ ap (λ l. l ++ state) first.is
            ∙ append_assoc (answers_text some.0) first.rest state ∙ ap (λ l. l ++ (first.rest ++ state)) some.2;
      }

  -- the same where the program part is accepted or refused
  answers_begin : (outcome : Result script.Accepted script.Refusal) (lines others : List Line) (text whole : List ℕ) (status : Status) → answers_with script outcome lines ≡ Some text
      → report_with script outcome (lines ++ others) ≡ Some (whole, status) → BeginsWith whole text
  answers_begin (Ok program) lines others text whole status answers reported = report_begins (script.start program) lines others text whole status answers reported
  answers_begin (Err refusal) lines others text whole status answers reported =
      let none : [] ≡ text = cc in begins_with_nothing whole text (sym none)

  -- no lines have no answers
  no_answers : (outcome : Result script.Accepted script.Refusal) (text : List ℕ) → answers_with script outcome [] ≡ Some text → text ≡ []
  no_answers (Ok program) text h = let none : [] ≡ text = cc in sym none
  no_answers (Err refusal) text h = let none : [] ≡ text = cc in sym none

  -- ---- the report

  module _ (bytes more text whole : List ℕ) (status : Status) (rest : List Line) (a : AnswersBut script bytes rest text) (reported : report script (bytes ++ more) ≡ Some (whole, status)) where
    -- the separator has come, and the program part is known
    with_part : has_separator bytes ≡ true → BeginsWith whole text
    with_part has =
        let on = lines_first bytes more in
        let behind : journal (bytes ++ more) ≡ a.lines ++ (rest ++ on.rest) = on.is ∙ ap (λ l. l ++ on.rest) a.ended ∙ append_assoc a.lines rest on.rest in
        answers_begin (script.accepted (program_part bytes)) a.lines (rest ++ on.rest) text whole status a.are
        (ap₂ (λ part l. report_with script (script.accepted part) l) (sym (part_stays bytes more has)) (sym behind) ∙ reported)

    -- the separator has not come, so nothing is answered
    without_part : has_separator bytes ≡ false → BeginsWith whole text
    without_part none =
        let lines : a.lines ≡ [] = none_first a.lines rest (sym a.ended ∙ no_journal bytes none) in
        begins_with_nothing whole text (no_answers (script.accepted (program_part bytes)) text (ap (answers_with script (script.accepted (program_part bytes))) (sym lines) ∙ a.are))

    run_begins : BeginsWith whole text
    run_begins = by_test (has_separator bytes) refl where
      by_test : (b : Bool) → has_separator bytes ≡ b → BeginsWith whole text
      by_test true e = with_part e
      by_test false e = without_part e

  pub answers_first : (bytes text : List ℕ) → AnswersSome script bytes text → (more whole : List ℕ) (status : Status)
      → report script (bytes ++ more) ≡ Some (whole, status) → BeginsWith whole text
  answers_first bytes text a more whole status reported = run_begins bytes more text whole status a.0 a.1 reported

  -- ---- a refusal

  pub refused : (outcome : Result script.Accepted script.Refusal) (lines : List Line) (refusal : script.Refusal) → outcome ≡ Err refusal
      → report_with script outcome lines ≡ Some (script.refusal_line refusal, ProgramRefused)
  refused outcome lines refusal h = ap (λ o. report_with script o lines) h

  pub refusal_stays : (bytes : List ℕ) (refusal : script.Refusal) → has_separator bytes ≡ true → script.accepted (program_part bytes) ≡ Err refusal
      → (more : List ℕ) → report script (bytes ++ more) ≡ Some (script.refusal_line refusal, ProgramRefused)
  refusal_stays bytes refusal has h more =
      refused (script.accepted (program_part (bytes ++ more))) (journal (bytes ++ more)) refusal (ap script.accepted (part_stays bytes more has) ∙ h)
