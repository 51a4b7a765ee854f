-- The run `run_lines` over the lines of a journal is the run of the journal's items.
use Rattle.std.proofs.Common.{◌≡◌, ℕ, ◌+◌, List, [], ◌∷◌, ◌++◌, Bool, true, false, ◌||◌, cond, Option, None, Some, option_map, option_and_then, refl, ap, ◌∙◌}
use Rattle.edit_journal.specs.EntryJson.{change_of_line}
use Rattle.edit_journal.specs.Lines.{is_blank}
use Rattle.edit_journal.specs.declared.line.Line.{Line}
use Rattle.edit_session.specs.Run as items
use Rattle.edit_session.specs.Run.{is_refused, take_item}
use Rattle.edit_session.specs.Step.{TripleTree}
use Rattle.lens_core.specs.Translation.{translate}
use Rattle.lens_forms.specs.Forms.{FormTree, left_type, right_type}
use Rattle.run_answers.specs.Answers as texts
use Rattle.run_answers.specs.Answers.{answer_line}
use Rattle.run_answers.specs.ItemRuns.{JournalAnswer, items_of, run_from}
use Rattle.run_pair.specs.Runs.{line_answer, numbered}
use Rattle.run_scripts.specs.LineRuns.{answers_text, any_answer_refused, last_state, run_lines}
use Rattle.run_scripts.specs.Answers.{Answer}

abbrev pub Steps : Type 0
Steps = List (TripleTree × JournalAnswer)

abbrev pub LineSteps : Type 0
LineSteps = List ((FormTree × TripleTree) × Answer)

module _ (form : FormTree) where
  -- the steps of a run over items, as those of a run over lines; this many items came before
  abbrev pub as_lines : ℕ → Steps → LineSteps
  as_lines n [] = []
  as_lines n (s ∷ steps) = numbered form (n + 1) s ∷ as_lines (n + 1) steps

  abbrev line_run : TripleTree → ℕ → List Line → Option LineSteps
  line_run t n lines = run_lines line_answer (form, t) n lines

  abbrev item_run : TripleTree → List Line → Option Steps
  item_run t lines = run_from form t (items_of lines)

  in_front : (n : ℕ) (s : TripleTree × JournalAnswer) (o : Option Steps)
      → option_map (λ (steps : LineSteps). numbered form (n + 1) s ∷ steps) (option_map (as_lines (n + 1)) o) ≡ option_map (as_lines n) (option_map (λ (steps : Steps). s ∷ steps) o)
  in_front n s None = refl
  in_front n s (Some steps) = refl

  -- a line that is not blank, and the lines behind it
  answered : (n : ℕ) (lines : List Line) (o : Option (TripleTree × JournalAnswer)) → ((s : TripleTree × JournalAnswer) → line_run s.0 (n + 1) lines ≡ option_map (as_lines (n + 1)) (item_run s.0 lines))
      → option_and_then (λ (x : (FormTree × TripleTree) × Answer). option_map (λ (steps : LineSteps). x ∷ steps) (run_lines line_answer x.0 (n + 1) lines)) (option_map (numbered form (n + 1)) o)
      ≡ option_map (as_lines n) (option_and_then (λ (s : TripleTree × JournalAnswer). option_map (λ (steps : Steps). s ∷ steps) (item_run s.0 lines)) o)
  answered n lines None behind = refl
  answered n lines (Some s) behind =
      ap (option_map (λ (steps : LineSteps). numbered form (n + 1) s ∷ steps)) (behind s) ∙ in_front n s (item_run s.0 lines)

  by_blank : (t : TripleTree) (n : ℕ) (line : Line) (lines : List Line) (b : Bool) → line_run t n lines ≡ option_map (as_lines n) (item_run t lines)
      → ((s : TripleTree × JournalAnswer) → line_run s.0 (n + 1) lines ≡ option_map (as_lines (n + 1)) (item_run s.0 lines))
      → cond b (line_run t n lines)
      (option_and_then (λ (x : (FormTree × TripleTree) × Answer). option_map (λ (steps : LineSteps). x ∷ steps) (run_lines line_answer x.0 (n + 1) lines)) (line_answer (form, t) (n + 1) line))
      ≡ option_map (as_lines n) (run_from form t (cond b (items_of lines) (change_of_line line ∷ items_of lines)))
  by_blank t n line lines true skipped behind = skipped
  by_blank t n line lines false skipped behind =
      answered n lines (take_item (left_type form) (right_type form) (translate form) t (change_of_line line)) behind

  pub runs_alike : (t : TripleTree) (n : ℕ) (lines : List Line) → line_run t n lines ≡ option_map (as_lines n) (item_run t lines)
  runs_alike t n [] = refl
  runs_alike t n (line ∷ lines) = by_blank t n line lines (is_blank line) (runs_alike t n lines) (λ s. runs_alike s.0 (n + 1) lines)

  -- ---- what the steps come to

  pub texts_alike : (n : ℕ) (steps : Steps) → answers_text (as_lines n steps) ≡ texts.answer_lines (n + 1) steps
  texts_alike n [] = refl
  texts_alike n (s ∷ steps) = ap (λ text. answer_line (n + 1) s.1 ++ text) (texts_alike (n + 1) steps)

  pub refused_alike : (n : ℕ) (steps : Steps) → any_answer_refused (as_lines n steps) ≡ items.any_refused steps
  refused_alike n [] = refl
  refused_alike n (s ∷ steps) = ap (λ b. is_refused s.1 || b) (refused_alike (n + 1) steps)

  pub last_alike : (t : TripleTree) (n : ℕ) (steps : Steps) → last_state (form, t) (as_lines n steps) ≡ (form, items.last t steps)
  last_alike t n [] = refl
  last_alike t n (s ∷ steps) = last_alike s.0 (n + 1) steps
