-- One line more of a run, and its two ends.
use Rattle.std.proofs.Common.{◌≡◌, ℕ, ◌+◌, List, [], ◌∷◌, ◌++◌, append-nil, Bool, true, false, ◌||◌, cond, Option, Some, None, option_map, option_and_then, refl, sym, ap, ◌∙◌, append_assoc}
use Rattle.edit_journal.specs.Lines.{is_blank}
use Rattle.edit_journal.specs.declared.line.Line.{Line}
use Rattle.run_scripts.specs.Answers.{Answer, AddsAnswer}
use Rattle.run_scripts.specs.declared.progress.Progress.{Progress}
use Rattle.run_scripts.specs.LineRuns.{Come, come, Written, last_state, answers_text, any_answer_refused, of_steps, after_progress, run_lines, written, written_after}
use Rattle.texts.proofs.Tests.{or_false, or_grouped}

abbrev done : {T : Type 0} → List ℕ → Bool → T → Option (Written T)
done text refused t = Some (text, refused, t)

same_written : {T : Type 0} (x y : List ℕ) (b c : Bool) (t : T) → x ≡ y → b ≡ c → done x b t ≡ done y c t
same_written x y b c t p q = rw (p, q) refl

module _ {T : Type 0} (answer : T → ℕ → Line → Option (T × Answer)) where
  -- one more item that was answered
  after_item : (t t' : T) (old new : Come) (a : Answer) (o : Option (List (T × Answer)))
      → new.refused ≡ (old.refused || a.refused) → new.text ≡ old.text ++ a.line
      → option_map (after_progress t old) (option_map (λ steps. (t', a) ∷ steps) o) ≡ option_map (after_progress t' new) o
  after_item t t' old new a None refused text = refl
  after_item t t' old new a (Some steps) refused text =
      same_written _ _ _ _ (last_state t' steps)
      (sym (append_assoc old.text a.line (answers_text steps)) ∙ ap (λ x. x ++ answers_text steps) (sym text))
      (or_grouped old.refused a.refused (any_answer_refused steps) ∙ ap (λ b. b || any_answer_refused steps) (sym refused))

  pub item_step : (t t' : T) (old new : Come) (line : Line) (a : Answer) (lines : List Line) → is_blank line ≡ false
      → answer t (old.number + 1) line ≡ Some (t', a) → new.number ≡ old.number + 1
      → new.refused ≡ (old.refused || a.refused) → new.text ≡ old.text ++ a.line
      → written_after answer t old (line ∷ lines) ≡ written_after answer t' new lines
  item_step t t' old new line a lines full taken number refused text =
      let more : T × Answer → Option (List (T × Answer)) = λ s. option_map (λ steps. s ∷ steps) (run_lines answer s.0 (old.number + 1) lines) in
      ap (λ b. option_map (after_progress t old) (cond b (run_lines answer t old.number lines) (option_and_then more (answer t (old.number + 1) line)))) full
      ∙ ap (λ o. option_map (after_progress t old) (option_and_then more o)) taken
      ∙ after_item t t' old new a (run_lines answer t' (old.number + 1) lines) refused text
      ∙ ap (λ n. option_map (after_progress t' new) (run_lines answer t' n lines)) (sym number)

  -- one more item whose answer was added at the end of the text
  pub added_step : (t t' : T) (given : List ℕ) (old new : Progress) (line : Line) (lines : List Line) (refused : Bool) → is_blank line ≡ false
      → AddsAnswer (answer t (old.number + 1) line) t' old.text.items new.text.items refused
      → new.number ≡ old.number + 1 → new.refused ≡ (old.refused || refused)
      → written_after answer t (come given old) (line ∷ lines) ≡ written_after answer t' (come given new) lines
  added_step t t' given old new line lines refused full a number is_refused =
      item_step t t' (come given old) (come given new) line (record { line = a.line; refused = refused }) lines full a.answers number is_refused
      (ap (λ x. given ++ x) a.adds ∙ sym (append_assoc given old.text.items a.line))

  -- a blank line is passed over
  pub blank_line_step : (t : T) (p : Come) (line : Line) (lines : List Line) → is_blank line ≡ true
      → written_after answer t p (line ∷ lines) ≡ written_after answer t p lines
  blank_line_step t p line lines blank =
      ap (λ b. option_map (after_progress t p) (cond b (run_lines answer t p.number lines) (option_and_then (λ (s : T × Answer). option_map (λ steps. s ∷ steps) (run_lines answer s.0 (p.number + 1) lines)) (answer t (p.number + 1) line)))) blank

  -- with no lines left, what was written is all
  pub at_end : (t : T) (p : Come) → written_after answer t p [] ≡ Some (p.text, p.refused, t)
  at_end t p = same_written _ _ _ _ t (append-nil p.text) (or_false p.refused)

  -- with nothing written
  from_nothing : (t : T) (p : Come) (o : Option (List (T × Answer))) → p.refused ≡ false → p.text ≡ []
      → option_map (after_progress t p) o ≡ option_map (of_steps t) o
  from_nothing t p None refused text = refl
  from_nothing t p (Some steps) refused text =
      same_written _ _ _ _ (last_state t steps) (ap (λ x. x ++ answers_text steps) text) (ap (λ b. b || any_answer_refused steps) refused)

  pub at_start : (t : T) (p : Come) (lines : List Line) → p.number ≡ 0 → p.refused ≡ false → p.text ≡ []
      → written_after answer t p lines ≡ written answer t lines
  at_start t p lines number refused text =
      ap (λ n. option_map (after_progress t p) (run_lines answer t n lines)) number ∙ from_nothing t p (run_lines answer t 0 lines) refused text
