-- The run of a stored session over the lines of a journal is the run of the journal's items.
use Rattle.std.proofs.Common.{◌≡◌, ℕ, ◌+◌, List, [], ◌∷◌, ◌++◌, Bool, true, false, not, ◌||◌, cond, Option, Some, option_map, option_and_then, Ok, Err, map, refl, sym, ap, subst, ◌∙◌}
use Rattle.std.specs.Prelude.{is_some, option_to_list}
use Rattle.std.proofs.lemmas.List.{map-append}
use Rattle.edit_journal.specs.EntryJson.{change_of_line}
use Rattle.edit_journal.specs.Lines.{is_blank}
use Rattle.edit_journal.specs.declared.line.Line.{Line}
use Rattle.edit_session.specs.Run.{is_refused}
use Rattle.edit_session.specs.Step.{TripleTree}
use Rattle.run_answers.specs.Answers.{answer_line}
use Rattle.run_answers.specs.ItemRuns.{JournalItem, JournalAnswer, IsInStepFor, items_of}
use Rattle.lens_forms.specs.Typing.{is_typed}
use Rattle.store_run.specs.StoreRuns.{run_in_store, kept_of, any_line_refused}
use Rattle.store_run.specs.declared.session.StoredAnswer.{StoredAnswer}
use Rattle.store_session.specs.Journals.{accepted_change, accepted_changes, IsStateInStep, IsRunOfItems, IsJournalRun}
use Rattle.store_session.specs.StoredStates.{StoredState, state_with, change_text, payload_of, stored_answer, taken, answer_item, answer, stored_session}
use Rattle.store_session.proofs.AnswerLines.{has_payload}
use Rattle.store_session.proofs.StatesInStep.{item_in_step}

-- ---- one item

-- the payload is that of the change, where the change is accepted
payload_accepted : (item : JournalItem) (x : JournalAnswer) (b : Bool) → is_refused x ≡ b → option_to_list (payload_of item x) ≡ map change_text (option_to_list (accepted_change item x))
payload_accepted (Ok change) x true h = rw h refl
payload_accepted (Ok change) x false h = rw h refl
payload_accepted (Err fault) x b h = refl

refused_alike : (s : StoredState) (item : JournalItem) (u : TripleTree) (x : JournalAnswer) → taken s item ≡ Some (u, x) → not (is_some (payload_of item x)) ≡ is_refused x
refused_alike s item u x h = ap not (has_payload s item u x h) ∙ twice (is_refused x) where
  twice : (b : Bool) → not (not b) ≡ b
  twice true = refl
  twice false = refl

module _ (s : StoredState) (n : ℕ) (item : JournalItem) (u : TripleTree) (x : JournalAnswer) (took : taken s item ≡ Some (u, x)) (sound : IsInStepFor s.form u) where
  abbrev pub next : StoredState
  next = state_with s.form u

  abbrev pub made : StoredState × StoredAnswer
  made = (next, stored_answer (n + 1) item x)

  pub answered : answer_item s (n + 1) item ≡ Some made
  answered = ap (option_map {U = StoredState × StoredAnswer} (λ (step : TripleTree × JournalAnswer). (state_with s.form step.0, stored_answer (n + 1) item step.1))) took

  pub run_more : (items : List JournalItem) (steps : List (StoredState × StoredAnswer)) → IsRunOfItems next (n + 1) items steps → IsRunOfItems s n (item ∷ items) (made ∷ steps)
  run_more items steps r =
      record {
        journal = (u, x) ∷ r.journal;
        is_run = rw took (rw r.is_run refl);
        text = ap (λ text. answer_line (n + 1) x ++ text) r.text;
        at_last = r.at_last;
        refused = ap (λ b. b || any_line_refused steps) (refused_alike s item u x took) ∙ ap (λ b. is_refused x || b) r.refused;
        kept =
            ap (λ ps. ps ++ kept_of steps) (payload_accepted item x (is_refused x) refl)
            ∙ ap (λ ps. map change_text (option_to_list (accepted_change item x)) ++ ps) r.kept
            ∙ sym (map-append change_text (option_to_list (accepted_change item x)) (accepted_changes items r.journal));
        in_step = (sound, r.in_step);
      }

-- ---- all lines

abbrev HasRun : StoredState → ℕ → Option (List (StoredState × StoredAnswer)) → List JournalItem → Type 0
HasRun s n o items = (steps : List (StoredState × StoredAnswer)) × (o ≡ Some steps) × IsRunOfItems s n items steps

-- `view` is the state of a value that answers, of which nothing is used here
module _ {A : Type 0} (view : A → StoredState) where
  -- a line that is not blank, and the lines behind it
  abbrev first_and_others : StoredState → ℕ → Line → List Line → Option (List (StoredState × StoredAnswer))
  first_and_others s n line lines =
      option_and_then (λ (m : StoredState × StoredAnswer). option_map (λ (steps : List (StoredState × StoredAnswer)). m ∷ steps) (run_in_store (stored_session view) m.0 (n + 1) lines)) (answer s (n + 1) line)

  first_run : (s : StoredState) (n : ℕ) (line : Line) (lines : List Line)
      → (k : (m : TripleTree × JournalAnswer) × (taken s (change_of_line line) ≡ Some m) × IsInStepFor s.form m.0)
      → HasRun (state_with s.form k.0.0) (n + 1) (run_in_store (stored_session view) (state_with s.form k.0.0) (n + 1) lines) (items_of lines)
      → HasRun s n (first_and_others s n line lines) (change_of_line line ∷ items_of lines)
  first_run s n line lines k rest =
      let item = change_of_line line in
      let a = answered s n item k.0.0 k.0.1 k.1 k.2 in (
        made s n item k.0.0 k.0.1 k.1 k.2 ∷ rest.0,
        rw a (rw rest.1 refl),
        run_more s n item k.0.0 k.0.1 k.1 k.2 (items_of lines) rest.0 rest.2,
      )

  by_blank : (s : StoredState) (n : ℕ) (line : Line) (lines : List Line) (b : Bool) → HasRun s n (run_in_store (stored_session view) s n lines) (items_of lines)
      → HasRun s n (first_and_others s n line lines) (change_of_line line ∷ items_of lines)
      → HasRun s n (cond b (run_in_store (stored_session view) s n lines) (first_and_others s n line lines)) (cond b (items_of lines) (change_of_line line ∷ items_of lines))
  by_blank s n line lines true skipped first = skipped
  by_blank s n line lines false skipped first = first

  pub runs : (s : StoredState) (n : ℕ) (lines : List Line) → is_typed s.form ≡ true → IsStateInStep s
      → (steps : List (StoredState × StoredAnswer)) × (run_in_store (stored_session view) s n lines ≡ Some steps) × IsJournalRun s n lines steps
  runs s n [] typed h = ([], refl, record { journal = []; is_run = refl; text = refl; at_last = refl; refused = refl; kept = refl; in_step = tt })
  runs s n (line ∷ lines) typed h =
      let k = item_in_step s.form typed s.triple (change_of_line line) h in
      by_blank s n line lines (is_blank line) (runs s n lines typed h)
      (first_run s n line lines k (runs (state_with s.form k.0.0) (n + 1) lines typed k.2))

  pub runs_to_the_end : (s : StoredState) (n : ℕ) (lines : List Line) → is_typed s.form ≡ true → IsStateInStep s
      → (steps : List (StoredState × StoredAnswer)) × (run_in_store (stored_session view) s n lines ≡ Some steps)
  runs_to_the_end s n lines typed h = let r = runs s n lines typed h in (r.0, r.1)

  pub runs_alike : (s : StoredState) (n : ℕ) (lines : List Line) (steps : List (StoredState × StoredAnswer)) → is_typed s.form ≡ true → IsStateInStep s
      → run_in_store (stored_session view) s n lines ≡ Some steps → IsJournalRun s n lines steps
  runs_alike s n lines steps typed h e =
      let r = runs s n lines typed h in
      let is = r.1 in
      let same : r.0 ≡ steps = cc in
      subst (IsJournalRun s n lines) same r.2
