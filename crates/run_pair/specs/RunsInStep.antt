-- Every run of a script goes on to its end, and all its triples are in the lens's consistency relation. All are lemmas,
-- and stand here since the laws of an `impl` cite them.
use Rattle.std.proofs.Common.{◌≡◌, ℕ, List, [], ◌∷◌, true, false, Option, None, Some, option_map, map, refl, sym, ap}
use Rattle.std.proofs.Common.{subst, ◌∙◌, arith}
use Rattle.std.specs.List.{All}
use Rattle.std.specs.Prelude.{option_and_then}
use Rattle.texts.specs.declared.side.Side.TheVariants.{Left, Right}
use Rattle.program_accepted.proofs.AcceptedForms.{accepted_typed}
use Rattle.edit_journal.specs.EntryJson.{LineFault, change_of_line}
use Rattle.edit_journal.specs.Lines.{is_blank}
use Rattle.edit_journal.specs.declared.line.Line.{Line}
use Rattle.edit_session.specs.Run.{run, take_item, triples}
use Rattle.edit_session.specs.Step.{TripleTree}
use Rattle.edit_session.proofs.RunInStep.{runs_stay_in_step}
use Rattle.lens_steps.specs.LawsOfForms.{form_starts, form_edits}
use Rattle.run_answers.specs.ItemRuns.{JournalItem, JournalAnswer, IsInStepFor, triple_at_first, triples_from}
use Rattle.lens_core.specs.Consistency.{IsConsistent}
use Rattle.lens_core.specs.Translation.{translate}
use Rattle.lens_forms.specs.Forms.{FormTree, left_type, right_type}
use Rattle.lens_forms.specs.Typing.{is_typed}
use Rattle.run_scripts.specs.Answers.{Answer}
use Rattle.run_pair.specs.Runs.{first_pair, numbered, line_answer, IsPairInStep}
use Rattle.run_pair.specs.Scripts.{pair_script, types_script}
use Rattle.run_pair.specs.Shown.{no_answer, IsShown}
use Rattle.run_scripts.specs.ScriptEnds.{EveryRunStaysInStep}
use Rattle.run_scripts.proofs.StepsStay.{every_run as every_step}

module _ (form : FormTree) (typed : is_typed form ≡ true) where
  -- the triples of a run over one item, which is answered so
  abbrev after_one : TripleTree → Option (TripleTree × JournalAnswer) → Option (List TripleTree)
  after_one t o =
      option_map (λ steps. t ∷ map (λ s. s.0) steps)
      (option_and_then (λ s. option_map (λ steps. s ∷ steps) (Some [])) o)

  -- an item that is answered, with a triple that is in step
  abbrev Answered : Option (TripleTree × JournalAnswer) → Type 0
  Answered o = (s : TripleTree × JournalAnswer) × (o ≡ Some s) × IsInStepFor form s.0

  second : (t u : TripleTree) (all : List TripleTree) → (let r : Option (List TripleTree) = Some (t ∷ u ∷ []) in r)
      ≡ Some all → All (IsInStepFor form) all → IsInStepFor form u
  second t u all is each =
      let same : (t ∷ u ∷ []) ≡ all = cc in subst (All (IsInStepFor form)) (sym same) each 1 t (omega arith)

  by_answer : (t : TripleTree) (o : Option (TripleTree × JournalAnswer)) (all : List TripleTree) → after_one t o
      ≡ Some all → All (IsInStepFor form) all → Answered o
  by_answer t None all is each = cc
  by_answer t (Some s) all is each = (s, refl, second t s.0 all is each)

  item_steps : (t : TripleTree) (item : JournalItem) → IsInStepFor form t
      → Answered (take_item (left_type form) (right_type form) (translate form) t item)
  item_steps t item kept =
      let r = runs_stay_in_step LineFault (IsConsistent form) (left_type form) (right_type form) (translate form)
      (form_edits form typed Left) (form_edits form typed Right) t (item ∷ []) kept in
      by_answer t (take_item (left_type form) (right_type form) (translate form) t item) r.0 r.1 r.2

  -- a step that the answer to an item makes, to a triple that is in step
  abbrev StepsOn : TripleTree → ℕ → JournalItem → FormTree → Type 0
  StepsOn t n item f =
      (r : (FormTree × TripleTree) × Answer)
      × (option_map (numbered f n) (take_item (left_type f) (right_type f) (translate f) t item) ≡ Some r)
      × IsPairInStep form r.0

  steps_on : (t : TripleTree) (n : ℕ) (item : JournalItem) → IsInStepFor form t → StepsOn t n item form
  steps_on t n item kept =
      let s = item_steps t item kept in
      (numbered form n s.0, ap (option_map (numbered form n)) s.1, record { lens = refl; in_step = s.2 })

  steps_stay : (s : FormTree × TripleTree) (n : ℕ) (line : Line) → is_blank line ≡ false → IsPairInStep form s
      → (r : (FormTree × TripleTree) × Answer) × (line_answer s n line ≡ Some r) × IsPairInStep form r.0
  steps_stay s n line not_blank kept =
      subst (StepsOn s.1 n (change_of_line line)) (sym kept.lens) (steps_on s.1 n (change_of_line line) kept.in_step)

pub every_run : EveryRunStaysInStep pair_script
every_run part form accepted lines =
    let typed = accepted_typed part form accepted in
    every_step line_answer (IsPairInStep form) (steps_stay form typed) (first_pair form) (record {
      lens =
          refl;
      in_step = form_starts form typed;
    }) lines

-- ---- `check`

no_steps : (form state : FormTree) (n : ℕ) (line : Line) → is_blank line ≡ false → IsShown form state
    → (r : FormTree × Answer) × (no_answer state n line ≡ Some r) × IsShown form r.0
no_steps form state n line not_blank kept = (_, refl, tt)

pub every_check : EveryRunStaysInStep types_script
every_check part form accepted lines = every_step no_answer (IsShown form) (no_steps form) form tt lines
