-- What a line that was accepted makes of a triple, and what any other leaves.
use Rattle.std.proofs.Common.{◌≡◌, ℕ, List, [], ◌∷◌, Bool, true, false, Option, Some, None, option_map, Ok, Err, refl, sym, ap}
use Rattle.serde_json.specs.Data.{Data}
use Rattle.texts.specs.declared.side.Side.{Side}
use Rattle.edit_module.specs.Changes.{ChangeTree, one, group}
use Rattle.edit_module.specs.Words.{WordTree}
use Rattle.edit_module.specs.declared.fault.Cause.{Cause}
use Rattle.edit_journal.specs.EntryJson.{LineFault, tree_of_text, change_if_json, change_of_line, change_counts_fit, change_numbers_fit}
use Rattle.edit_journal.specs.declared.fault.EntryFault.{EntryFault}
use Rattle.edit_journal.specs.declared.line.Line.{Line}
use Rattle.edit_journal.specs.declared.line.Line.TheVariants.{Text, TooLong}
use Rattle.edit_journal.proofs.Groups.{change_writes_back}
use Rattle.edit_session.specs.Run.{answered, group_answered, is_refused, take_item, carried, no_apply, group_carried, group_no_apply, no_entry}
use Rattle.edit_session.specs.Step.{TripleTree, Stepped, AllStepped, alone, step, step_each}
use Rattle.run_answers.specs.ItemRuns.{JournalItem, JournalAnswer}
use Rattle.lens_core.specs.Translation.{translate}
use Rattle.lens_forms.specs.Forms.{FormTree, left_type, right_type}
use Rattle.store_session.specs.Stands.{step_of}
use Rattle.embed_session.specs.Steps.{outcome_of}
use Rattle.embed_session.specs.declared.outcome.Outcome.TheVariants as outcome

-- ---- the step of a change

module _ (l : FormTree) (t u : TripleTree) (x : JournalAnswer) where
  abbrev made_with : List WordTree → TripleTree → Option AllStepped
  made_with words v = Some (Ok (v, words))

  -- a change that was accepted makes this step; one that was refused leaves the triple
  abbrev pub Makes : Option AllStepped → Bool → Type 0
  Makes stepped false = (words : List WordTree) × (stepped ≡ Some (Ok (u, words)))
  Makes stepped true = u ≡ t

  entry_made : (side : Side) (o : Option Stepped) → option_map {U = TripleTree × JournalAnswer} (answered t side) o ≡ Some (u, x)
      → (b : Bool) → is_refused x ≡ b → Makes (option_map alone o) b
  entry_made side (Some (Ok m)) h false k =
      let pair : answered {F = LineFault} t side (Ok m) ≡ (u, x) = cc in
      let same : m.0 ≡ u = ap (λ (p : TripleTree × JournalAnswer). p.0) pair in
      (m.1 ∷ [], ap (made_with (m.1 ∷ [])) same)
  entry_made side (Some (Ok m)) h true k =
      let pair : answered {F = LineFault} t side (Ok m) ≡ (u, x) = cc in
      let same : false ≡ is_refused x = ap (λ (p : TripleTree × JournalAnswer). is_refused p.1) pair in
      cc
  entry_made side (Some (Err why)) h false k =
      let pair : answered {F = LineFault} t side (Err why) ≡ (u, x) = cc in
      let same : true ≡ is_refused x = ap (λ (p : TripleTree × JournalAnswer). is_refused p.1) pair in
      cc
  entry_made side (Some (Err why)) h true k =
      let pair : answered {F = LineFault} t side (Err why) ≡ (u, x) = cc in
      sym (ap (λ (p : TripleTree × JournalAnswer). p.0) pair)
  entry_made side None h b k = cc

  group_made : (es : List (Side × WordTree)) (o : Option AllStepped) → option_map {U = TripleTree × JournalAnswer} (group_answered t es) o ≡ Some (u, x)
      → (b : Bool) → is_refused x ≡ b → Makes o b
  group_made es (Some (Ok m)) h false k =
      let pair : group_answered {F = LineFault} t es (Ok m) ≡ (u, x) = cc in
      let same : m.0 ≡ u = ap (λ (p : TripleTree × JournalAnswer). p.0) pair in
      (m.1, ap (made_with m.1) same)
  group_made es (Some (Ok m)) h true k =
      let pair : group_answered {F = LineFault} t es (Ok m) ≡ (u, x) = cc in
      let same : false ≡ is_refused x = ap (λ (p : TripleTree × JournalAnswer). is_refused p.1) pair in
      cc
  group_made es (Some (Err why)) h false k =
      let pair : group_answered {F = LineFault} t es (Err why) ≡ (u, x) = cc in
      let same : true ≡ is_refused x = ap (λ (p : TripleTree × JournalAnswer). is_refused p.1) pair in
      cc
  group_made es (Some (Err why)) h true k =
      let pair : group_answered {F = LineFault} t es (Err why) ≡ (u, x) = cc in
      sym (ap (λ (p : TripleTree × JournalAnswer). p.0) pair)
  group_made es None h b k = cc

  -- what an item comes to
  abbrev pub taken : JournalItem → Option (TripleTree × JournalAnswer)
  taken item = take_item (left_type l) (right_type l) (translate l) t item

  pub made : (change : ChangeTree) (b : Bool) → taken (Ok change) ≡ Some (u, x) → is_refused x ≡ b → Makes (step_of l t change) b
  made (one e) b h k = entry_made e.0 (step (left_type l) (right_type l) (translate l) t e) h b k
  made (group es) b h k = group_made es (step_each (left_type l) (right_type l) (translate l) t es) h b k

  -- an item that was refused leaves the triple
  pub refused_stays : (item : JournalItem) → taken item ≡ Some (u, x) → is_refused x ≡ true → u ≡ t
  refused_stays (Ok change) h k = made change true h k
  refused_stays (Err fault) h k =
      let pair : (t, no_entry fault) ≡ (u, x) = cc in
      sym (ap (λ (p : TripleTree × JournalAnswer). p.0) pair)

  -- an item that was accepted is a change
  pub accepted_is : (item : JournalItem) → taken item ≡ Some (u, x) → is_refused x ≡ false → (change : ChangeTree) × (item ≡ Ok change)
  accepted_is (Ok change) h k = (change, refl)
  accepted_is (Err fault) h k =
      let pair : (t, no_entry fault) ≡ (u, x) = cc in
      let same : true ≡ is_refused x = ap (λ (p : TripleTree × JournalAnswer). is_refused p.1) pair in
      cc

-- ---- the outcome of an answer

pub done_accepted : (x : JournalAnswer) → outcome.Done ≡ outcome_of x → is_refused x ≡ false
done_accepted (carried side w) h = refl
done_accepted (no_apply at cause) h = cc
done_accepted (group_carried words) h = refl
done_accepted (group_no_apply part at cause) h = cc
done_accepted (no_entry fault) h = cc

pub no_apply_refused : (x : JournalAnswer) (part at : ℕ) (cause : Cause) → outcome.NoApply part at cause ≡ outcome_of x → is_refused x ≡ true
no_apply_refused (carried side w) part at cause h = cc
no_apply_refused (no_apply n why) part at cause h = refl
no_apply_refused (group_carried words) part at cause h = cc
no_apply_refused (group_no_apply k n why) part at cause h = refl
no_apply_refused (no_entry fault) part at cause h = refl

pub not_a_change_refused : (x : JournalAnswer) (fault : EntryFault) → outcome.NotAChange fault ≡ outcome_of x → is_refused x ≡ true
not_a_change_refused (carried side w) fault h = cc
not_a_change_refused (no_apply n why) fault h = refl
not_a_change_refused (group_carried words) fault h = cc
not_a_change_refused (group_no_apply k n why) fault h = refl
not_a_change_refused (no_entry why) fault h = refl

pub never_blank : (x : JournalAnswer) → outcome.Blank ≡ outcome_of x → is_refused x ≡ true
never_blank (carried side w) h = cc
never_blank (no_apply n why) h = refl
never_blank (group_carried words) h = cc
never_blank (group_no_apply k n why) h = refl
never_blank (no_entry why) h = refl

-- ---- the counts and the numbers of the change of a line

abbrev pub Fit : ChangeTree → Type 0
Fit change = (change_counts_fit change ≡ true) × (change_numbers_fit change ≡ true)

fit_of_tree : (o : Option Data) (change : ChangeTree) → change_if_json o ≡ Ok change → Fit change
fit_of_tree (Some d) change h = let k = change_writes_back d change h in (k.0, k.1)
fit_of_tree None change h = cc

pub fit_of_line : (line : Line) (change : ChangeTree) → change_of_line line ≡ Ok change → Fit change
fit_of_line (Text bytes) change h = fit_of_tree (tree_of_text bytes) change h
fit_of_line TooLong change h = cc
