-- What an answer is: the state stays and there is no payload, or it is the payload of a change that makes the step.
-- Lemmas, which stand here since the laws of an `impl` cite them.
use Rattle.std.proofs.Common.{◌≡◌, ◌⊎◌, inl, inr, ℕ, List, [], ◌∷◌, Bool, true, false, cond, Option, Some, None}
use Rattle.std.proofs.Common.{option_map, Ok, Err, refl, sym, ap, subst}
use Rattle.serde_json.specs.Data.{Data}
use Rattle.texts.specs.declared.side.Side.{Side}
use Rattle.edit_module.specs.Changes.{ChangeTree, one, group}
use Rattle.edit_module.specs.Words.{WordTree}
use Rattle.edit_journal.specs.EntryJson.{LineFault, tree_of_text, change_if_json, change_of_line, change_counts_fit}
use Rattle.edit_journal.specs.EntryJson.{change_numbers_fit}
use Rattle.edit_journal.specs.declared.line.Line.{Line}
use Rattle.edit_journal.specs.declared.line.Line.TheVariants.{Text, TooLong}
use Rattle.edit_journal.proofs.Groups.{change_writes_back}
use Rattle.edit_session.specs.Run.{answered, group_answered, is_refused, no_entry}
use Rattle.edit_session.specs.Step.{TripleTree, Stepped, AllStepped, alone, step, step_each}
use Rattle.run_answers.specs.ItemRuns.{JournalItem, JournalAnswer}
use Rattle.lens_core.specs.Translation.{translate}
use Rattle.lens_forms.specs.Forms.{left_type, right_type}
use Rattle.store_run.specs.declared.session.StoredAnswer.{StoredAnswer}
use Rattle.store_session.specs.Stands.{step_of}
use Rattle.store_session.specs.StoredStates.{StoredState, state_with, change_text, payload_of, stored_answer, taken}
use Rattle.store_session.specs.StoredStates.{answer_item, answer}

-- ---- the step of an item

module _ (s : StoredState) (u : TripleTree) (x : JournalAnswer) where
  abbrev made_with : List WordTree → TripleTree → Option AllStepped
  made_with words v = Some (Ok (v, words))

  -- a change that was accepted makes this step; one that was refused leaves the triple
  abbrev pub Makes : Option AllStepped → Bool → Type 0
  Makes stepped false = (words : List WordTree) × (stepped ≡ Some (Ok (u, words)))
  Makes stepped true = u ≡ s.triple

  entry_made : (side : Side) (o : Option Stepped) → option_map {U = TripleTree
      × JournalAnswer} (answered s.triple side) o ≡ Some (u, x)
      → (b : Bool) → is_refused x ≡ b → Makes (option_map alone o) b
  entry_made side (Some (Ok m)) h false k =
      let pair : answered {F = LineFault} s.triple side (Ok m) ≡ (u, x) = cc in
      let same : m.0 ≡ u = ap (λ (p : TripleTree × JournalAnswer). p.0) pair in
      (m.1 ∷ [], ap (made_with (m.1 ∷ [])) same)
  entry_made side (Some (Ok m)) h true k =
      let pair : answered {F = LineFault} s.triple side (Ok m) ≡ (u, x) = cc in
      let same : false ≡ is_refused x = ap (λ (p : TripleTree × JournalAnswer). is_refused p.1) pair in
      cc
  entry_made side (Some (Err why)) h false k =
      let pair : answered {F = LineFault} s.triple side (Err why) ≡ (u, x) = cc in
      let same : true ≡ is_refused x = ap (λ (p : TripleTree × JournalAnswer). is_refused p.1) pair in
      cc
  entry_made side (Some (Err why)) h true k =
      let pair : answered {F = LineFault} s.triple side (Err why) ≡ (u, x) = cc in
      sym (ap (λ (p : TripleTree × JournalAnswer). p.0) pair)
  entry_made side None h b k = cc

  group_made : (es : List (Side × WordTree)) (o : Option AllStepped)
      → option_map {U = TripleTree × JournalAnswer} (group_answered s.triple es) o ≡ Some (u, x)
      → (b : Bool) → is_refused x ≡ b → Makes o b
  group_made es (Some (Ok m)) h false k =
      let pair : group_answered {F = LineFault} s.triple es (Ok m) ≡ (u, x) = cc in
      let same : m.0 ≡ u = ap (λ (p : TripleTree × JournalAnswer). p.0) pair in
      (m.1, ap (made_with m.1) same)
  group_made es (Some (Ok m)) h true k =
      let pair : group_answered {F = LineFault} s.triple es (Ok m) ≡ (u, x) = cc in
      let same : false ≡ is_refused x = ap (λ (p : TripleTree × JournalAnswer). is_refused p.1) pair in
      cc
  group_made es (Some (Err why)) h false k =
      let pair : group_answered {F = LineFault} s.triple es (Err why) ≡ (u, x) = cc in
      let same : true ≡ is_refused x = ap (λ (p : TripleTree × JournalAnswer). is_refused p.1) pair in
      cc
  group_made es (Some (Err why)) h true k =
      let pair : group_answered {F = LineFault} s.triple es (Err why) ≡ (u, x) = cc in
      sym (ap (λ (p : TripleTree × JournalAnswer). p.0) pair)
  group_made es None h b k = cc

  pub made : (change : ChangeTree) (b : Bool) → taken s (Ok change) ≡ Some (u, x) → is_refused x ≡ b
      → Makes (step_of s.form s.triple change) b
  made (one e) b h k = entry_made e.0 (step (left_type s.form) (right_type s.form) (translate s.form) s.triple e) h b k
  made (group es) b h k =
      group_made es (step_each (left_type s.form) (right_type s.form) (translate s.form) s.triple es) h b k

-- ---- the counts and the numbers of the change of a line

abbrev pub Fit : ChangeTree → Type 0
Fit change = (change_counts_fit change ≡ true) × (change_numbers_fit change ≡ true)

fit_of_tree : (o : Option Data) (change : ChangeTree) → change_if_json o ≡ Ok change → Fit change
fit_of_tree (Some d) change h = let k = change_writes_back d change h in (k.0, k.1)
fit_of_tree None change h = cc

pub fit_of_line : (line : Line) (change : ChangeTree) → change_of_line line ≡ Ok change → Fit change
fit_of_line (Text bytes) change h = fit_of_tree (tree_of_text bytes) change h
fit_of_line TooLong change h = cc

-- ---- the two kinds of answer

-- the state stays, and there is no payload
pub record Stays (s t : StoredState) (a : StoredAnswer) : Type 0 where
  pub same : t ≡ s
  pub none : a.payload ≡ None

-- the change of the item makes the step, and the payload is its
pub record Steps (s t : StoredState) (item : JournalItem) (a : StoredAnswer) : Type 0 where
  pub change : ChangeTree
  pub is : item ≡ Ok change
  pub form : t ≡ state_with s.form t.triple
  pub words : List WordTree
  pub step : step_of s.form s.triple change ≡ Some (Ok (t.triple, words))
  pub payload : a.payload ≡ Some (change_text change)

abbrev pub Kinds : StoredState → StoredState → JournalItem → StoredAnswer → Type 0
Kinds s t item a = Stays s t a ⊎ Steps s t item a

abbrev made_of : StoredState → ℕ → JournalItem → TripleTree × JournalAnswer → StoredState × StoredAnswer
made_of s n item step = (state_with s.form step.0, stored_answer n item step.1)

module _ (s : StoredState) (n : ℕ) where
  payload_is : (change : ChangeTree) (x : JournalAnswer) (b : Bool) → is_refused x ≡ b → payload_of (Ok change) x
      ≡ cond b None (Some (change_text change))
  payload_is change x b h = ap (λ c. cond c None (Some (change_text change))) h

  change_kind : (change : ChangeTree) (u : TripleTree) (x : JournalAnswer) (b : Bool) → taken s (Ok change)
      ≡ Some (u, x) → is_refused x ≡ b
      → Kinds s (state_with s.form u) (Ok change) (stored_answer n (Ok change) x)
  change_kind change u x true took h =
      inl (record { same = ap (state_with s.form) (made s u x change true took h); none = payload_is change x true h })
  change_kind change u x false took h =
      let k = made s u x change false took h in
      inr (record {
        change =
            change;
        is = refl;
        form = refl;
        words = k.0;
        step = k.1;
        payload = payload_is change x false h;
      })

  fault_kind : (fault : LineFault) (u : TripleTree) (x : JournalAnswer) → taken s (Err fault) ≡ Some (u, x)
      → Kinds s (state_with s.form u) (Err fault) (stored_answer n (Err fault) x)
  fault_kind fault u x took =
      let pair : (s.triple, no_entry fault) ≡ (u, x) = cc in
      let same : s.triple ≡ u = ap (λ (p : TripleTree × JournalAnswer). p.0) pair in
      inl (record { same = ap (state_with s.form) (sym same); none = refl })

  item_kind : (item : JournalItem) (u : TripleTree) (x : JournalAnswer) → taken s item ≡ Some (u, x)
      → Kinds s (state_with s.form u) item (stored_answer n item x)
  item_kind (Ok change) u x took = change_kind change u x (is_refused x) took refl
  item_kind (Err fault) u x took = fault_kind fault u x took

  of_taken : (item : JournalItem) (t : StoredState) (a : StoredAnswer) (o : Option (TripleTree × JournalAnswer))
      → taken s item ≡ o
      → option_map {U = StoredState × StoredAnswer} (made_of s n item) o ≡ Some (t, a) → Kinds s t item a
  of_taken item t a (Some step) took h =
      let pair : made_of s n item step ≡ (t, a) = cc in
      subst (λ (p : StoredState × StoredAnswer). Kinds s p.0 item p.1) pair (item_kind item step.0 step.1 took)
  of_taken item t a None took h = cc

  pub kinds : (item : JournalItem) (t : StoredState) (a : StoredAnswer) → answer_item s n item ≡ Some (t, a)
      → Kinds s t item a
  kinds item t a h = of_taken item t a (taken s item) refl h

-- an item that is refused leaves the state
pub refused_stays : (t t' : StoredState) (n : ℕ) (line : Line) (a : StoredAnswer) → answer t n line ≡ Some (t', a)
    → a.payload
    ≡ None → t' ≡ t
refused_stays t t' n line a e none =
    elim (kinds t n (change_of_line line) t' a e) [ inl r ↦ r.same | inr r ↦ let p = r.payload in cc ]
