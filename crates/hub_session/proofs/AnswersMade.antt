-- The answers that a call makes are those of the definition.
use Rattle.std.proofs.Common.{◌≡◌, ℕ, ◌≤◌, List, [], ◌∷◌, Option, Some, None, option_map, option_and_then, Result, Ok, Err, IfOk, OnOk, true, refl, sym, ap, ◌∙◌}
use Rattle.serde_json.specs.Data.{depth}
use Rattle.serde_json.specs.Read.{max_depth}
use Rattle.edit_module.specs.Words.{WordTree}
use Rattle.edit_journal.specs.EntryJson.{LineFault, tree_of_text}
use Rattle.edit_journal.specs.Reading.{cause_of, IsRefused}
use Rattle.edit_journal.specs.declared.fault.EntryFault.{EntryFault}
use Rattle.edit_journal.specs.declared.fault.EntryFault.TheVariants.{LineTooLong, NotJson, NotAnEntry, NotAnEdit, NoMemory}
use Rattle.answer_text.specs.Lines.{fault_line}
use Rattle.lens_flat.specs.declared.flat.ReadyForm.{ReadyForm}
use Rattle.lens_forms.specs.Forms.{form_tree}
use Rattle.view_hub.specs.Groups.{then_others, step_group}
use Rattle.view_hub.specs.Laws.{IsHub}
use Rattle.view_hub.specs.Hubs.{HubTree, Place, CarriedTree, ViewRefusal, hub_step}
use Rattle.hub_run.specs.Answers.{hub_ok_line}
use Rattle.hub_run.specs.FormLenses.{form_lens}
use Rattle.hub_run.specs.FoundLenses.{AllTyped}
use Rattle.hub_run.specs.RunStates.{forms_of_lenses, ready_lens}
use Rattle.hub_run.specs.Runs.{HubState}
use Rattle.hub_run.proofs.MappedLenses.{steps_are}
use Rattle.store_run.specs.declared.session.StoredAnswer.{StoredAnswer}
use Rattle.store_session.proofs.AnswersMade.{answer_is}
use Rattle.hub_records.specs.HubChanges.{HubChangeTree, one, group, tree_of_hub_change}
use Rattle.hub_records.specs.HubRecords.{tree_of_hub_snapshot}
use Rattle.hub_records.specs.LowForms.{AllLow}
use Rattle.hub_records.specs.WholeInts.{hub_holds_i64s}
use Rattle.hub_records.proofs.HubSteps.{groups_are}
use Rattle.hub_records.proofs.LowForms.{accepted_low}
use Rattle.hub_session.specs.HubStates.{HasHubSnapshot, hub_snapshot_text}
use Rattle.hub_session.specs.HubAnswers.{HubJournalItem, hub_change_text, group_ok_line, refused_edit_line, refused_hub_part_line, edit_answered, hub_group_answered, hub_answer_item}

-- the state of these lenses and this hub
abbrev pub state : List ReadyForm → HubTree → HubState
state ls h = record { forms = forms_of_lenses ls; hub = h }

module _ (ls : List ReadyForm) (h : HubTree) (n : ℕ) where
  abbrev made : HubTree → StoredAnswer → Option (HubState × StoredAnswer)
  made k a = Some (state ls k, a)

  edit_step : (e : Place × WordTree) (r : Result (HubTree × CarriedTree) ViewRefusal) → hub_step ready_lens ls h e ≡ Some r → hub_step form_lens (forms_of_lenses ls) h e ≡ Some r
  edit_step e r is = sym (steps_are (λ (l : ReadyForm). form_tree l.typed) form_lens ls h e) ∙ is

  pub edit_accepted : (e : Place × WordTree) (k : HubTree) (c : CarriedTree) (a : StoredAnswer) → hub_step ready_lens ls h e ≡ Some (Ok (k, c))
      → a.line ≡ hub_ok_line n c → a.payload ≡ Some (hub_change_text (one e)) → hub_answer_item (state ls h) n (Ok (one e)) ≡ made k a
  edit_accepted e k c a is line payload =
      ap (option_map (edit_answered (state ls h) n e)) (edit_step e (Ok (k, c)) is) ∙ ap (made k) (sym (answer_is a (hub_ok_line n c) (Some (hub_change_text (one e))) line payload))

  pub edit_refused : (e : Place × WordTree) (why : ViewRefusal) (a : StoredAnswer) → hub_step ready_lens ls h e ≡ Some (Err why)
      → a.line ≡ refused_edit_line n why → a.payload ≡ None → hub_answer_item (state ls h) n (Ok (one e)) ≡ made h a
  edit_refused e why a is line payload =
      ap (option_map (edit_answered (state ls h) n e)) (edit_step e (Err why) is) ∙ ap (made h) (sym (answer_is a (refused_edit_line n why) None line payload))

  pub group_accepted : (es : List (Place × WordTree)) (k : HubTree) (cs : List CarriedTree) (a : StoredAnswer) → step_group ready_lens ls h es ≡ Some (Ok (k, cs))
      → a.line ≡ group_ok_line n cs → a.payload ≡ Some (hub_change_text (group es)) → hub_answer_item (state ls h) n (Ok (group es)) ≡ made k a
  group_accepted es k cs a is line payload =
      ap (option_map (hub_group_answered (state ls h) n es)) (sym (groups_are ls h es) ∙ is) ∙ ap (made k) (sym (answer_is a (group_ok_line n cs) (Some (hub_change_text (group es))) line payload))

  pub group_refused : (es : List (Place × WordTree)) (part : ℕ) (why : ViewRefusal) (a : StoredAnswer) → step_group ready_lens ls h es ≡ Some (Err (part, why))
      → a.line ≡ refused_hub_part_line n part why → a.payload ≡ None → hub_answer_item (state ls h) n (Ok (group es)) ≡ made h a
  group_refused es part why a is line payload =
      ap (option_map (hub_group_answered (state ls h) n es)) (sym (groups_are ls h es) ∙ is) ∙ ap (made h) (sym (answer_is a (refused_hub_part_line n part why) None line payload))

  -- the same of a change that is such an edit or such a group, over the lenses that a call leaves

  pub edit_answer : (change : HubChangeTree) (e : Place × WordTree) (new : List ReadyForm) (k : HubTree) (c : CarriedTree) (a : StoredAnswer) → change ≡ one e → new ≡ ls
      → hub_step ready_lens ls h e ≡ Some (Ok (k, c)) → a.line ≡ hub_ok_line n c → a.payload ≡ Some (hub_change_text change) → hub_answer_item (state ls h) n (Ok change) ≡ Some (state new k, a)
  edit_answer change e new k c a same lenses is line payload =
      ap (λ (x : HubChangeTree). hub_answer_item (state ls h) n (Ok x)) same ∙ edit_accepted e k c a is line (payload ∙ ap (λ (x : HubChangeTree). Some (hub_change_text x)) same)
      ∙ ap (λ (ms : List ReadyForm). Some (state ms k, a)) (sym lenses)

  pub edit_refusal : (change : HubChangeTree) (e : Place × WordTree) (why : ViewRefusal) (a : StoredAnswer) → change ≡ one e → hub_step ready_lens ls h e ≡ Some (Err why)
      → a.line ≡ refused_edit_line n why → a.payload ≡ None → hub_answer_item (state ls h) n (Ok change) ≡ made h a
  edit_refusal change e why a same is line payload = ap (λ (x : HubChangeTree). hub_answer_item (state ls h) n (Ok x)) same ∙ edit_refused e why a is line payload

  pub group_answer : (change : HubChangeTree) (es : List (Place × WordTree)) (new : List ReadyForm) (k : HubTree) (cs : List CarriedTree) (a : StoredAnswer) → change ≡ group es → new ≡ ls
      → step_group ready_lens ls h es ≡ Some (Ok (k, cs)) → a.line ≡ group_ok_line n cs → a.payload ≡ Some (hub_change_text change) → hub_answer_item (state ls h) n (Ok change) ≡ Some (state new k, a)
  group_answer change es new k cs a same lenses is line payload =
      ap (λ (x : HubChangeTree). hub_answer_item (state ls h) n (Ok x)) same ∙ group_accepted es k cs a is line (payload ∙ ap (λ (x : HubChangeTree). Some (hub_change_text x)) same)
      ∙ ap (λ (ms : List ReadyForm). Some (state ms k, a)) (sym lenses)

  pub group_refusal : (change : HubChangeTree) (es : List (Place × WordTree)) (part : ℕ) (why : ViewRefusal) (a : StoredAnswer) → change ≡ group es
      → step_group ready_lens ls h es ≡ Some (Err (part, why)) → a.line ≡ refused_hub_part_line n part why → a.payload ≡ None → hub_answer_item (state ls h) n (Ok change) ≡ made h a
  group_refusal change es part why a same is line payload = ap (λ (x : HubChangeTree). hub_answer_item (state ls h) n (Ok x)) same ∙ group_refused es part why a is line payload

  -- the tree of a change that was accepted is read back

  pub edit_low : (e : Place × WordTree) (k : HubTree) (c : CarriedTree) → AllLow (forms_of_lenses ls) → hub_step ready_lens ls h e ≡ Some (Ok (k, c)) → depth (tree_of_hub_change (one e)) ≤ max_depth
  edit_low e k c low is =
      accepted_low (forms_of_lenses ls) low h (one e) (k, c ∷ [])
      (ap (option_and_then (then_others (λ (next : HubTree). step_group form_lens (forms_of_lenses ls) next []))) (edit_step e (Ok (k, c)) is))

  pub group_low : (es : List (Place × WordTree)) (k : HubTree) (cs : List CarriedTree) → AllLow (forms_of_lenses ls) → step_group ready_lens ls h es ≡ Some (Ok (k, cs))
      → depth (tree_of_hub_change (group es)) ≤ max_depth
  group_low es k cs low is = accepted_low (forms_of_lenses ls) low h (group es) (k, cs) (sym (groups_are ls h es) ∙ is)

-- a line that is not a change leaves the state
of_cause : (s : HubState) (n : ℕ) (item : HubJournalItem) (cause : LineFault) (a : StoredAnswer) → item ≡ Err cause → a.line ≡ fault_line n cause → a.payload ≡ None → hub_answer_item s n item ≡ Some (s, a)
of_cause s n item cause a is line payload =
    ap (hub_answer_item s n) is ∙ ap (λ (x : StoredAnswer). Some (s, x)) (sym (answer_is a (fault_line n cause) None line payload))

pub fault_refused : (s : HubState) (n : ℕ) (item : HubJournalItem) (fault : EntryFault) (a : StoredAnswer) → (fault ≡ NoMemory → ⊥) → IsRefused (cause_of fault) item
    → ((cause : LineFault) → cause_of fault ≡ Some cause → a.line ≡ fault_line n cause) → a.payload ≡ None → hub_answer_item s n item ≡ Some (s, a)
fault_refused s n item LineTooLong a known is line payload = of_cause s n item _ a is (line _ refl) payload
fault_refused s n item NotJson a known is line payload = of_cause s n item _ a is (line _ refl) payload
fault_refused s n item NotAnEntry a known is line payload = of_cause s n item _ a is (line _ refl) payload
fault_refused s n item NotAnEdit a known is line payload = of_cause s n item _ a is (line _ refl) payload
fault_refused s n item NoMemory a known is line payload = absurd (known refl)

-- ---- what a result has

pub both_ok : {X E : Type 0} (r : Result X E) (P Q R : X → Type 0) → ((x : X) → P x → Q x → R x) → IfOk r P → IfOk r Q → IfOk r R
both_ok (Ok x) P Q R f p q = f x p q
both_ok (Err e) P Q R f p q = tt

pub has_snapshot : {E : Type 0} (r : Result (List ℕ) E) (s : HubState) → AllTyped s.forms → IsHub form_lens s.forms s.hub → IfOk r (λ p. p ≡ hub_snapshot_text s) → IfOk r (λ p. tree_of_text p ≡ Some (tree_of_hub_snapshot s.forms s.hub))
    → OnOk r (hub_holds_i64s s.hub ≡ true) → OnOk r (HasHubSnapshot s)
has_snapshot (Ok p) s typed in_step text reads ints = record { reads = ap tree_of_text (sym text) ∙ reads; typed = typed; in_step = in_step; whole = ints }
has_snapshot (Err e) s typed in_step text reads ints = tt
