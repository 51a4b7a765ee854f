-- The number of an item changes the answer line of a hub alone.
use Rattle.std.proofs.Common.{◌≡◌, ℕ, List, Option, None, Some, option_map, Result, Ok, Err, refl, ap}
use Rattle.answer_text.specs.Lines.{fault_line}
use Rattle.edit_module.specs.Words.{WordTree}
use Rattle.view_hub.specs.Groups.{GroupStepped, step_group}
use Rattle.view_hub.specs.Hubs.{HubTree, CarriedTree, Place, ViewRefusal, hub_step}
use Rattle.hub_run.specs.FormLenses.{form_lens}
use Rattle.hub_run.specs.Runs.{HubState}
use Rattle.store_run.specs.declared.session.StoredAnswer.{StoredAnswer}
use Rattle.hub_records.specs.HubChanges.{one, group, hub_change_of_line}
use Rattle.hub_session.specs.HubAnswers.{HubJournalItem, refused_with, edit_answered, hub_group_answered, hub_answer_item}
use Rattle.hub_session.specs.HubStates.{stored_hub}
use Rattle.law_stores.specs.SessionRuns.{IsNumberedAlike}

abbrev Step : Type 0
Step = HubState × StoredAnswer

-- the same step, but for the answer line
abbrev Alike : Option Step → Step → Type 0
Alike o step = (other : Step) × (o ≡ Some other) × (other.0 ≡ step.0) × (other.1.payload ≡ step.1.payload)

module _ (s : HubState) (n m : ℕ) where
  edit_alike : (e : Place × WordTree) (o : Option (Result (HubTree × CarriedTree) ViewRefusal)) (step : Step) → option_map (edit_answered s n e) o ≡ Some step
      → Alike (option_map (edit_answered s m e) o) step
  edit_alike e (Some (Ok r)) step h =
      let same : edit_answered s n e (Ok r) ≡ step = cc in
      (edit_answered s m e (Ok r), refl, ap (λ (x : Step). x.0) same, ap (λ (x : Step). x.1.payload) same)
  edit_alike e (Some (Err why)) step h =
      let same : edit_answered s n e (Err why) ≡ step = cc in
      (edit_answered s m e (Err why), refl, ap (λ (x : Step). x.0) same, ap (λ (x : Step). x.1.payload) same)
  edit_alike e None step h = absurd cc

  group_alike : (es : List (Place × WordTree)) (o : Option GroupStepped) (step : Step) → option_map (hub_group_answered s n es) o ≡ Some step
      → Alike (option_map (hub_group_answered s m es) o) step
  group_alike es (Some (Ok r)) step h =
      let same : hub_group_answered s n es (Ok r) ≡ step = cc in
      (hub_group_answered s m es (Ok r), refl, ap (λ (x : Step). x.0) same, ap (λ (x : Step). x.1.payload) same)
  group_alike es (Some (Err why)) step h =
      let same : hub_group_answered s n es (Err why) ≡ step = cc in
      (hub_group_answered s m es (Err why), refl, ap (λ (x : Step). x.0) same, ap (λ (x : Step). x.1.payload) same)
  group_alike es None step h = absurd cc

  item_alike : (item : HubJournalItem) (step : Step) → hub_answer_item s n item ≡ Some step → Alike (hub_answer_item s m item) step
  item_alike (Ok (one e)) made h = edit_alike e (hub_step form_lens s.forms s.hub e) made h
  item_alike (Ok (group es)) made h = group_alike es (step_group form_lens s.forms s.hub es) made h
  item_alike (Err fault) made h =
      let same : refused_with s (fault_line n fault) ≡ made = cc in
      (refused_with s (fault_line m fault), refl, ap (λ (x : Step). x.0) same, ap (λ (x : Step). x.1.payload) same)

-- `view` is the state of a value that answers, of which nothing is used here
pub numbered_alike : {A : Type 0} (view : A → HubState) → IsNumberedAlike (stored_hub view)
numbered_alike view s n m line made h = item_alike s n m (hub_change_of_line line) made h
