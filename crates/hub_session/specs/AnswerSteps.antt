-- What an answer is: the state stays and there is no payload, or it is the payload of a change that makes the step.
-- Lemmas, which stand here since the laws of an `impl` cite them.
use Rattle.std.proofs.Common.{◌≡◌, ◌⊎◌, inl, inr, ℕ, List, [], ◌∷◌, Option, Some, None, option_map, option_and_then}
use Rattle.std.proofs.Common.{Result, Ok, Err, refl, ap, subst}
use Rattle.edit_journal.specs.declared.line.Line.{Line}
use Rattle.edit_module.specs.Words.{WordTree}
use Rattle.answer_text.specs.Lines.{fault_line}
use Rattle.view_hub.specs.Groups.{GroupStepped, then_others, step_group}
use Rattle.view_hub.specs.Hubs.{HubTree, CarriedTree, Place, ViewRefusal, hub_step}
use Rattle.hub_run.specs.FormLenses.{form_lens}
use Rattle.hub_run.specs.Runs.{HubState}
use Rattle.store_run.specs.declared.session.StoredAnswer.{StoredAnswer}
use Rattle.hub_records.specs.HubChanges.{HubChangeTree, one, group, hub_change_of_line}
use Rattle.hub_records.specs.HubStands.{hub_step_of}
use Rattle.hub_session.specs.HubAnswers.{HubJournalItem, hub_change_text, refused_with, edit_answered}
use Rattle.hub_session.specs.HubAnswers.{hub_group_answered}
use Rattle.hub_session.specs.HubAnswers.{hub_answer_item, stored_hub_answer}

-- the state stays, and there is no payload
pub record Stays (s t : HubState) (a : StoredAnswer) : Type 0 where
  pub same : t ≡ s
  pub none : a.payload ≡ None

-- the change of the item makes the step, and the payload is its
pub record Steps (s t : HubState) (item : HubJournalItem) (a : StoredAnswer) : Type 0 where
  pub change : HubChangeTree
  pub is : item ≡ Ok change
  pub forms : t.forms ≡ s.forms
  pub words : List CarriedTree
  pub step : hub_step_of s.forms s.hub change ≡ Some (Ok (t.hub, words))
  pub payload : a.payload ≡ Some (hub_change_text change)

abbrev pub Kinds : HubState → HubState → HubJournalItem → StoredAnswer → Type 0
Kinds s t item a = Stays s t a ⊎ Steps s t item a

module _ (s : HubState) (n : ℕ) where
  abbrev KindOf : HubJournalItem → HubState × StoredAnswer → Type 0
  KindOf item p = Kinds s p.0 item p.1

  edit_kind : (e : Place × WordTree) (o : Option (Result (HubTree × CarriedTree) ViewRefusal)) (t : HubState)
      (a : StoredAnswer)
      → hub_step form_lens s.forms s.hub e ≡ o
      → option_map (edit_answered s n e) o ≡ Some (t, a) → Kinds s t (Ok (one e)) a
  edit_kind e (Some (Ok r)) t a is h =
      let pair : edit_answered s n e (Ok r) ≡ (t, a) = cc in
      subst (KindOf (Ok (one e))) pair
      (inr (record {
        change = one e;
        is = refl;
        forms = refl;
        words = r.1 ∷ [];
        step = ap (option_and_then (then_others (λ (next : HubTree). step_group form_lens s.forms next []))) is;
        payload = refl;
      }))
  edit_kind e (Some (Err why)) t a is h =
      let pair : edit_answered s n e (Err why) ≡ (t, a) = cc in
      subst (KindOf (Ok (one e))) pair (inl (record { same = refl; none = refl }))
  edit_kind e None t a is h = cc

  group_kind : (es : List (Place × WordTree)) (o : Option GroupStepped) (t : HubState) (a : StoredAnswer)
      → step_group form_lens s.forms s.hub es ≡ o
      → option_map (hub_group_answered s n es) o ≡ Some (t, a) → Kinds s t (Ok (group es)) a
  group_kind es (Some (Ok r)) t a is h =
      let pair : hub_group_answered s n es (Ok r) ≡ (t, a) = cc in
      subst (KindOf (Ok (group es))) pair
      (inr (record { change = group es; is = refl; forms = refl; words = r.1; step = is; payload = refl }))
  group_kind es (Some (Err why)) t a is h =
      let pair : hub_group_answered s n es (Err why) ≡ (t, a) = cc in
      subst (KindOf (Ok (group es))) pair (inl (record { same = refl; none = refl }))
  group_kind es None t a is h = cc

  pub kinds : (item : HubJournalItem) (t : HubState) (a : StoredAnswer) → hub_answer_item s n item ≡ Some (t, a)
      → Kinds s t item a
  kinds (Ok (one e)) t a h = edit_kind e (hub_step form_lens s.forms s.hub e) t a refl h
  kinds (Ok (group es)) t a h = group_kind es (step_group form_lens s.forms s.hub es) t a refl h
  kinds (Err fault) t a h =
      let pair : refused_with s (fault_line n fault) ≡ (t, a) = cc in
      subst (KindOf (Err fault)) pair (inl (record { same = refl; none = refl }))

-- an item that is refused leaves the state
pub refused_stays : (t t' : HubState) (n : ℕ) (line : Line) (a : StoredAnswer)
    → stored_hub_answer t n line ≡ Some (t', a)
    → a.payload ≡ None → t' ≡ t
refused_stays t t' n line a e none = elim (kinds t n (hub_change_of_line line) t' a e) [
  | inl r ↦ r.same
  | inr r ↦ let p =
      r.payload in cc
]
