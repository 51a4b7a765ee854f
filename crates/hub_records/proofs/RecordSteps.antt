-- What each record makes of an opened hub.
use Rattle.std.proofs.Common.{◌≡◌, ℕ, ◌+◌, Bool, true, false, cond, List, [], ◌∷◌, ◌++◌, Some, None, option_map, option_and_then, Result, Ok, Err, sym, ap, ◌∙◌}
use Rattle.serde_json.specs.Data.{Data, Items}
use Rattle.edit_inverse.specs.Construct.{construct}
use Rattle.edit_module.specs.Words.{WordTree}
use Rattle.lens_flat.specs.declared.flat.ReadyForm.{ReadyForm}
use Rattle.lens_forms.specs.Forms.{FormTree, form_tree, left_type}
use Rattle.store_records.specs.StoredLens.{form_of_text}
use Rattle.store_records.specs.declared.record_fault.RecordFault.TheVariants.{BadRecord, NotConsistent}
use Rattle.view_hub.specs.Groups.{RefusedPart, step_group, add_view}
use Rattle.view_hub.specs.Hubs.{HubTree, Place, CarriedTree}
use Rattle.hub_run.specs.RunStates.{forms_of_lenses, ready_lens}
use Rattle.hub_records.specs.HubChanges.{HubChangeTree, edits_of}
use Rattle.hub_records.specs.HubRecords.{change_record, add_record, snapshot_record}
use Rattle.hub_records.specs.HubLenses.{joining_form}
use Rattle.hub_records.specs.HubStands.{HubStanding, hub_step_of, hub_after_step, view_more, with_view_form, after_view_found, hub_from, are_consistent, after_hub_snapshot, hub_after_record}
use Rattle.hub_records.proofs.HubSteps.{groups_are}
use Rattle.hub_records.proofs.JoiningForms.{forms_snoc}

abbrev form_of : ReadyForm → FormTree
form_of l = form_tree l.typed

-- what stands of these lenses and this hub
abbrev pub standing : List ReadyForm → HubTree → ℕ → HubStanding
standing ls h count = record { forms = forms_of_lenses ls; hub = h; count = count }

-- what a lens adds for the word that makes the hub's document is what its form adds
pub added_more : (l : ReadyForm) (w : WordTree) (h k : HubTree) → w ≡ construct (left_type (form_of l)) h.hub → add_view ready_lens l w h ≡ Some k → view_more (form_of l) h ≡ Some k
added_more l w h k word added = ap (λ (x : WordTree). add_view ready_lens l x h) (sym word) ∙ added

module _ (n : ℕ) (ls : List ReadyForm) (h : HubTree) (count : ℕ) where
  -- ---- a change

  steps_are : (change : HubChangeTree) (es : List (Place × WordTree)) (r : Result (HubTree × List CarriedTree) RefusedPart) → es ≡ edits_of change
      → step_group ready_lens ls h es ≡ Some r → hub_step_of (forms_of_lenses ls) h change ≡ Some r
  steps_are change es r same is = sym (groups_are ls h (edits_of change)) ∙ ap (step_group ready_lens ls h) (sym same) ∙ is

  pub change_reaches : (change : HubChangeTree) (es : List (Place × WordTree)) (new : List ReadyForm) (k : HubTree) (words : List CarriedTree) → es ≡ edits_of change → new ≡ ls
      → step_group ready_lens ls h es ≡ Some (Ok (k, words)) → hub_after_record n (standing ls h count) (Some (change_record change)) ≡ Ok (standing new k (count + 1))
  change_reaches change es new k words same lenses is =
      ap (hub_after_step n (standing ls h count)) (steps_are change es (Ok (k, words)) same is) ∙ ap (λ (ms : List ReadyForm). Ok (standing ms k (count + 1))) (sym lenses)

  pub change_refused : (change : HubChangeTree) (es : List (Place × WordTree)) (why : RefusedPart) → es ≡ edits_of change
      → step_group ready_lens ls h es ≡ Some (Err why) → hub_after_record n (standing ls h count) (Some (change_record change)) ≡ Err (BadRecord n)
  change_refused change es why same is = ap (hub_after_step n (standing ls h count)) (steps_are change es (Err why) same is)

  -- ---- a view more

  pub view_refused : (text : List ℕ) → None ≡ joining_form (forms_of_lenses ls) (form_of_text text) → hub_after_record n (standing ls h count) (Some (add_record text)) ≡ Err (BadRecord n)
  view_refused text none = ap (λ o. after_view_found n (option_and_then (with_view_form (standing ls h count)) o)) (sym none)

  pub view_reaches : (text : List ℕ) (l : ReadyForm) (w : WordTree) (new : List ReadyForm) (k : HubTree) → Some (form_of l) ≡ joining_form (forms_of_lenses ls) (form_of_text text)
      → w ≡ construct (left_type (form_of l)) h.hub → add_view ready_lens l w h ≡ Some k → new ≡ ls ++ l ∷ []
      → hub_after_record n (standing ls h count) (Some (add_record text)) ≡ Ok (standing new k count)
  view_reaches text l w new k found word added lenses =
      let more : view_more (form_of l) h ≡ Some k = added_more l w h k word added in
      let with_it : with_view_form (standing ls h count) (form_of l) ≡ Some (record (standing ls h count) { forms = forms_of_lenses ls ++ form_of l ∷ []; hub = k }) =
      ap (option_map (λ (x : HubTree). record (standing ls h count) { forms = forms_of_lenses ls ++ form_of l ∷ []; hub = x })) more in
      let forms : forms_of_lenses new ≡ forms_of_lenses ls ++ form_of l ∷ [] = ap forms_of_lenses lenses ∙ forms_snoc ls l in
      ap (λ o. after_view_found n (option_and_then (with_view_form (standing ls h count)) o)) (sym found) ∙ ap (after_view_found n) with_it
      ∙ ap (λ (fs : List FormTree). Ok (record (standing ls h count) { forms = fs; hub = k })) (sym forms)

  -- ---- a snapshot

  pub snapshot_refused : (d : Data) (ds : Items) → None ≡ hub_from (forms_of_lenses ls) (d, ds) → hub_after_record n (standing ls h count) (Some (snapshot_record (d, ds))) ≡ Err (BadRecord n)
  snapshot_refused d ds none = ap (after_hub_snapshot n (standing ls h count)) (sym none)

  tested : (k : HubTree) (b : Bool) → b ≡ are_consistent (forms_of_lenses ls) k.hub k.views
      → after_hub_snapshot n (standing ls h count) (Some k) ≡ cond b (Ok (standing ls k count)) (Err (NotConsistent n))
  tested k b is = ap (λ (c : Bool). cond c (Ok (standing ls k count)) (Err (NotConsistent n))) (sym is)

  pub snapshot_reaches : (d : Data) (ds : Items) (k : HubTree) (new : List ReadyForm) (made : HubTree) → Some k ≡ hub_from (forms_of_lenses ls) (d, ds)
      → true ≡ are_consistent (forms_of_lenses ls) k.hub k.views → new ≡ ls → made ≡ k
      → hub_after_record n (standing ls h count) (Some (snapshot_record (d, ds))) ≡ Ok (standing new made count)
  snapshot_reaches d ds k new made found is lenses same =
      ap (after_hub_snapshot n (standing ls h count)) (sym found) ∙ tested k true is
      ∙ ap (λ (ms : List ReadyForm). Ok (standing ms k count)) (sym lenses) ∙ ap (λ (x : HubTree). Ok (standing new x count)) (sym same)

  pub snapshot_apart : (d : Data) (ds : Items) (k : HubTree) → Some k ≡ hub_from (forms_of_lenses ls) (d, ds)
      → false ≡ are_consistent (forms_of_lenses ls) k.hub k.views → hub_after_record n (standing ls h count) (Some (snapshot_record (d, ds))) ≡ Err (NotConsistent n)
  snapshot_apart d ds k found is = ap (after_hub_snapshot n (standing ls h count)) (sym found) ∙ tested k false is

pub ruleset record_rules = (change_reaches, change_refused, view_refused, view_reaches, snapshot_refused, snapshot_reaches, snapshot_apart)
