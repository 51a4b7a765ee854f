-- The tree of a change that is accepted nests at most as deep as the reader of JSON reads back.
use Rattle.std.proofs.Common.{◌≡◌, ℕ, zero, suc, ◌+◌, ◌*◌, ◌≤◌, ◌<◌, add-one, List, [], ◌∷◌, take, length, get_or, slice_get, Option, Some, None, Result, Ok, Err, refl, subst, arith}
use Rattle.std.specs.Prelude.{option_map, option_and_then}
use Rattle.std.proofs.lemmas.List.{take_all}
use Rattle.serde_json.specs.Data.{depth, items_depth}
use Rattle.serde_json.specs.Read.{max_depth}
use Rattle.doc_values.specs.Documents.{DocTree}
use Rattle.edit_module.specs.Depths.{word_depth}
use Rattle.edit_module.specs.Action.{act, Why}
use Rattle.edit_module.specs.Words.{WordTree}
use Rattle.lens_core.specs.Complements.{CompTree}
use Rattle.lens_flat.specs.declared.flat.ReadyForm.{ReadyForm}
use Rattle.lens_forms.specs.Forms.{FormTree, form_tree, left_type, right_type}
use Rattle.lens_forms.specs.declared.limits.TheConstants.{GREATEST_HEIGHT}
use Rattle.store_records.proofs.AppliedWords.{word_low}
use Rattle.view_hub.specs.Groups.{GroupStepped, with_words, then_others, step_group}
use Rattle.view_hub.specs.Hubs.{ViewTree, HubTree, Place, at_hub, at_view, CarriedTree, ViewRefusal, act_on_hub, after_hub, after_view, step_view, hub_step}
use Rattle.hub_run.specs.FormLenses.{form_lens}
use Rattle.hub_run.specs.RunStates.{forms_of_lenses}
use Rattle.hub_records.specs.HubChanges.{HubChangeTree, one, group, items_of_edits, tree_of_hub_change}
use Rattle.hub_records.specs.HubStands.{hub_step_of}
use Rattle.hub_records.specs.LowForms.{IsLow, AllLow}
use Rattle.hub_records.proofs.HubTrees.{edit_shallow}

-- ---- the loop over lenses

low_at : (ls : List ReadyForm) (i : ℕ) (d : ReadyForm) → i < length ls → AllLow (forms_of_lenses (take i ls)) → IsLow (form_tree (get_or ls i d).typed)
    → AllLow (forms_of_lenses (take (suc i) ls))
low_at [] i d within all here = absurd (omega arith)
low_at (l ∷ ls) zero d within all here = (here, tt)
low_at (l ∷ ls) (suc i) d within all here = (all.0, low_at ls i d (omega arith) all.1 here)

pub next_low : (ls : List ReadyForm) (i : ℕ) (l : ReadyForm) → i < length ls → l ≡ get_or ls i l → AllLow (forms_of_lenses (take i ls)) → IsLow (form_tree l.typed)
    → AllLow (forms_of_lenses (take (i + 1) ls))
next_low ls i l within is all here =
    rw add-one (low_at ls i l within all (subst (λ (m : ReadyForm). IsLow (form_tree m.typed)) is here))

pub all_low : (ls : List ReadyForm) (i : ℕ) → length ls ≤ i → AllLow (forms_of_lenses (take i ls)) → AllLow (forms_of_lenses ls)
all_low ls i past all = subst (λ (xs : List ReadyForm). AllLow (forms_of_lenses xs)) (take_all i ls past) all

-- ---- an edit that is accepted acts on the document that is edited

module _ (ls : List FormTree) (low : AllLow ls) where
  abbrev Stepped : Type 0
  Stepped = Result (HubTree × CarriedTree) ViewRefusal

  low_at_place : (ms : List FormTree) (k : ℕ) (l : FormTree) → AllLow ms → slice_get ms k ≡ Some l → IsLow l
  low_at_place [] k l all is = cc
  low_at_place (m ∷ ms) zero l all is = let same : m ≡ l = cc in subst IsLow same all.0
  low_at_place (m ∷ ms) (suc k) l all is = low_at_place ms k l all.1 is

  hub_acts : (w : WordTree) (h : HubTree) (r : HubTree × CarriedTree) (a : Result DocTree Why) → after_hub form_lens ls h.views w a ≡ Some (Ok r) → (x : DocTree) × (a ≡ Ok x)
  hub_acts w h r (Ok x) is = (x, refl)
  hub_acts w h r (Err why) is = cc

  on_hub : (ms : List FormTree) (w : WordTree) (h : HubTree) (r : HubTree × CarriedTree) → AllLow ms
      → option_and_then (after_hub form_lens ls h.views w) (act_on_hub form_lens ms w h.hub) ≡ Some (Ok r) → word_depth w ≤ GREATEST_HEIGHT
  on_hub [] w h r all is = cc
  on_hub (m ∷ ms) w h r all is =
      let a = hub_acts w h r (act (left_type m) w h.hub) is in
      let type = all.0.left in
      omega (arith, word_low w (left_type m) h.hub a.0 a.1, type)

  view_acts : (w : WordTree) (h : HubTree) (k : ℕ) (l : FormTree) (c : CompTree) (r : HubTree × CarriedTree) (a : Result DocTree Why) → after_view form_lens ls h k l c w a ≡ Some (Ok r)
      → (x : DocTree) × (a ≡ Ok x)
  view_acts w h k l c r (Ok x) is = (x, refl)
  view_acts w h k l c r (Err why) is = cc

  at_lens : (w : WordTree) (h : HubTree) (k : ℕ) (v : ViewTree) (r : HubTree × CarriedTree) (o : Option FormTree) → slice_get ls k ≡ o
      → option_and_then (λ l. after_view form_lens ls h k l v.comp w (act (right_type l) w v.doc)) o ≡ Some (Ok r) → word_depth w ≤ GREATEST_HEIGHT
  at_lens w h k v r (Some l) there is =
      let a = view_acts w h k l v.comp r (act (right_type l) w v.doc) is in
      let type = (low_at_place ls k l low there).right in
      omega (arith, word_low w (right_type l) v.doc a.0 a.1, type)
  at_lens w h k v r None there is = cc

  on_view : (w : WordTree) (h : HubTree) (k : ℕ) (r : HubTree × CarriedTree) (o : Option ViewTree) → step_view form_lens ls h k w o ≡ Some (Ok r) → word_depth w ≤ GREATEST_HEIGHT
  on_view w h k r (Some v) is = at_lens w h k v r (slice_get ls k) refl is
  on_view w h k r None is = cc

  edit_low : (h : HubTree) (e : Place × WordTree) (r : HubTree × CarriedTree) → hub_step form_lens ls h e ≡ Some (Ok r) → word_depth e.1 ≤ GREATEST_HEIGHT
  edit_low h (at_hub, w) r is = on_hub ls w h r low is
  edit_low h (at_view k, w) r is = on_view w h k r (slice_get h.views k) is

  -- ---- the first edit of an accepted group is accepted, and the others are, too

  others_made : (o : Option GroupStepped) (c : CarriedTree) (m : HubTree × List CarriedTree) → option_map (with_words c) o ≡ Some (Ok m) → (n : HubTree × List CarriedTree) × (o ≡ Some (Ok n))
  others_made (Some (Ok n)) c m h = (n, refl)
  others_made (Some (Err why)) c m h = cc
  others_made None c m h = cc

  first_made : (others : HubTree → Option GroupStepped) (o : Option Stepped) (m : HubTree × List CarriedTree) → option_and_then (then_others others) o ≡ Some (Ok m)
      → (s : HubTree × CarriedTree) × (o ≡ Some (Ok s)) × (n : HubTree × List CarriedTree) × (others s.0 ≡ Some (Ok n))
  first_made others (Some (Ok s)) m h = let n = others_made (others s.0) s.1 m h in (s, refl, n.0, n.1)
  first_made others (Some (Err why)) m h = cc
  first_made others None m h = cc

  edits_low : (h : HubTree) (es : List (Place × WordTree)) (m : HubTree × List CarriedTree) → step_group form_lens ls h es ≡ Some (Ok m)
      → items_depth (items_of_edits es) ≤ 3 * GREATEST_HEIGHT + 2
  edits_low h [] m is = omega arith
  edits_low h (e ∷ es) m is =
      let f = first_made (λ next. step_group form_lens ls next es) (hub_step form_lens ls h e) m is in
      omega (arith, edit_shallow e, edit_low h e f.0 f.1, edits_low f.0.0 es f.2 f.3)

  pub accepted_low : (h : HubTree) (change : HubChangeTree) (m : HubTree × List CarriedTree) → hub_step_of ls h change ≡ Some (Ok m) → depth (tree_of_hub_change change) ≤ max_depth
  accepted_low h (one e) m is = omega (arith, edits_low h (e ∷ []) m is)
  accepted_low h (group es) m is = omega (arith, edits_low h es m is)
