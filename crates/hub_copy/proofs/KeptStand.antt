-- The payloads that are kept stand for a hub with the views of all.
use Rattle.std.proofs.Common.{◌≡◌, ℕ, zero, suc, ◌+◌, ◌<◌, Bool, true, false, cond, List, [], ◌∷◌, ◌++◌}
use Rattle.std.proofs.Common.{append_assoc, append-nil, length, take, drop, Option, Some, None, Result, Ok, Err}
use Rattle.std.proofs.Common.{refl, sym, ap, ◌∙◌, arith}
use Rattle.std.specs.Prelude.{option_map, option_and_then}
use Rattle.lens_forms.specs.Forms.{FormTree}
use Rattle.store_records.specs.StoredLens.{form_of_text}
use Rattle.store_records.specs.declared.record_fault.RecordFault.{RecordFault}
use Rattle.store_records.specs.declared.record_fault.RecordFault.TheVariants.{NotConsistent}
use Rattle.view_hub.specs.Groups.{GroupStepped, with_view}
use Rattle.view_hub.specs.Hubs.{HubTree, ViewTree}
use Rattle.hub_records.proofs.Appending.{stands_append}
use Rattle.hub_records.proofs.JoiningForms.{joined}
use Rattle.hub_records.proofs.StoodInStep.{stood_sound}
use Rattle.hub_records.specs.HubLenses.{forms_of_payload, joining_form, joins}
use Rattle.hub_records.specs.HubRecords.{HubRecordTree, add_record, change_record, hub_record_in, snapshot_record}
use Rattle.hub_records.specs.HubStands.{HubStanding, after_add, after_hub_snapshot, after_view_found, are_consistent}
use Rattle.hub_records.specs.HubStands.{hub_after_payloads, hub_after_record, hub_after_step, hub_at_start, hub_from}
use Rattle.hub_records.specs.HubStands.{hub_from_opening, hub_going_on, hub_step_of, stands_as_hub, view_more}
use Rattle.hub_records.specs.HubStands.{with_view_form}
use Rattle.hub_copy.specs.KeptRecords.{HasMoreViews, KeepsViews, added_views, is_view_more}
use Rattle.hub_copy.proofs.LaterViews.{later_view, typed_text}

-- ---- a record that was taken, and the others behind it

abbrev GoesOn : (HubStanding → Result HubStanding RecordFault) → Result HubStanding RecordFault → HubStanding → Type 0
GoesOn others r t = (s : HubStanding) × (r ≡ Ok s) × (others s ≡ Ok t)

goes_on : (others : HubStanding → Result HubStanding RecordFault) (r : Result HubStanding RecordFault) (t : HubStanding)
    → hub_going_on others r ≡ Ok t → GoesOn others r t
goes_on others (Ok s) t h = (s, refl, h)
goes_on others (Err fault) t h = absurd cc

abbrev forms_in : HubStanding → List FormTree
forms_in s = s.forms

module _ (n : ℕ) (s u : HubStanding) where
  -- ---- records that leave the lenses

  step_forms : (o : Option GroupStepped) → hub_after_step n s o ≡ Ok u → s.forms ≡ u.forms
  step_forms (Some (Ok made)) h =
      let same : record s { hub = made.0; count = s.count + 1 } ≡ u = cc in
      ap forms_in same
  step_forms (Some (Err why)) h = absurd cc
  step_forms None h = absurd cc

  test_forms : (x : HubTree) (b : Bool) → cond b (Ok (record s { hub = x })) (Err (NotConsistent n)) ≡ Ok u
      → s.forms ≡ u.forms
  test_forms x true h =
      let same : record s { hub = x } ≡ u = cc in
      ap forms_in same
  test_forms x false h = absurd cc

  snapshot_forms : (o : Option HubTree) → after_hub_snapshot n s o ≡ Ok u → s.forms ≡ u.forms
  snapshot_forms (Some x) h = test_forms x (are_consistent s.forms x.hub x.views) h
  snapshot_forms None h = absurd cc

  -- ---- a record that adds a lens

  -- the lens is accepted, it may stand behind the others, and stands there then
  record Adds (text : List ℕ) : Type 0 where
    pub lens : FormTree
    pub found : form_of_text text ≡ Some lens
    pub may : joins s.forms lens ≡ true
    pub forms : s.forms ++ lens ∷ [] ≡ u.forms

  added_forms : (l : FormTree) (o : Option HubTree)
      → after_view_found n (option_map (λ (x : HubTree). record s { forms = s.forms ++ l ∷ []; hub = x }) o) ≡ Ok u
      → s.forms ++ l ∷ [] ≡ u.forms
  added_forms l (Some x) h =
      let same : record s { forms = s.forms ++ l ∷ []; hub = x } ≡ u = cc in
      ap forms_in same
  added_forms l None h = absurd cc

  adds_by : (text : List ℕ) (o : Option FormTree) → joining_form s.forms (form_of_text text) ≡ o
      → after_view_found n (option_and_then (with_view_form s) o) ≡ Ok u → Adds text
  adds_by text (Some l) is h =
      let j = joined s.forms (form_of_text text) l is in
      record { lens = l; found = j.0; may = j.1; forms = added_forms l (view_more l s.hub) h }
  adds_by text None is h = absurd cc

-- ---- a view more behind payloads that are kept

if_true : {X : Type 0} (b : Bool) (x y : X) → b ≡ true → cond b x y ≡ x
if_true true x y h = refl
if_true false x y h = absurd cc

-- what stands with one view more
abbrev one_later : HubStanding → FormTree → ViewTree → HubStanding
one_later w l v = record { forms = w.forms ++ l ∷ []; hub = with_view w.hub v; count = w.count }

module _ (kept : List (List ℕ)) (w : HubStanding) (is : stands_as_hub kept ≡ Ok w) (p text : List ℕ) (l : FormTree)
    (adds : hub_record_in p ≡ Some (add_record text)) (found : form_of_text text ≡ Some l)
    (may : joins w.forms l ≡ true) where
  abbrev number : ℕ
  number = length kept + 1

  view_behind : (v : ViewTree) → view_more l w.hub ≡ Some (with_view w.hub v)
      → stands_as_hub (kept ++ p ∷ []) ≡ Ok (one_later w l v)
  view_behind v more =
      let stays : joining_form w.forms (Some l) ≡ Some l = if_true (joins w.forms l) (Some l) None may in
      stands_append kept p w is
      ∙ ap (hub_after_record number w) adds
      ∙ ap (after_add number w) found
      ∙ ap (λ o. after_view_found number (option_and_then (with_view_form w) o)) stays
      ∙ ap
      (λ o. after_view_found number
      (option_map (λ (x : HubTree). record w { forms = w.forms ++ l ∷ []; hub = x }) o)) more

  behind_kept : (v : ViewTree) × (stands_as_hub (kept ++ p ∷ []) ≡ Ok (one_later w l v))
  behind_kept =
      let later = later_view l (typed_text text l found) w.hub w.forms (stood_sound kept w is).1 may in
      (later.0, view_behind later.0 later.1)

-- ---- the payloads that add views, behind some that are kept

-- they stand for the same document as those alone, and have the lenses of the other hub
record AddedBehind (kept : List (List ℕ)) (w t : HubStanding) : Type 0 where
  pub u : HubStanding
  pub is : stands_as_hub kept ≡ Ok u
  pub lenses : u.forms ≡ t.forms
  pub more : HasMoreViews w u

same_views : (w : HubStanding) → HasMoreViews w w
same_views w = record { document = refl; later = []; views = sym (append-nil w.hub.views); count = refl }

-- one view more, and others behind it
views_later : (w u : HubStanding) (l : FormTree) (v : ViewTree) → HasMoreViews (one_later w l v) u → HasMoreViews w u
views_later w u l v m =
    record {
      document = m.document;
      later = v ∷ m.later;
      views = m.views ∙ append_assoc w.hub.views (v ∷ []) m.later;
      count = m.count;
    }

module _ (n : ℕ) (s t : HubStanding) (p : List ℕ) (ps : List (List ℕ)) where
  abbrev Others : HubStanding → Result HubStanding RecordFault
  Others x = hub_after_payloads (n + 1) x ps

  -- the payloads behind the first of these
  abbrev Rest : Type 0
  Rest = (x : HubStanding) (kept : List (List ℕ)) (w : HubStanding) → Others x ≡ Ok t → stands_as_hub kept ≡ Ok w
      → w.forms ≡ x.forms → AddedBehind (kept ++ added_views ps) w t

  module _ (rest : Rest) (kept : List (List ℕ)) (w : HubStanding) (is : stands_as_hub kept ≡ Ok w)
      (same : w.forms ≡ s.forms) where
    view_added_behind : (x : HubStanding) → Others x ≡ Ok t → (text : List ℕ) → hub_record_in p ≡ Some (add_record text)
        → Adds n s x text → AddedBehind (kept ++ p ∷ added_views ps) w t
    view_added_behind x others text adds a =
        let may : joins w.forms a.lens ≡ true = ap (λ fs. joins fs a.lens) same ∙ a.may in
        let b = behind_kept kept w is p text a.lens adds a.found may in
        let forms : w.forms ++ a.lens ∷ [] ≡ x.forms = ap (λ fs. fs ++ a.lens ∷ []) same ∙ a.forms in
        let g = rest x (kept ++ p ∷ []) (one_later w a.lens b.0) others b.1 forms in
        record {
          u = g.u;
          is = ap stands_as_hub (sym (append_assoc kept (p ∷ []) (added_views ps))) ∙ g.is;
          lenses = g.lenses;
          more = views_later w g.u a.lens b.0 g.more;
        }

    record_added_behind : (r : Option HubRecordTree) → hub_record_in p ≡ r → hub_going_on Others (hub_after_record n s r) ≡ Ok t
        → AddedBehind (kept ++ cond (is_view_more r) (p ∷ added_views ps) (added_views ps)) w t
    record_added_behind None e h = absurd cc
    record_added_behind (Some (change_record change)) e h =
        let k = goes_on Others (hub_after_record n s (Some (change_record change))) t h in
        rest k.0 kept w k.2 is (same ∙ step_forms n s k.0 (hub_step_of s.forms s.hub change) k.1)
    record_added_behind (Some (add_record text)) e h =
        let k = goes_on Others (hub_after_record n s (Some (add_record text))) t h in
        view_added_behind k.0 k.2 text e (adds_by n s k.0 text (joining_form s.forms (form_of_text text)) refl k.1)
    record_added_behind (Some (snapshot_record d)) e h =
        let k = goes_on Others (hub_after_record n s (Some (snapshot_record d))) t h in
        rest k.0 kept w k.2 is (same ∙ snapshot_forms n s k.0 (hub_from s.forms d) k.1)

views_added_behind : (n : ℕ) (s t : HubStanding) (ps kept : List (List ℕ)) (w : HubStanding) → hub_after_payloads n s ps ≡ Ok t
    → stands_as_hub kept ≡ Ok w → w.forms ≡ s.forms → AddedBehind (kept ++ added_views ps) w t
views_added_behind n s t [] kept w h is same =
    let end : s ≡ t = cc in
    record {
      u = w;
      is = ap stands_as_hub (append-nil kept) ∙ is;
      lenses = same ∙ ap forms_in end;
      more = same_views w;
    }
views_added_behind n s t (p ∷ ps) kept w h is same =
    record_added_behind n s t p ps (λ x others v more there forms. views_added_behind (n + 1) x t ps others v more there forms) kept w is same
    (hub_record_in p) refl h

-- ---- the first payloads

record Front (n : ℕ) (s t : HubStanding) (number : ℕ) (ps : List (List ℕ)) : Type 0 where
  pub w : HubStanding
  pub is : hub_after_payloads n s (take number ps) ≡ Ok w
  pub next : ℕ
  pub rest : hub_after_payloads next w (drop number ps) ≡ Ok t

front : (number n : ℕ) (s t : HubStanding) (ps : List (List ℕ)) → hub_after_payloads n s ps ≡ Ok t
    → Front n s t number ps
front zero n s t ps h = record { w = s; is = refl; next = n; rest = h }
front (suc number) n s t [] h = record { w = s; is = refl; next = n; rest = h }
front (suc number) n s t (p ∷ ps) h =
    let k = goes_on (λ x. hub_after_payloads (n + 1) x ps) (hub_after_record n s (hub_record_in p)) t h in
    let f = front number (n + 1) k.0 t ps k.2 in
    record {
      w = f.w;
      is = ap (hub_going_on (λ x. hub_after_payloads (n + 1) x (take number ps))) k.1 ∙ f.is;
      next = f.next;
      rest = f.rest;
    }

-- ---- all payloads

from_front : (number : ℕ) (p : List ℕ) (ps : List (List ℕ)) (t : HubStanding) (o : Option (List FormTree))
    → forms_of_payload p ≡ o → hub_from_opening ps o ≡ Ok t → KeepsViews (suc number) (p ∷ ps) t
from_front number p ps t (Some forms) e h =
    let f = front number 2 (hub_at_start forms) t ps h in
    let stood : stands_as_hub (p ∷ take number ps) ≡ Ok f.w = ap (hub_from_opening (take number ps)) e ∙ f.is in
    let g = views_added_behind f.next f.w t (drop number ps) (p ∷ take number ps) f.w f.rest stood refl in
    record { before = f.w; stood = stood; kept = g.u; stand = g.is; lenses = g.lenses; more = g.more }
from_front number p ps t None e h = absurd cc

pub kept_stand : (number : ℕ) (ps : List (List ℕ)) (t : HubStanding) → 0 < number → stands_as_hub ps ≡ Ok t
    → KeepsViews number ps t
kept_stand zero ps t some h = absurd (omega (arith, some))
kept_stand (suc number) [] t some h = absurd cc
kept_stand (suc number) (p ∷ ps) t some h = from_front number p ps t (forms_of_payload p) refl h

-- ---- the first payload has no changes

start_count : (o : Option (List FormTree)) (w : HubStanding) → hub_from_opening [] o ≡ Ok w → w.count ≡ 0
start_count (Some forms) w h =
    let same : hub_at_start forms ≡ w = cc in
    ap (λ (x : HubStanding). x.count) (sym same)
start_count None w h = absurd cc

pub first_count : (ps : List (List ℕ)) (w : HubStanding) → stands_as_hub (take 1 ps) ≡ Ok w → w.count ≡ 0
first_count [] w h = absurd cc
first_count (p ∷ ps) w h = start_count (forms_of_payload p) w h
