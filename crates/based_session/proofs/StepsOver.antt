-- After a step, what a session keeps leads to the new documents.
use Rattle.std.proofs.Common.{◌≡◌, ℕ, true, ◌+◌, ◌-◌, List, [], ◌∷◌, ◌++◌, length, Option, Some, None, Result, Ok, Err, refl, sym, ap, subst, ◌∙◌, arith}
use Rattle.std.specs.Prelude.{◌≤◌, min, option_and_then, OnOk, OnErr}
use Rattle.std.proofs.lemmas.List.{length-drop, length-append}
use Rattle.texts.specs.declared.side.Side.{Side}
use Rattle.texts.specs.declared.side.Side.TheVariants.{Left, Right}
use Rattle.texts.specs.Sides.{other}
use Rattle.doc_values.specs.Documents.{DocTree}
use Rattle.doc_values.specs.Types.{TyTree, is_well_formed}
use Rattle.doc_values.specs.Typing.{has}
use Rattle.edit_module.specs.Action.{Why, act}
use Rattle.edit_module.specs.Words.{WordTree}
use Rattle.bridge_core.specs.Bridges.{same}
use Rattle.bridge_core.specs.Bridged.{bridge}
use Rattle.bridge_core.specs.Spans.{Spans}
use Rattle.bridge_core.specs.Laws.{BridgeSpans}
use Rattle.lens_core.specs.Complements.{CompTree}
use Rattle.lens_core.specs.Sides.{near, far}
use Rattle.lens_core.specs.Translation.{Translated}
use Rattle.edit_session.specs.Step.{TripleTree, document_on, triple_from, after_carrying, after_action, step}
use Rattle.law_rebase.specs.Chains.{Leads}
use Rattle.based_session.specs.Bases.{KeptTree, BasedTree, bridges_on, newest, kept_by, changed}
use Rattle.based_session.specs.Views.{IsBased}
use Rattle.based_session.proofs.KeptLists.{newest_lead}

-- ---- the words of a step act

-- the word acts on the document of its side, and the carried one on the other document; both values are in the triple
abbrev Acted : TyTree → TyTree → TripleTree → TripleTree → Side → WordTree → WordTree → Type 0
Acted left right t u side q w = (act (near side left right) q (document_on side t) ≡ Ok (document_on side u))
    × (act (near (other side) left right) w (document_on (other side) t) ≡ Ok (document_on (other side) u))

own_is : (side : Side) (x : DocTree) (c : CompTree) (y : DocTree) → document_on side (triple_from side x c y) ≡ x
own_is Left x c y = refl
own_is Right x c y = refl

other_is : (side : Side) (x : DocTree) (c : CompTree) (y : DocTree)
    → document_on (other side) (triple_from side x c y) ≡ y
other_is Left x c y = refl
other_is Right x c y = refl

module _ (left right : TyTree) (carried : Side → CompTree → WordTree → Option Translated) (t u : TripleTree)
    (side : Side) (q w : WordTree) where
  abbrev other_acts : WordTree → Result DocTree Why
  other_acts v = act (near (other side) left right) v (document_on (other side) t)

  from_answer : (x : DocTree) (r : Translated) (a : Result DocTree Why) → other_acts r.0 ≡ a
      → after_carrying side x r a ≡ Some (Ok (u, w))
      → (document_on side u ≡ x) × (other_acts w ≡ Ok (document_on (other side) u))
  from_answer x r (Ok y) is h =
      let pair : (triple_from side x r.1 y, r.0) ≡ (u, w) = cc in
      let triple : triple_from side x r.1 y ≡ u = ap (λ (p : TripleTree × WordTree). p.0) pair in
      let word : r.0 ≡ w = ap (λ (p : TripleTree × WordTree). p.1) pair in
      let doc : document_on (other side) u ≡ y =
      ap (λ (z : TripleTree). document_on (other side) z) (sym triple) ∙ other_is side x r.1 y in (
        ap (λ (z : TripleTree). document_on side z) (sym triple) ∙ own_is side x r.1 y,
        ap other_acts (sym word) ∙ (is ∙ ap (λ (z : DocTree). Ok z) (sym doc)),
      )
  from_answer x r (Err why) is h = absurd cc

  from_carried : (x : DocTree) (o : Option Translated)
      → option_and_then (λ (r : Translated). after_carrying side x r (other_acts r.0)) o ≡ Some (Ok (u, w))
      → (document_on side u ≡ x) × (other_acts w ≡ Ok (document_on (other side) u))
  from_carried x (Some r) h = from_answer x r (other_acts r.0) refl h
  from_carried x None h = absurd cc

  from_action : (r : Result DocTree Why) → act (near side left right) q (document_on side t) ≡ r
      → after_action left right carried t side q r ≡ Some (Ok (u, w)) → Acted left right t u side q w
  from_action (Ok x) is h =
      let parts = from_carried x (carried side t.comp q) h in
      (is ∙ ap (λ (z : DocTree). Ok z) (sym parts.0), parts.1)
  from_action (Err why) is h = absurd cc

  step_acts : step left right carried t (side, q) ≡ Some (Ok (u, w)) → Acted left right t u side q w
  step_acts h = from_action (act (near side left right) q (document_on side t)) refl h

left_acts : (left right : TyTree) (t u : TripleTree) (side : Side) (q w : WordTree) → Acted left right t u side q w
    → act left (near side q w) t.left ≡ Ok u.left
left_acts left right t u Left q w h = h.0
left_acts left right t u Right q w h = h.1

right_acts : (left right : TyTree) (t u : TripleTree) (side : Side) (q w : WordTree) → Acted left right t u side q w
    → act right (far side q w) t.right ≡ Ok u.right
right_acts left right t u Left q w h = h.1
right_acts left right t u Right q w h = h.0

-- ---- what is kept

newest_length : (n width : ℕ) (ks : List KeptTree) (k : KeptTree) → length ks ≡ min n width
    → length (newest width (ks ++ (k ∷ []))) ≡ min (n + 1) width
newest_length n width ks k h =
    let all = length-append ks (k ∷ []) in
    let left = length-drop (length (ks ++ (k ∷ [])) - width) (ks ++ (k ∷ [])) in
    omega (arith, all, left, h)

leads_with : BridgeSpans → (t : TyTree) (w : WordTree) (v u : DocTree) → is_well_formed t ≡ true → has t v ≡ true
    → act t w v ≡ Ok u → Spans (bridge t w v same) t v u
leads_with law t w v u sound h acts = law t w same v v u sound h h refl acts

pub change_is_based : BridgeSpans → (left right : TyTree) (carried : Side → CompTree → WordTree → Option Translated)
    (b : BasedTree) (u : TripleTree) (side : Side) (q w : WordTree) → is_well_formed left ≡ true
    → is_well_formed right ≡ true → has left b.triple.left ≡ true → has right b.triple.right ≡ true
    → IsBased left right b → step left right carried b.triple (side, q) ≡ Some (Ok (u, w))
    → IsBased left right (changed b u (kept_by left right b.triple (near side q w) (far side q w)))
change_is_based law left right carried b u side q w left_sound right_sound left_has right_has based e =
    let acted = step_acts left right carried b.triple u side q w e in
    let k = kept_by left right b.triple (near side q w) (far side q w) in
    let left_spans = leads_with law left (near side q w) b.triple.left u.left left_sound left_has (left_acts left right b.triple u side q w acted) in
    let right_spans = leads_with law right (far side q w) b.triple.right u.right right_sound right_has (right_acts left right b.triple u side q w acted) in
    record {
      filled = newest_length b.number b.width b.kept k based.filled;
      narrow = based.narrow;
      left_leads = newest_lead left Left b.width b.kept k based.left_leads.0 b.triple.left u.left based.left_leads.1 left_spans;
      right_leads = newest_lead right Right b.width b.kept k based.right_leads.0 b.triple.right u.right based.right_leads.1 right_spans;
    }

-- ---- the end of a step

-- what is kept was led on, or the session went back
pub on_or_back : {X Y : Type 0} (r : Result X Y) (left right : TyTree) (before next after : BasedTree)
    → IsBased left right before → IsBased left right next → OnOk r (after ≡ next) → OnErr r (after ≡ before)
    → IsBased left right after
on_or_back (Ok x) left right before next after h k on back = subst (λ (b : BasedTree). IsBased left right b) (sym on) k
on_or_back (Err y) left right before next after h k on back = subst (λ (b : BasedTree). IsBased left right b) (sym back) h

-- nothing is kept at first, and no bridge leads from the present documents to themselves
pub start_is_based : (left right : TyTree) (t : TripleTree) (ks : List KeptTree) (number width : ℕ) → ks ≡ []
    → number ≡ 0 → width ≤ 1000
    → IsBased left right (record { triple = t; kept = ks; number = number; width = width })
start_is_based left right t ks number width none zero_is narrow = record {
  filled = let n : length ks ≡ 0 = ap length none in omega (arith, n, zero_is);
  narrow = narrow;
  left_leads = (t.left, subst (λ (l : List KeptTree). Leads left (bridges_on Left l) t.left t.left) (sym none) refl);
  right_leads = (t.right, subst (λ (l : List KeptTree). Leads right (bridges_on Right l) t.right t.right) (sym none) refl);
}
