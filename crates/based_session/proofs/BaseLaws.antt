-- The documents of bases, and the words that were made for them.
use Rattle.std.proofs.Common.{◌≡◌, ℕ, Bool, true, false, ◌-◌, ◌<◌, ◌^◌, List, length, map, drop, Option, Some, None, Result, Ok, Err, refl, sym, ap, subst, ◌∙◌, arith}
use Rattle.std.specs.Prelude.{nat_le, nat_lt, ◌&&◌, cond}
use Rattle.std.proofs.lemmas.Bool.Decides.{nat_tests}
use Rattle.std.proofs.lemmas.List.{drop-map}
use Rattle.texts.specs.declared.side.Side.{Side}
use Rattle.texts.specs.declared.side.Side.TheVariants.{Left, Right}
use Rattle.doc_values.specs.Documents.{DocTree}
use Rattle.doc_values.specs.Types.{TyTree}
use Rattle.edit_module.specs.Words.{WordTree}
use Rattle.bridge_core.specs.Bridges.{BridgeTree}
use Rattle.bridge_core.specs.Carried.{WhyNot}
use Rattle.law_rebase.specs.Through.{Through, carried_through}
use Rattle.law_rebase.specs.Chains.{Leads, ChainsRefuseOnlyGone, ChainsAct}
use Rattle.lens_core.specs.Sides.{near}
use Rattle.edit_session.specs.Step.{document_on}
use Rattle.based_session.specs.Bases.{KeptTree, BasedTree, bridge_on, bridges_on, since, WhyAt, full, not_carried, at_present, over_changes, word_at}
use Rattle.based_session.specs.Laws.{BasesLeadHere, OnlyGoneIsRefusedAt, CarriedWordsAct}
use Rattle.based_session.specs.Views.{IsBased}
use Rattle.based_session.proofs.KeptLists.{leads_from}

-- what is kept behind a base is the end of what is kept
tested : (t : Bool) (ds ks : List KeptTree) → cond {A = Option (List KeptTree)} t (Some ds) None ≡ Some ks → ds ≡ ks
tested true ds ks e = cc
tested false ds ks e = absurd cc

leads_behind : (t : TyTree) (side : Side) (n : ℕ) (ds ks : List KeptTree) (u : DocTree) → drop n ds ≡ ks
    → (s : DocTree) × Leads t (bridges_on side ds) s u → (s : DocTree) × Leads t (bridges_on side ks) s u
leads_behind t side n ds ks u is way =
    let left : drop n (bridges_on side ds) ≡ bridges_on side ks =
    drop-map (bridge_on side) n ds ∙ ap (map (bridge_on side)) is in
    let some = leads_from t n (bridges_on side ds) way.0 u way.1 in
    (some.0, subst (λ (l : List BridgeTree). Leads t l some.0 u) left some.1)

on_side : (left right : TyTree) (b : BasedTree) (side : Side) → IsBased left right b
    → (s : DocTree) × Leads (near side left right) (bridges_on side b.kept) s (document_on side b.triple)
on_side left right b Left h = h.left_leads
on_side left right b Right h = h.right_leads

pub lead_here : BasesLeadHere
lead_here left right b base side ks h e =
    let n = length b.kept - (b.number - base) in
    let is = tested (nat_le base b.number && nat_le (b.number - base) b.width) (drop n b.kept) ks e in
    leads_behind (near side left right) side n b.kept ks (document_on side b.triple) is (on_side left right b side h)

-- ---- words

-- where there is room and the base is kept, the word goes through the bridges behind it
in_room : (room : Bool) (t : TyTree) (side : Side) (w : WordTree) (o : Option (List KeptTree)) (ks : List KeptTree)
    → room ≡ true → o ≡ Some ks
    → cond {A = Result WordTree WhyAt} room (over_changes t side w o) (Err full)
    ≡ at_present (carried_through t (bridges_on side ks) w)
in_room true t side w o ks r e = ap (over_changes t side w) e
in_room false t side w o ks r e = absurd cc

below : (n m : ℕ) → n < m → nat_lt n m ≡ true
below n m h = grind (arith, nat_tests)

through_base : (t : TyTree) (b : BasedTree) (base : ℕ) (side : Side) (ks : List KeptTree) (w : WordTree)
    → b.number < 2 ^ 64 - 1 → since base b.number b.width b.kept ≡ Some ks
    → word_at t b base side w ≡ at_present (carried_through t (bridges_on side ks) w)
through_base t b base side ks w room e =
    in_room (nat_lt b.number (2 ^ 64 - 1)) t side w (since base b.number b.width b.kept) ks
    (below b.number (2 ^ 64 - 1) room) e

refused_here : (r : Through) (why : WhyAt) → at_present r ≡ Err why
    → (cause : WhyNot) × (r ≡ Err cause) × (why ≡ not_carried cause)
refused_here (Ok w) why e = absurd cc
refused_here (Err cause) why e = (cause, refl, cc)

carried_here : (r : Through) (q : WordTree) → at_present r ≡ Ok q → r ≡ Ok q
carried_here (Ok w) q e = let is : w ≡ q = cc in ap (λ (x : WordTree). Ok x) is
carried_here (Err cause) q e = absurd cc

pub only_gone_at : ChainsRefuseOnlyGone → OnlyGoneIsRefusedAt
only_gone_at law t b base side ks w s u v way why room kept fits acts e =
    let here = refused_here (carried_through t (bridges_on side ks) w) why (sym (through_base t b base side ks w room kept) ∙ e) in
    here.2 ∙ ap not_carried (law t (bridges_on side ks) w s u v way here.0 fits acts here.1)

pub words_act : ChainsAct → CarriedWordsAct
words_act law t b base side ks w q s u v way room kept fits acts e =
    law t (bridges_on side ks) w q s u v way fits acts
    (carried_here (carried_through t (bridges_on side ks) w) q (sym (through_base t b base side ks w room kept) ∙ e))
