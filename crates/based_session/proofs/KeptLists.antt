-- A word over the kept bridges, and chains of those that are left.
use Rattle.std.proofs.Common.{◌≡◌, ℕ, zero, suc, ◌+◌, ◌-◌, ◌<◌, ◌≤◌, List, [], ◌∷◌, ◌++◌, length, map, drop, get_or, Ok, Err, sym, ap, subst, ◌∙◌}
use Rattle.std.proofs.lemmas.List.{drop_all, drop_more, drop-map, map-append}
use Rattle.texts.specs.declared.side.Side.{Side}
use Rattle.doc_values.specs.Documents.{DocTree}
use Rattle.doc_values.specs.Types.{TyTree}
use Rattle.edit_module.specs.Words.{WordTree}
use Rattle.bridge_core.specs.Bridges.{BridgeTree}
use Rattle.bridge_core.specs.Carried.{gone, fails, Answer, carry}
use Rattle.bridge_core.specs.Refusals.{IsNotCarried}
use Rattle.bridge_core.specs.Spans.{Spans}
use Rattle.bridge_core.specs.declared.fault.CarryFault.{CarryFault}
use Rattle.bridge_core.specs.declared.fault.CarryFault.TheVariants.{Gone, NoApply, NoMemory}
use Rattle.law_rebase.specs.Through.{Through, goes_on, carried_through}
use Rattle.law_rebase.specs.Chains.{Leads}
use Rattle.law_rebase.proofs.ChainsOfBridges.{leads_on}
use Rattle.based_session.specs.declared.kept.Kept.{Kept}
use Rattle.based_session.specs.Bases.{KeptTree, bridge_on, bridges_on, newest}
use Rattle.based_session.specs.KeptViews.{kept_tree}
use Rattle.based_session.specs.Views.{IsNotThrough}

-- ---- the loop over kept bridges

-- what is left from a place on begins with the one at the place
left_kept : (ks : List Kept) (i : ℕ) (k : Kept) → i < length ks → k ≡ get_or ks i k
    → drop i (map kept_tree ks) ≡ kept_tree k ∷ drop (i + 1) (map kept_tree ks)
left_kept ks i k within is =
    drop-map kept_tree i ks
    ∙ (ap (map kept_tree) (drop_more ks i k within)
    ∙ (ap (λ (x : Kept). kept_tree x ∷ map kept_tree (drop (i + 1) ks)) (sym is)
    ∙ ap (λ (l : List KeptTree). kept_tree k ∷ l) (sym (drop-map kept_tree (i + 1) ks))))

at_place : (t : TyTree) (side : Side) (ks : List Kept) (i : ℕ) (k : Kept) (w : WordTree) (r : Answer) → i < length ks
    → k ≡ get_or ks i k → carry t (bridge_on side (kept_tree k)) w ≡ r
    → carried_through t (bridges_on side (drop i (map kept_tree ks))) w
    ≡ goes_on r (λ q. carried_through t (bridges_on side (drop (i + 1) (map kept_tree ks))) q)
at_place t side ks i k w r within is e =
    ap (λ (l : List KeptTree). carried_through t (bridges_on side l) w) (left_kept ks i k within is)
    ∙ ap (λ (a : Answer). goes_on a (λ q. carried_through t (bridges_on side (drop (i + 1) (map kept_tree ks))) q)) e

pub through_next : (t : TyTree) (side : Side) (ks : List Kept) (i : ℕ) (k : Kept) (w : WordTree) (r : WordTree × BridgeTree)
    → i < length ks → k ≡ get_or ks i k → carry t (bridge_on side (kept_tree k)) w ≡ Ok r
    → carried_through t (bridges_on side (drop (i + 1) (map kept_tree ks))) r.0
    ≡ carried_through t (bridges_on side (drop i (map kept_tree ks))) w
through_next t side ks i k w r within is e = sym (at_place t side ks i k w (Ok r) within is e)

pub through_done : (t : TyTree) (side : Side) (ks : List Kept) (i : ℕ) (w : WordTree) → length ks ≤ i
    → carried_through t (bridges_on side (drop i (map kept_tree ks))) w ≡ Ok w
through_done t side ks i w past =
    ap (λ (l : List KeptTree). carried_through t (bridges_on side l) w)
    (drop-map kept_tree i ks ∙ ap (map kept_tree) (drop_all i ks past))

pub through_stops : (t : TyTree) (side : Side) (ks : List Kept) (i : ℕ) (k : Kept) (w : WordTree) (whole : Through)
    (fault : CarryFault) → i < length ks → k ≡ get_or ks i k
    → carried_through t (bridges_on side (drop i (map kept_tree ks))) w ≡ whole
    → IsNotCarried (carry t (bridge_on side (kept_tree k)) w) fault → IsNotThrough whole fault
through_stops t side ks i k w whole Gone within is e h = sym e ∙ at_place t side ks i k w (Err gone) within is h
through_stops t side ks i k w whole (NoApply cause) within is e h =
    sym e ∙ at_place t side ks i k w (Err (fails cause)) within is h
through_stops t side ks i k w whole NoMemory within is e h = tt

-- ---- chains

-- the bridges that are left behind some lead from a document to the same last one
pub leads_from : (t : TyTree) (n : ℕ) (bs : List BridgeTree) (s u : DocTree) → Leads t bs s u
    → (v : DocTree) × Leads t (drop n bs) v u
leads_from t zero bs s u way = (s, way)
leads_from t (suc n) [] s u way = (s, way)
leads_from t (suc n) (b ∷ bs) s u way = leads_from t n bs way.0 u way.2

-- the newest of the bridges, with one more, lead from a document to where the last one leads
pub newest_lead : (t : TyTree) (side : Side) (width : ℕ) (ks : List KeptTree) (k : KeptTree) (s u v : DocTree)
    → Leads t (bridges_on side ks) s u → Spans (bridge_on side k) t u v
    → (x : DocTree) × Leads t (bridges_on side (newest width (ks ++ (k ∷ [])))) x v
newest_lead t side width ks k s u v way h =
    let all = leads_on (bridges_on side ks) (bridge_on side k) t s u v way h in
    let n = length (ks ++ (k ∷ [])) - width in
    let whole : bridges_on side (ks ++ (k ∷ [])) ≡ bridges_on side ks ++ (bridge_on side k ∷ []) =
    map-append (bridge_on side) ks (k ∷ []) in
    let left : drop n (bridges_on side ks ++ (bridge_on side k ∷ [])) ≡ bridges_on side (drop n (ks ++ (k ∷ []))) =
    ap (drop n) (sym whole) ∙ drop-map (bridge_on side) n (ks ++ (k ∷ [])) in
    let some = leads_from t n (bridges_on side ks ++ (bridge_on side k ∷ [])) s v all in
    (some.0, subst (λ (l : List BridgeTree). Leads t l some.0 v) left some.1)
