-- The state of a hub, as loops over its views read and decide it.
use Rattle.std.proofs.Common.{◌≡◌, ℕ, suc, ◌+◌, ◌*◌, ◌<◌, ◌≤◌, ◌-◌, List, [], ◌∷◌, ◌++◌, map, length, take, drop, get_or, Option, None, Some, inl, inr, refl, sym, ap, ap₂, subst, ◌∙◌, append_assoc, append-nil, arith}
use Rattle.std.specs.Prelude.{MatchOption}
use Rattle.std.proofs.Math.ListN.{get_or-map}
use Rattle.std.proofs.lemmas.List.{drop_all, drop_more, length-map, take_all}
use Rattle.doc_values.specs.Documents.{DocTree, doc_tree}
use Rattle.doc_values.specs.Types.{TyTree}
use Rattle.doc_values.specs.declared.doc.Doc.{Doc}
use Rattle.lens_forms.specs.Forms.{FormTree, form_tree, left_type}
use Rattle.lens_types.specs.declared.typed.Typed.{Typed}
use Rattle.view_hub.specs.Hubs.{ViewTree, HubTree}
use Rattle.view_hub.specs.Laws.{AllInStep, SameLeft, HaveOneLeftType, IsHub}
use Rattle.view_hub.specs.Views.{hub_tree, view_tree}
use Rattle.view_hub.specs.declared.view.HubParts.{HubParts}
use Rattle.view_hub.specs.declared.view.View as a_view
use Rattle.hub_run.specs.FormLenses.{form_lens}
use Rattle.embed_session.specs.States.{IsOfType, IsNotOfType}
use Rattle.embed_hub.specs.Resuming.{AreViewTexts, AreStateTexts, IsViewsFault, IsViewOf, IsOutOfStep, IsNotHub, IsStateFault, text_count}
use Rattle.embed_hub.specs.StateSteps.{IsViewText, IsViewFault, IsViewsEnd, IsTextsFault, AreAllInStep}
use Rattle.embed_hub.specs.declared.outcome.HubStateFault.{HubStateFault}
use Rattle.embed_hub.specs.declared.outcome.HubStateFault.TheVariants as fault

-- ---- reading the views

-- Behind some views: what the texts that are left are of, or their first fault, is so of all texts.
pub record AreReadTo (forms : List FormTree) (texts : List (List ℕ)) (i : ℕ) (vs : List ViewTree) : Type 0 where
  pub are : (rest : List ViewTree) → AreViewTexts (drop i forms) (drop (2 * i) texts) rest → AreViewTexts forms texts (vs ++ rest)
  pub fault : (why : HubStateFault) → IsViewsFault i (drop i forms) (drop (2 * i) texts) why → IsViewsFault 0 forms texts why

pub none_read : (forms : List FormTree) (texts : List (List ℕ)) → AreReadTo forms texts 0 []
none_read forms texts = record { are = λ rest h. h; fault = λ why h. h }

module _ (forms : List FormTree) (texts : List (List ℕ)) (i : ℕ) (form : FormTree) (doc comp : List ℕ) (forms_at : drop i forms ≡ form ∷ drop (i + 1) forms)
    (texts_at : drop (2 * i) texts ≡ doc ∷ comp ∷ drop (2 * (i + 1)) texts) where
  pub one_read : (vs : List ViewTree) (v : ViewTree) → AreReadTo forms texts i vs → IsViewText form doc comp v → AreReadTo forms texts (i + 1) (vs ++ v ∷ [])
  one_read vs v h is = record {
    are = λ rest k. subst (λ (all : List ViewTree). AreViewTexts forms texts all) (sym (append_assoc vs (v ∷ []) rest))
        (h.are (v ∷ rest) (subst (λ (fs : List FormTree). AreViewTexts fs (drop (2 * i) texts) (v ∷ rest)) (sym forms_at)
        (subst (λ (ts : List (List ℕ)). AreViewTexts (form ∷ drop (i + 1) forms) ts (v ∷ rest)) (sym texts_at) (is.0, is.1, k))));
    fault = λ why k. h.fault why (subst (λ (fs : List FormTree). IsViewsFault i fs (drop (2 * i) texts) why) (sym forms_at)
        (subst (λ (ts : List (List ℕ)). IsViewsFault i (form ∷ drop (i + 1) forms) ts why) (sym texts_at) (inr (inr ((v.doc, is.0), (v.comp, is.1), k)))));
  }

  found : (vs : List ViewTree) (why : HubStateFault) → AreReadTo forms texts i vs → IsViewsFault i (form ∷ drop (i + 1) forms) (doc ∷ comp ∷ drop (2 * (i + 1)) texts) why → IsViewsFault 0 forms texts why
  found vs why h k = h.fault why (subst (λ (fs : List FormTree). IsViewsFault i fs (drop (2 * i) texts) why) (sym forms_at)
      (subst (λ (ts : List (List ℕ)). IsViewsFault i (form ∷ drop (i + 1) forms) ts why) (sym texts_at) k))

  pub fault_found : (vs : List ViewTree) (why : HubStateFault) → AreReadTo forms texts i vs → IsViewFault i form doc comp why → IsViewsEnd forms texts why
  fault_found vs fault.OtherCount h is = is
  fault_found vs fault.NotHub h is = is
  fault_found vs (fault.NotView n) h is = found vs (fault.NotView n) h (inl (is.0, ap fault.NotView is.1))
  fault_found vs (fault.NotComplement n) h is = found vs (fault.NotComplement n) h (inr (inl (is.0, is.1, ap fault.NotComplement is.2)))
  fault_found vs (fault.NotConsistent n) h is = is
  fault_found vs fault.NoMemory h is = tt

-- all views
pub all_read : (forms : List FormTree) (texts : List (List ℕ)) (i : ℕ) (vs : List ViewTree) → length forms ≤ i → length texts ≤ 2 * i → AreReadTo forms texts i vs → AreViewTexts forms texts vs
all_read forms texts i vs past behind h =
    subst (λ (all : List ViewTree). AreViewTexts forms texts all) (append-nil vs)
    (h.are [] (subst (λ (fs : List FormTree). AreViewTexts fs (drop (2 * i) texts) []) (sym (drop_all i forms past))
    (subst (λ (ts : List (List ℕ)). AreViewTexts [] ts []) (sym (drop_all (2 * i) texts behind)) tt)))

-- ---- all texts

pub views_count : (forms : List FormTree) (texts : List (List ℕ)) (vs : List ViewTree) → AreViewTexts forms texts vs → length vs ≡ length forms
views_count [] [] [] h = refl
views_count (form ∷ forms) (doc ∷ comp ∷ texts) (v ∷ vs) h = ap suc (views_count forms texts vs h.2)
views_count [] [] (v ∷ vs) h = absurd h
views_count [] (t ∷ texts) vs h = absurd h
views_count (form ∷ forms) [] vs h = absurd h
views_count (form ∷ forms) (doc ∷ []) vs h = absurd h
views_count (form ∷ forms) (doc ∷ comp ∷ texts) [] h = absurd h

pub state_count : (forms : List FormTree) (texts : List (List ℕ)) (h : HubTree) → AreStateTexts forms texts h → length h.views ≡ length forms
state_count (form ∷ forms) (hub ∷ texts) h s = views_count (form ∷ forms) texts h.views s.1
state_count [] texts h s = absurd s
state_count (form ∷ forms) [] h s = absurd s

pub is_state_fault : (forms : List FormTree) (texts : List (List ℕ)) (why : HubStateFault) → IsTextsFault forms texts why → IsStateFault forms texts why
is_state_fault forms texts fault.OtherCount h = h
is_state_fault forms texts fault.NotHub h = h
is_state_fault forms texts (fault.NotView n) h = h
is_state_fault forms texts (fault.NotComplement n) h = h
is_state_fault forms texts (fault.NotConsistent n) h = absurd h
is_state_fault forms texts fault.NoMemory h = h

-- ---- deciding the views

pub record AreDecidedTo (x : DocTree) (forms : List FormTree) (vs : List ViewTree) (i : ℕ) : Type 0 where
  pub all : AreAllInStep x (drop i forms) (drop i vs) → AreAllInStep x forms vs
  pub first : (n : ℕ) → IsOutOfStep i x (drop i forms) (drop i vs) n → IsOutOfStep 0 x forms vs n

pub none_decided : (x : DocTree) (forms : List FormTree) (vs : List ViewTree) → AreDecidedTo x forms vs 0
none_decided x forms vs = record { all = λ h. h; first = λ n h. h }

module _ (x : DocTree) (forms : List FormTree) (vs : List ViewTree) (i : ℕ) (form : FormTree) (v : ViewTree) (forms_at : drop i forms ≡ form ∷ drop (i + 1) forms) (views_at : drop i vs ≡ v ∷ drop (i + 1) vs) where
  pub one_decided : AreDecidedTo x forms vs i → IsViewOf x form v → AreDecidedTo x forms vs (i + 1)
  one_decided h is = record {
    all = λ k. h.all (subst (λ (fs : List FormTree). AreAllInStep x fs (drop i vs)) (sym forms_at)
        (subst (λ (ws : List ViewTree). AreAllInStep x (form ∷ drop (i + 1) forms) ws) (sym views_at) (is, k)));
    first = λ n k. h.first n (subst (λ (fs : List FormTree). IsOutOfStep i x fs (drop i vs) n) (sym forms_at)
        (subst (λ (ws : List ViewTree). IsOutOfStep i x (form ∷ drop (i + 1) forms) ws n) (sym views_at) (inr (is, k))));
  }

  pub first_found : AreDecidedTo x forms vs i → (IsViewOf x form v → ⊥) → IsOutOfStep 0 x forms vs i
  first_found h not = h.first i (subst (λ (fs : List FormTree). IsOutOfStep i x fs (drop i vs) i) (sym forms_at)
      (subst (λ (ws : List ViewTree). IsOutOfStep i x (form ∷ drop (i + 1) forms) ws i) (sym views_at) (inl (not, refl))))

pub all_decided : (x : DocTree) (forms : List FormTree) (vs : List ViewTree) (i : ℕ) → length forms ≤ i → length vs ≤ i → AreDecidedTo x forms vs i → AreAllInStep x forms vs
all_decided x forms vs i past behind h =
    h.all (subst (λ (fs : List FormTree). AreAllInStep x fs (drop i vs)) (sym (drop_all i forms past))
    (subst (λ (ws : List ViewTree). AreAllInStep x [] ws) (sym (drop_all i vs behind)) tt))

-- ---- a hub

all_of : (ty : TyTree) (x : DocTree) (forms : List FormTree) (vs : List ViewTree) → SameLeft form_lens ty forms → AreAllInStep x forms vs → AllInStep form_lens ty forms x vs
all_of ty x [] [] same h = tt
all_of ty x [] (v ∷ vs) same h = absurd h
all_of ty x (form ∷ forms) [] same h = absurd h
all_of ty x (form ∷ forms) (v ∷ vs) same h = (same.0, h.0, all_of ty x forms vs same.1 h.1)

-- views that are consistent with a document are a hub with it
pub hub_in_step : (forms : List FormTree) (h : HubTree) → HaveOneLeftType form_lens forms → AreAllInStep h.hub forms h.views → IsHub form_lens forms h
hub_in_step [] h one all = absurd one
hub_in_step (form ∷ forms) h one all = by_views h.views all where
  by_views : (vs : List ViewTree) → AreAllInStep h.hub (form ∷ forms) vs → AllInStep form_lens (left_type form) (form ∷ forms) h.hub vs
  by_views [] all = absurd all
  by_views (v ∷ vs) all = (refl, all.0, all_of (left_type form) h.hub forms vs one all.1)

-- the same of the parts of a hub as the code has them
pub all_of_parts : (forms : List FormTree) (p : HubParts) (d : Doc) (views : List a_view.View) → d ≡ p.hub.value → views ≡ p.views.items
    → AreAllInStep (doc_tree d) forms (map view_tree views) → AreAllInStep (hub_tree p).hub forms (hub_tree p).views
all_of_parts forms p d views hub_is views_are all =
    subst (λ (x : Doc). AreAllInStep (doc_tree x) forms (map view_tree p.views.items)) hub_is (subst (λ (vs : List a_view.View). AreAllInStep (doc_tree d) forms (map view_tree vs)) views_are all)

pub none_found : {X A : Type 0} (B : X → Type 0) (o : Option X) → o ≡ None → MatchOption o A B → A
none_found B None is h = h
none_found B (Some x) is h = absurd cc

-- there is a lens
pub some_typed : (typed : List Typed) → HaveOneLeftType form_lens (map form_tree typed) → 0 < length typed
some_typed [] one = absurd one
some_typed (t ∷ typed) one = omega arith

-- ---- the first text

pub not_hub : (typed : List Typed) (texts : List (List ℕ)) (t : Typed) (text : List ℕ) → 0 < length typed → t ≡ get_or typed 0 t → 0 < length texts → text ≡ get_or texts 0 text
    → IsNotOfType (left_type (form_tree t)) text → IsNotHub (map form_tree typed) texts
not_hub [] texts t text some is within text_is not = absurd (omega (arith, some))
not_hub (u ∷ typed) [] t text some is within text_is not = absurd (omega (arith, within))
not_hub (u ∷ typed) (x ∷ texts) t text some is within text_is not =
    subst (λ (v : Typed). IsNotOfType (left_type (form_tree v)) x) is (subst (λ (y : List ℕ). IsNotOfType (left_type (form_tree t)) y) text_is not)

-- a fault of the texts of the views, behind a text of the hub
behind_hub : (forms : List FormTree) (form : FormTree) (hub : List ℕ) (texts : List (List ℕ)) (why : HubStateFault) → length (hub ∷ texts) ≡ text_count (form ∷ forms) → IsOfType (left_type form) hub
    → IsViewsEnd (form ∷ forms) texts why
    → IsTextsFault (form ∷ forms) (hub ∷ texts) why
behind_hub forms form hub texts fault.OtherCount many of h = absurd h
behind_hub forms form hub texts fault.NotHub many of h = absurd h
behind_hub forms form hub texts (fault.NotView n) many of h = (many, (of, h))
behind_hub forms form hub texts (fault.NotComplement n) many of h = (many, (of, h))
behind_hub forms form hub texts (fault.NotConsistent n) many of h = absurd h
behind_hub forms form hub texts fault.NoMemory many of h = tt

pub texts_fault : (typed : List Typed) (texts : List (List ℕ)) (t : Typed) (text : List ℕ) (why : HubStateFault) → 0 < length typed → t ≡ get_or typed 0 t → length texts ≡ 2 * length typed + 1
    → text ≡ get_or texts 0 text → IsOfType (left_type (form_tree t)) text → IsViewsEnd (map form_tree typed) (take (length texts - 1) (drop 1 texts)) why → IsTextsFault (map form_tree typed) texts why
texts_fault [] texts t text why some is many text_is of h = absurd (omega (arith, some))
texts_fault (u ∷ typed) [] t text why some is many text_is of h = absurd (omega (arith, many))
texts_fault (u ∷ typed) (x ∷ texts) t text why some is many text_is of h =
    let all : take (length (x ∷ texts) - 1) texts ≡ texts = take_all (length (x ∷ texts) - 1) texts (omega arith) in
    behind_hub (map form_tree typed) (form_tree u) x texts why (many ∙ ap (λ n. 2 * suc n + 1) (sym (length-map typed form_tree))) (subst (λ (v : Typed). IsOfType (left_type (form_tree v)) x) is (subst (λ (y : List ℕ). IsOfType (left_type (form_tree t)) y) text_is of))
    (subst (λ (ts : List (List ℕ)). IsViewsEnd (form_tree u ∷ map form_tree typed) ts why) all h)

-- ---- what is at a place

-- a text that was taken from a list
pub is_there : (texts : List (List ℕ)) (i : ℕ) (found text : List ℕ) → text ≡ found → found ≡ get_or texts i found → text ≡ get_or texts i text
is_there texts i found text same is = same ∙ is ∙ ap (λ (d : List ℕ). get_or texts i d) (sym same)

mapped_at : {X Y : Type 0} (f : X → Y) (xs : List X) (i : ℕ) (x : X) → i < length xs → x ≡ get_or xs i x → drop i (map f xs) ≡ f x ∷ drop (i + 1) (map f xs)
mapped_at f xs i x within is =
    drop_more (map f xs) i (f x) (omega (arith, within, length-map xs f)) ∙ ap (λ y. y ∷ drop (i + 1) (map f xs)) (get_or-map f xs i x ∙ ap f (sym is))

pub forms_at : (typed : List Typed) (i : ℕ) (t : Typed) → i < length typed → t ≡ get_or typed i t → drop i (map form_tree typed) ≡ form_tree t ∷ drop (i + 1) (map form_tree typed)
forms_at typed i t within is = mapped_at form_tree typed i t within is

pub views_at : (views : List a_view.View) (i : ℕ) (v : a_view.View) → i < length views → v ≡ get_or views i v → drop i (map view_tree views) ≡ view_tree v ∷ drop (i + 1) (map view_tree views)
views_at views i v within is = mapped_at view_tree views i v within is

pub texts_at : (texts : List (List ℕ)) (i : ℕ) (doc comp : List ℕ) → 2 * i + 1 < length texts → doc ≡ get_or texts (2 * i) doc → comp ≡ get_or texts (2 * i + 1) comp
    → drop (2 * i) texts ≡ doc ∷ comp ∷ drop (2 * (i + 1)) texts
texts_at texts i doc comp within doc_is comp_is =
    drop_more texts (2 * i) doc (omega (arith, within))
    ∙ ap (λ ts. get_or texts (2 * i) doc ∷ ts) (drop_more texts (2 * i + 1) comp within)
    ∙ ap₂ (λ d c. d ∷ c ∷ drop (2 * i + 1 + 1) texts) (sym doc_is) (sym comp_is)
    ∙ ap (λ n. doc ∷ comp ∷ drop n texts) (omega arith)
