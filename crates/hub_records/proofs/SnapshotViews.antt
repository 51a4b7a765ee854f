-- The views of a snapshot as loops go over them, and a snapshot that is consistent.
use Rattle.std.proofs.Common.{◌≡◌, ℕ, suc, ◌+◌, ◌<◌, ◌≤◌, add-one, Bool, true, false, ◌&&◌, List, [], ◌∷◌, ◌++◌, append_assoc, append-nil, length, drop, drop-cons, get_or, Option, Some, None, IsTrue, refl, sym, ap, ap₂, subst, ◌∙◌, arith}
use Rattle.std.specs.Prelude.{option_map, option_and_then}
use Rattle.std.proofs.lemmas.List.{drop_all}
use Rattle.texts.proofs.Conjunction.{first, second}
use Rattle.serde_json.specs.Data.{Data, Items}
use Rattle.serde_json.specs.View.{view, items_view}
use Rattle.serde_json.specs.declared.value.Value.{Value}
use Rattle.doc_values.specs.Documents.{DocTree}
use Rattle.doc_values.specs.Types.{TyTree}
use Rattle.doc_values.specs.Typing.{has}
use Rattle.lens_flat.specs.declared.flat.ReadyForm.{ReadyForm}
use Rattle.lens_forms.specs.Forms.{FormTree, form_tree, left_type}
use Rattle.view_hub.specs.Hubs.{ViewTree, HubTree}
use Rattle.view_hub.specs.Laws.{AllInStep, SameLeft, HaveOneLeftType}
use Rattle.view_hub.specs.Views.{view_tree, view_trees}
use Rattle.view_hub.specs.declared.view.View as a_view
use Rattle.hub_run.specs.RunStates.{forms_of_lenses, ready_lens, IsHubOf}
use Rattle.hub_run.proofs.StateLines.{first_has}
use Rattle.store_session.specs.ConsistencyTest.{is_consistent}
use Rattle.store_session.specs.ConsistencyDecided.{consistent_if}
use Rattle.hub_records.specs.HubRecords.{view_parts}
use Rattle.value_json.specs.DocumentJson.{document_of}
use Rattle.hub_records.specs.HubStands.{view_of, views_of, hub_from, are_consistent}

abbrev form_of : ReadyForm → FormTree
form_of l = form_tree l.typed

-- ---- the views of trees

-- the view of a tree, for the lens of this form
abbrev pub view_at : FormTree → Data → Option ViewTree
view_at l d = option_and_then (view_of l) (view_parts d)

-- these views, and behind them the others
abbrev pub behind : List ViewTree → Option (List ViewTree) → Option (List ViewTree)
behind vs others = option_map (λ rest. vs ++ rest) others

-- what is left to read, behind the views that were read
abbrev pub remaining : List ViewTree → List ReadyForm → List Value → Option (List ViewTree)
remaining vs ls trees = behind vs (views_of (forms_of_lenses ls) (items_view trees))

pub remaining-first : (ls : List ReadyForm) (trees : List Value) → remaining [] ls trees ≡ views_of (forms_of_lenses ls) (items_view trees)
remaining-first ls trees = by_answer (views_of (forms_of_lenses ls) (items_view trees)) where
  by_answer : (o : Option (List ViewTree)) → behind [] o ≡ o
  by_answer (Some vs) = refl
  by_answer None = refl

behind-more : (vs : List ViewTree) (v : ViewTree) (o : Option (List ViewTree)) → behind vs (option_map (λ rest. v ∷ rest) o) ≡ behind (vs ++ v ∷ []) o
behind-more vs v (Some rest) = ap Some (sym (append_assoc vs (v ∷ []) rest))
behind-more vs v None = refl

module _ (ls : List ReadyForm) (trees : List Value) (i : ℕ) (l : ReadyForm) (d : Value) where
  abbrev Reads : Option ViewTree → Type 0
  Reads o = (i < length ls) × (i < length trees) × (l ≡ get_or ls i l) × (d ≡ get_or trees i d) × (o ≡ view_at (form_of l) (view d))

  abbrev left_forms : List FormTree
  left_forms = forms_of_lenses (drop (suc i) ls)

  at_place : (vs : List ViewTree) (o : Option ViewTree) → Reads o
      → remaining vs (drop i ls) (drop i trees) ≡ behind vs (option_and_then (λ v. option_map (λ rest. v ∷ rest) (views_of left_forms (items_view (drop (suc i) trees)))) o)
  at_place vs o h =
      ap₂ (λ xs ys. remaining vs xs ys) (drop-cons ls i l h.0 ∙ ap (λ (x : ReadyForm). x ∷ drop (suc i) ls) (sym h.2)) (drop-cons trees i d h.1 ∙ ap (λ (x : Value). x ∷ drop (suc i) trees) (sym h.3))
      ∙ ap (λ o. behind vs (option_and_then (λ v. option_map (λ rest. v ∷ rest) (views_of left_forms (items_view (drop (suc i) trees)))) o)) (sym h.4)

  pub next_read : (vs : List ViewTree) (v : ViewTree) (all : Option (List ViewTree)) → Reads (Some v)
      → remaining vs (drop i ls) (drop i trees) ≡ all → remaining (vs ++ v ∷ []) (drop (i + 1) ls) (drop (i + 1) trees) ≡ all
  next_read vs v all h is =
      rw (add-one i) (sym (behind-more vs v (views_of left_forms (items_view (drop (suc i) trees)))) ∙ sym (at_place vs (Some v) h) ∙ is)

  pub next_lost : (vs : List ViewTree) (all : Option (List ViewTree)) → Reads None → remaining vs (drop i ls) (drop i trees) ≡ all → None ≡ all
  next_lost vs all h is = sym (at_place vs None h) ∙ is

pub all_read : (ls : List ReadyForm) (trees : List Value) (i : ℕ) (vs : List ViewTree) (all : Option (List ViewTree)) → length ls ≤ i → length trees ≤ i
    → remaining vs (drop i ls) (drop i trees) ≡ all → Some vs ≡ all
all_read ls trees i vs all past end is =
    ap Some (sym (append-nil vs)) ∙ ap₂ (λ xs ys. remaining vs xs ys) (sym (drop_all i ls past)) (sym (drop_all i trees end)) ∙ is

-- as many views as lenses
pub other_count : (ls : List ReadyForm) (trees : List Value) → (length trees ≡ length ls → ⊥) → None ≡ views_of (forms_of_lenses ls) (items_view trees)
other_count [] [] other = absurd (other refl)
other_count [] (d ∷ trees) other = refl
other_count (l ∷ ls) [] other = refl
other_count (l ∷ ls) (d ∷ trees) other =
    let none = other_count ls trees (λ e. other (ap suc e)) in
    by_view (view_at (form_of l) (view d)) (views_of (forms_of_lenses ls) (items_view trees)) (sym none) where
      by_view : (o : Option ViewTree) (rest : Option (List ViewTree)) → rest ≡ None → None ≡ option_and_then (λ v. option_map (λ vs. v ∷ vs) rest) o
      by_view (Some v) rest none = ap (option_map (λ vs. v ∷ vs)) (sym none)
      by_view None rest none = refl

-- ---- the document and the views

pub no_lens : (ls : List ReadyForm) (p : Data × Items) → length ls ≡ 0 → None ≡ hub_from (forms_of_lenses ls) p
no_lens [] p none = refl
no_lens (l ∷ ls) p none = absurd (omega arith)

module _ (ls : List ReadyForm) (l : ReadyForm) (d : Data) (ds : Items) where
  -- what is made of the document and of the views, where there is a first lens
  abbrev made : Option DocTree → Option (List ViewTree) → Option HubTree
  made document views = option_and_then (λ x. option_map (λ vs. record { hub = x; views = vs }) views) document

  by_first : 0 < length ls → l ≡ get_or ls 0 l → made (document_of (left_type (form_of l)) d) (views_of (forms_of_lenses ls) ds) ≡ hub_from (forms_of_lenses ls) (d, ds)
  by_first = at_first ls where
    at_first : (ms : List ReadyForm) → 0 < length ms → l ≡ get_or ms 0 l → made (document_of (left_type (form_of l)) d) (views_of (forms_of_lenses ms) ds) ≡ hub_from (forms_of_lenses ms) (d, ds)
    at_first [] some is = absurd (omega arith)
    at_first (m ∷ ms) some is = ap (λ (k : ReadyForm). made (document_of (left_type (form_of k)) d) (views_of (forms_of_lenses (m ∷ ms)) ds)) is

  pub no_document : 0 < length ls → l ≡ get_or ls 0 l → None ≡ document_of (left_type (form_of l)) d → None ≡ hub_from (forms_of_lenses ls) (d, ds)
  no_document some is none = ap (λ o. made o (views_of (forms_of_lenses ls) ds)) none ∙ by_first some is

  pub no_views : (x : DocTree) → 0 < length ls → l ≡ get_or ls 0 l → Some x ≡ document_of (left_type (form_of l)) d → None ≡ views_of (forms_of_lenses ls) ds
      → None ≡ hub_from (forms_of_lenses ls) (d, ds)
  no_views x some is found none = ap (made (Some x)) none ∙ ap (λ o. made o (views_of (forms_of_lenses ls) ds)) found ∙ by_first some is

  pub all_parts : (x : DocTree) (vs : List ViewTree) → 0 < length ls → l ≡ get_or ls 0 l → Some x ≡ document_of (left_type (form_of l)) d → Some vs ≡ views_of (forms_of_lenses ls) ds
      → Some (record { hub = x; views = vs }) ≡ hub_from (forms_of_lenses ls) (d, ds)
  all_parts x vs some is found all = ap (made (Some x)) all ∙ ap (λ o. made o (views_of (forms_of_lenses ls) ds)) found ∙ by_first some is

pub ruleset parts_rules = (no_lens, no_document, no_views, all_parts)

-- ---- the test of consistency

module _ (x : DocTree) where
  -- the test of the lenses and the views from a place on
  abbrev pub tested : List ReadyForm → List a_view.View → Bool
  tested ls vs = are_consistent (forms_of_lenses ls) x (view_trees vs)

  pub next_test : (ls : List ReadyForm) (vs : List a_view.View) (i : ℕ) (l : ReadyForm) (v : a_view.View) (b : Bool) → i < length ls → i < length vs
      → l ≡ get_or ls i l → v ≡ get_or vs i v → b ≡ is_consistent (form_of l) x (view_tree v).comp (view_tree v).doc
      → tested (drop i ls) (drop i vs) ≡ (b && tested (drop (i + 1) ls) (drop (i + 1) vs))
  next_test ls vs i l v b within here l_is v_is is =
      rw (add-one i)
      (ap₂ (λ xs ys. tested xs ys) (drop-cons ls i l within ∙ ap (λ (m : ReadyForm). m ∷ drop (suc i) ls) (sym l_is)) (drop-cons vs i v here ∙ ap (λ (u : a_view.View). u ∷ drop (suc i) vs) (sym v_is))
      ∙ ap (λ c. c && tested (drop (suc i) ls) (drop (suc i) vs)) (sym is))

  pub all_tested : (ls : List ReadyForm) (vs : List a_view.View) (i : ℕ) (all : Bool) → length ls ≤ i → length vs ≤ i → tested (drop i ls) (drop i vs) ≡ all → true ≡ all
  all_tested ls vs i all past end is = ap₂ (λ xs ys. tested xs ys) (sym (drop_all i ls past)) (sym (drop_all i vs end)) ∙ is

  pub other_test : (ls : List ReadyForm) (vs : List a_view.View) → (length vs ≡ length ls → ⊥) → false ≡ tested ls vs
  other_test [] [] other = absurd (other refl)
  other_test [] (v ∷ vs) other = refl
  other_test (l ∷ ls) [] other = refl
  other_test (l ∷ ls) (v ∷ vs) other = by_test (is_consistent (form_of l) x (view_tree v).comp (view_tree v).doc) (tested ls vs) (other_test ls vs (λ e. other (ap suc e))) where
    by_test : (b rest : Bool) → false ≡ rest → false ≡ (b && rest)
    by_test true rest h = h
    by_test false rest h = refl

  -- ---- what is consistent is in step

  all_in : (ty : TyTree) (ls : List ReadyForm) (vs : List ViewTree) → SameLeft ready_lens ty ls → IsTrue (are_consistent (forms_of_lenses ls) x vs) → AllInStep ready_lens ty ls x vs
  all_in ty [] [] same h = tt
  all_in ty [] (v ∷ vs) same h = cc
  all_in ty (l ∷ ls) [] same h = cc
  all_in ty (l ∷ ls) (v ∷ vs) same h =
      let here = is_consistent (form_of l) x v.comp v.doc in
      (same.0, consistent_if (form_of l) x v.comp v.doc l.ready.0 (first here (are_consistent (forms_of_lenses ls) x vs) h), all_in ty ls vs same.1 (second here (are_consistent (forms_of_lenses ls) x vs) h))

pub consistent_in_step : (ls : List ReadyForm) (h : HubTree) → HaveOneLeftType ready_lens ls → IsTrue (are_consistent (forms_of_lenses ls) h.hub h.views) → IsHubOf ls h
consistent_in_step [] h one is = absurd one
consistent_in_step (l ∷ ls) h one is = all_in h.hub (left_type (form_of l)) (l ∷ ls) h.views (refl, one) is

-- the lenses of a hub that is in step have one left type
pub one_left_of_hub : (ls : List ReadyForm) (h : HubTree) → IsHubOf ls h → HaveOneLeftType ready_lens ls
one_left_of_hub [] h all = absurd all
one_left_of_hub (l ∷ ls) h all = by_views h.views all where
  same : (ty : TyTree) (ls : List ReadyForm) (vs : List ViewTree) → AllInStep ready_lens ty ls h.hub vs → SameLeft ready_lens ty ls
  same ty [] vs a = tt
  same ty (m ∷ ms) [] a = absurd a
  same ty (m ∷ ms) (v ∷ vs) a = (a.0, same ty ms vs a.2)

  by_views : (vs : List ViewTree) → AllInStep ready_lens (left_type (form_of l)) (l ∷ ls) h.hub vs → SameLeft ready_lens (left_type (form_of l)) ls
  by_views [] a = absurd a
  by_views (v ∷ vs) a = same (left_type (form_of l)) ls vs a.2

-- a lens more with their left type has that of the hub's document
last_left : (ty : TyTree) (ls : List ReadyForm) (l : ReadyForm) → SameLeft ready_lens ty (ls ++ l ∷ []) → left_type (form_of l) ≡ ty
last_left ty [] l same = same.0
last_left ty (m ∷ ls) l same = last_left ty ls l same.1

pub last_has : (ls : List ReadyForm) (l : ReadyForm) (h : HubTree) → IsHubOf ls h → HaveOneLeftType ready_lens (ls ++ l ∷ []) → has (left_type (form_of l)) h.hub ≡ true
last_has [] l h all one = absurd all
last_has (m ∷ ls) l h all one = subst (λ ty. has ty h.hub ≡ true) (sym (last_left (left_type (form_of m)) ls l one)) (first_has (m ∷ ls) h m all refl)

pub ruleset snapshot_rules = (remaining-first, next_read, next_lost, all_read, other_count, next_test, all_tested, other_test, consistent_in_step, one_left_of_hub)
