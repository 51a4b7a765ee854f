-- The state lines of a hub, as a loop over its views writes them.
use Rattle.std.proofs.Common.{◌≡◌, ℕ, zero, suc, ◌+◌, ◌<◌, ◌≤◌, List, [], ◌∷◌, ◌++◌, map, length, drop, get_or, slice_get, Some, None, IsTrue, refl, sym, ap, ap₂, subst, ◌∙◌, append_assoc, append-nil, arith}
use Rattle.std.specs.Prelude.{option_map}
use Rattle.std.proofs.lemmas.List.{drop_all}
use Rattle.doc_values.specs.Documents.{DocTree, doc_tree}
use Rattle.doc_values.specs.Types.{TyTree}
use Rattle.doc_values.specs.Typing.{has}
use Rattle.doc_values.specs.declared.doc.Doc.{Doc}
use Rattle.lens_flat.specs.declared.flat.ReadyForm.{ReadyForm}
use Rattle.lens_forms.specs.Forms.{FormTree, form_tree, left_type, right_type}
use Rattle.lens_core.specs.Complements.{comp_tree, Fits}
use Rattle.lens_core.specs.Consistency.{IsConsistent}
use Rattle.lens_core.specs.declared.comp.Comp.{Comp}
use Rattle.lens_core.proofs.LawsOfWords.{consistent_is_typed}
use Rattle.view_hub.specs.Hubs.{ViewTree, HubTree}
use Rattle.view_hub.specs.Laws.{AllInStep, IsHub}
use Rattle.view_hub.specs.Views.{view_tree}
use Rattle.view_hub.specs.declared.view.View as a_view
use Rattle.hub_run.specs.FormLenses.{form_lens, lens_by}
use Rattle.hub_run.specs.RunStates.{forms_of_lenses, IsHubOf}
use Rattle.hub_run.specs.Runs.{lines_of_view, view_lines, hub_state_lines, hub_line, HasLinesOfView}
use Rattle.shared_lists.proofs.SplicedLists.{drop-at}

-- ---- the views of a hub that is in step

-- a view, which belongs to the hub's document by this form
pub record ViewThere (views : List ViewTree) (k : ℕ) (form : FormTree) (x : DocTree) : Type 0 where
  pub view : ViewTree
  pub is : slice_get views k ≡ Some view
  pub right_has : IsTrue (has (right_type form) view.doc)
  pub comp_fits : Fits form view.comp

module _ {L : Type 0} (f : L → FormTree) where
  all_there : (ty : TyTree) (ls : List L) (x : DocTree) (vs : List ViewTree) (k : ℕ) (form : FormTree)
      → AllInStep (lens_by f form_lens) ty ls x vs → slice_get (map f ls) k ≡ Some form → ViewThere vs k form x
  all_there ty [] x [] k form h is = absurd cc
  all_there ty [] x (v ∷ vs) k form h is = absurd h
  all_there ty (l ∷ ls) x [] k form h is = absurd h
  all_there ty (l ∷ ls) x (v ∷ vs) zero form h is =
      let same : f l ≡ form = cc in
      let t = consistent_is_typed form x v.comp v.doc (subst (λ g. IsConsistent g x v.comp v.doc) same h.1) in
      record { view = v; is = refl; right_has = t.right_has; comp_fits = t.comp_fits }
  all_there ty (l ∷ ls) x (v ∷ vs) (suc k) form h is =
      let r = all_there ty ls x vs k form h.2 is in
      record { view = r.view; is = r.is; right_has = r.right_has; comp_fits = r.comp_fits }

  pub view_there : (ls : List L) (h : HubTree) (k : ℕ) (form : FormTree) → IsHub (lens_by f form_lens) ls h
      → slice_get (map f ls) k ≡ Some form → ViewThere h.views k form h.hub
  view_there [] h k form all is = absurd all
  view_there (l ∷ ls) h k form all is = all_there (left_type (f l)) (l ∷ ls) h.hub h.views k form all is

  -- the hub's document has the left type of the first form
  pub hub_has : (ls : List L) (h : HubTree) (form : FormTree) → IsHub (lens_by f form_lens) ls h
      → slice_get (map f ls) 0 ≡ Some form → IsTrue (has (left_type form) h.hub)
  hub_has [] h form all is = absurd all
  hub_has (l ∷ ls) h form all is = by_views h.views all where
    by_views : (vs : List ViewTree) → AllInStep (lens_by f form_lens) (left_type (f l)) (l ∷ ls) h.hub vs
        → IsTrue (has (left_type form) h.hub)
    by_views [] a = absurd a
    by_views (v ∷ vs) a =
        let same : f l ≡ form = cc in
        (consistent_is_typed form h.hub v.comp v.doc (subst (λ g. IsConsistent g h.hub v.comp v.doc) same a.1)).left_has

-- the document and the complement that the code has of a view
pub parts_are : (vs : List a_view.View) (k : ℕ) (d : Doc) (c : Comp) (v : ViewTree) → Some d ≡ option_map (λ (w : a_view.View). w.doc.value) (slice_get vs k) → Some c ≡ option_map (λ (w : a_view.View). w.comp) (slice_get vs k)
    → slice_get (map view_tree vs) k ≡ Some v → (doc_tree d ≡ v.doc) × (comp_tree c ≡ v.comp)
parts_are [] k d c v doc comp is = absurd cc
parts_are (w ∷ vs) zero d c v doc comp is =
    let view : view_tree w ≡ v = cc in
    let document : d ≡ w.doc.value = cc in
    let complement : c ≡ w.comp = cc in
    (ap doc_tree document ∙ ap (λ (u : ViewTree). u.doc) view, ap comp_tree complement ∙ ap (λ (u : ViewTree). u.comp) view)
parts_are (w ∷ vs) (suc k) d c v doc comp is = parts_are vs k d c v doc comp is

-- a view that the code has: what a hub in step says of its document and its complement
pub record IsView (vs : List a_view.View) (k : ℕ) (form : FormTree) (d : Doc) (c : Comp) : Type 0 where
  pub view : ViewTree
  pub is : slice_get (map view_tree vs) k ≡ Some view
  pub doc : doc_tree d ≡ view.doc
  pub comp : comp_tree c ≡ view.comp
  pub has : IsTrue (has (right_type form) (doc_tree d))
  pub fits : Fits form (comp_tree c)

pub is_view : (vs : List a_view.View) (k : ℕ) (form : FormTree) (x : DocTree) (d : Doc) (c : Comp) → ViewThere (map view_tree vs) k form x
    → Some d ≡ option_map (λ (w : a_view.View). w.doc.value) (slice_get vs k) → Some c ≡ option_map (λ (w : a_view.View). w.comp) (slice_get vs k) → IsView vs k form d c
is_view vs k form x d c there doc comp =
    let p = parts_are vs k d c there.view doc comp there.is in
    record {
      view = there.view;
      is = there.is;
      doc = p.0;
      comp = p.1;
      has = subst (λ (y : DocTree). IsTrue (has (right_type form) y)) (sym p.0) there.right_has;
      fits = subst (Fits form) (sym p.1) there.comp_fits;
    }

-- there is such a view
pub no_doc : (vs : List a_view.View) (k : ℕ) (form : FormTree) (x : DocTree) → ViewThere (map view_tree vs) k form x → None ≡ option_map (λ (w : a_view.View). w.doc.value) (slice_get vs k) → ⊥
no_doc vs k form x there none = by_view vs k there.is none where
  by_view : (vs : List a_view.View) (k : ℕ) → slice_get (map view_tree vs) k ≡ Some there.view → None ≡ option_map (λ (w : a_view.View). w.doc.value) (slice_get vs k) → ⊥
  by_view [] k is none = cc
  by_view (w ∷ vs) zero is none = cc
  by_view (w ∷ vs) (suc k) is none = by_view vs k is none

pub no_comp : (vs : List a_view.View) (k : ℕ) (form : FormTree) (x : DocTree) → ViewThere (map view_tree vs) k form x → None ≡ option_map (λ (w : a_view.View). w.comp) (slice_get vs k) → ⊥
no_comp vs k form x there none = by_view vs k there.is none where
  by_view : (vs : List a_view.View) (k : ℕ) → slice_get (map view_tree vs) k ≡ Some there.view → None ≡ option_map (λ (w : a_view.View). w.comp) (slice_get vs k) → ⊥
  by_view [] k is none = cc
  by_view (w ∷ vs) zero is none = cc
  by_view (w ∷ vs) (suc k) is none = by_view vs k is none

-- ---- the forms of a hub

-- there is a view
pub some_lens : (ls : List ReadyForm) (h : HubTree) → IsHubOf ls h → 0 < length ls
some_lens [] h all = absurd all
some_lens (l ∷ ls) h all = omega arith

-- the form at a place
lens_at : (ls : List ReadyForm) (i : ℕ) (d : ReadyForm) → i < length ls → slice_get (forms_of_lenses ls) i ≡ Some (form_tree (get_or ls i d).typed)
lens_at [] i d within = absurd (omega (arith, within))
lens_at (l ∷ ls) zero d within = refl
lens_at (l ∷ ls) (suc i) d within = lens_at ls i d (omega (arith, within))

pub form_at : (ls : List ReadyForm) (i : ℕ) (l : ReadyForm) → i < length ls → l ≡ get_or ls i l → slice_get (forms_of_lenses ls) i ≡ Some (form_tree l.typed)
form_at ls i l within is = lens_at ls i l within ∙ ap (λ (u : ReadyForm). Some (form_tree u.typed)) (sym is)

-- the document of the hub
pub first_has : (ls : List ReadyForm) (h : HubTree) (l : ReadyForm) → IsHubOf ls h → l ≡ get_or ls 0 l → IsTrue (has (left_type (form_tree l.typed)) h.hub)
first_has ls h l all is = hub_has (λ (l : ReadyForm). form_tree l.typed) ls h (form_tree l.typed) all (form_at ls 0 l (some_lens ls h all) is)

-- all lines, from that of the hub
pub state_text_is : (ls : List ReadyForm) (h : HubTree) (l : ReadyForm) (line text : List ℕ) → 0 < length ls → l ≡ get_or ls 0 l → line ≡ hub_line (form_tree l.typed) h.hub
    → text ≡ line ++ view_lines 0 (forms_of_lenses ls) h.views → text ≡ hub_state_lines (forms_of_lenses ls) h
state_text_is [] h l line text within is line_is text_is = absurd (omega (arith, within))
state_text_is (u ∷ ls) h l line text within is line_is text_is =
    text_is ∙ ap (λ (x : List ℕ). x ++ view_lines 0 (forms_of_lenses (u ∷ ls)) h.views) (line_is ∙ ap (λ (v : ReadyForm). hub_line (form_tree v.typed) h.hub) is)

-- ---- the loop

-- the lines of one view more
pub lines_next : (forms : List FormTree) (views : List ViewTree) (i : ℕ) (form : FormTree) (old new lines : List ℕ) → slice_get forms i ≡ Some form → HasLinesOfView views i form lines
    → new ≡ old ++ lines → new ++ view_lines (i + 1) (drop (i + 1) forms) (drop (i + 1) views) ≡ old ++ view_lines i (drop i forms) (drop i views)
lines_next forms views i form old new lines form_is there is =
    let v = there.view in
    ap (λ x. x ++ view_lines (i + 1) (drop (i + 1) forms) (drop (i + 1) views)) (is ∙ ap (λ x. old ++ x) there.are)
    ∙ append_assoc old (lines_of_view i form v.comp v.doc) (view_lines (i + 1) (drop (i + 1) forms) (drop (i + 1) views))
    ∙ ap₂ (λ fs vs. old ++ view_lines i fs vs) (sym (drop-at forms i form form_is)) (sym (drop-at views i v there.is))

-- the lines of all views
pub lines_done : (forms : List FormTree) (views : List ViewTree) (i : ℕ) (text : List ℕ) → length forms ≤ i → text ++ view_lines i (drop i forms) (drop i views) ≡ text
lines_done forms views i text past = ap (λ (fs : List FormTree). text ++ view_lines i fs (drop i views)) (drop_all i forms past) ∙ none (drop i views) where
  none : (vs : List ViewTree) → text ++ view_lines i [] vs ≡ text
  none [] = append-nil text
  none (v ∷ vs) = append-nil text
