-- The texts of the parts of a hub that is in step, as the code comes to them.
use Rattle.std.proofs.Common.{◌≡◌, ℕ, zero, suc, ◌<◌, List, [], ◌∷◌, map, length, get_or, slice_get, Some, option_map, option_and_then, ap, ◌∙◌, arith}
use Rattle.serde_json.specs.Written.{compact_text}
use Rattle.doc_values.specs.Documents.{doc_tree}
use Rattle.doc_values.specs.declared.doc.Doc.{Doc}
use Rattle.value_json.specs.DocumentJson.{tree_of_document}
use Rattle.lens_core.specs.Complements.{comp_tree}
use Rattle.lens_core.specs.declared.comp.Comp.{Comp}
use Rattle.lens_flat.specs.declared.flat.ReadyForm.{ReadyForm}
use Rattle.lens_forms.specs.Forms.{FormTree, form_tree, left_type}
use Rattle.lens_types.specs.declared.typed.Typed.{Typed}
use Rattle.view_hub.specs.Hubs.{ViewTree, HubTree}
use Rattle.view_hub.specs.Views.{view_tree}
use Rattle.view_hub.specs.declared.view.View as a_view
use Rattle.hub_run.specs.RunStates.{forms_of_lenses, IsHubOf}
use Rattle.hub_run.specs.Runs.{HubState}
use Rattle.hub_run.proofs.StateLines.{ViewThere, view_there}
use Rattle.embed_hub.specs.Parts.{hub_text, view_at}

-- ---- the hub's document

pub hub_text_is : (typed : List Typed) (ls : List ReadyForm) (h : HubTree) (t : Typed) (text : List ℕ) → map form_tree typed ≡ forms_of_lenses ls → 0 < length typed → t ≡ get_or typed 0 t
    → text ≡ compact_text (tree_of_document (left_type (form_tree t)) h.hub) → text ≡ hub_text (forms_of_lenses ls) h
hub_text_is [] ls h t text same some is text_is = absurd (omega (arith, some))
hub_text_is (u ∷ typed) ls h t text same some is text_is =
    text_is ∙ ap (λ (v : Typed). compact_text (tree_of_document (left_type (form_tree v)) h.hub)) is ∙ ap (λ forms. hub_text forms h) same

-- ---- a view

module _ (t : HubState) (k : ℕ) where
  -- the view of a form that there is
  pub with_view : (form : FormTree) (view : ViewTree) → slice_get t.forms k ≡ Some form → slice_get t.hub.views k ≡ Some view → view_at t k ≡ Some (form, view)
  with_view form view is there =
      ap (λ o. option_and_then (λ form. option_map (λ view. (form, view)) (slice_get t.hub.views k)) o) is ∙ ap (λ o. option_map (λ view. (form, view)) o) there

-- the view with this number, which belongs to the hub's document by this form
pub view_of : (ls : List ReadyForm) (h : HubTree) (k : ℕ) (form : FormTree) → IsHubOf ls h → slice_get (forms_of_lenses ls) k ≡ Some form → ViewThere h.views k form h.hub
view_of ls h k form all is = view_there (λ (l : ReadyForm). form_tree l.typed) ls h k form all is

-- the document and the complement that the code has of a view
pub doc_is : (vs : List a_view.View) (k : ℕ) (d : Doc) (v : ViewTree) → Some d ≡ option_map (λ (w : a_view.View). w.doc.value) (slice_get vs k) → slice_get (map view_tree vs) k ≡ Some v → doc_tree d ≡ v.doc
doc_is [] k d v doc is = absurd cc
doc_is (w ∷ vs) zero d v doc is =
    let view : view_tree w ≡ v = cc in
    let document : d ≡ w.doc.value = cc in
    ap doc_tree document ∙ ap (λ (u : ViewTree). u.doc) view
doc_is (w ∷ vs) (suc k) d v doc is = doc_is vs k d v doc is

pub comp_is : (vs : List a_view.View) (k : ℕ) (c : Comp) (v : ViewTree) → Some c ≡ option_map (λ (w : a_view.View). w.comp) (slice_get vs k) → slice_get (map view_tree vs) k ≡ Some v → comp_tree c ≡ v.comp
comp_is [] k c v comp is = absurd cc
comp_is (w ∷ vs) zero c v comp is =
    let view : view_tree w ≡ v = cc in
    let complement : c ≡ w.comp = cc in
    ap comp_tree complement ∙ ap (λ (u : ViewTree). u.comp) view
comp_is (w ∷ vs) (suc k) c v comp is = comp_is vs k c v comp is
