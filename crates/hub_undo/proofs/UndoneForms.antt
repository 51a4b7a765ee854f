-- What undoing comes to for compiled lenses is what it comes to for their forms.
use Rattle.std.proofs.Common.{◌≡◌, List, [], ◌∷◌, length, Option, Some, None, Result, Ok, Err, refl, sym, ap, ◌∙◌}
use Rattle.std.specs.Prelude.{option_and_then}
use Rattle.std.proofs.lemmas.List.{length-map}
use Rattle.edit_inverse.specs.Inverse.{inverse}
use Rattle.edit_module.specs.Words.{WordTree}
use Rattle.lens_flat.specs.declared.flat.ReadyForm.{ReadyForm}
use Rattle.lens_forms.specs.Forms.{FormTree, form_tree, left_type, right_type}
use Rattle.store_records.specs.declared.record_fault.RecordFault.{RecordFault}
use Rattle.view_hub.specs.Hubs.{ViewTree, HubTree, Place, CarriedTree, ViewRefusal, hub_step}
use Rattle.view_hub.specs.Laws.{AllInStep, IsHub}
use Rattle.hub_run.specs.FormLenses.{form_lens}
use Rattle.hub_run.specs.RunStates.{forms_of_lenses, ready_lens}
use Rattle.hub_run.proofs.MappedLenses.{steps_are}
use Rattle.hub_records.specs.HubStands.{HubStanding}
use Rattle.hub_undo.specs.HubUndone.{HubBringsBack, BringHubBack, BringViewsBack, joined_carried, no_hub_words, hub_undone, hub_undone_behind, hub_undone_first, undone_step, undone_views}
use Rattle.doc_values.specs.Documents.{DocTree}
use Rattle.doc_values.specs.Types.{TyTree}

abbrev form_of : ReadyForm → FormTree
form_of l = form_tree l.typed

-- ---- one edit

views_are : (ls : List ReadyForm) (vs : List ViewTree) (ws : List WordTree) → undone_views ready_lens ls vs ws ≡ undone_views form_lens (forms_of_lenses ls) vs ws
views_are [] vs ws = refl
views_are (l ∷ ls) [] ws = refl
views_are (l ∷ ls) (v ∷ vs) [] = refl
views_are (l ∷ ls) (v ∷ vs) (w ∷ ws) = ap (λ xs. inverse (right_type (form_of l)) w v.doc ∷ xs) (views_are ls vs ws)

step_is : (ls : List ReadyForm) (h : HubTree) (c : CarriedTree) → undone_step ready_lens ls h c ≡ undone_step form_lens (forms_of_lenses ls) h c
step_is [] h c = refl
step_is (l ∷ ls) h c = ap (λ ws. record { hub = inverse (left_type (form_of l)) c.hub h.hub; views = ws }) (views_are (l ∷ ls) h.views c.views)

-- ---- all edits

module _ (ls : List ReadyForm) where
  abbrev forms : List FormTree
  forms = forms_of_lenses ls

  first_is : (h : HubTree) (words : CarriedTree) (es : List (Place × WordTree)) (o : Option (Result (HubTree × CarriedTree) ViewRefusal))
      → ((more : CarriedTree) (next : HubTree) → hub_undone_behind ready_lens ls more next es ≡ hub_undone_behind form_lens forms more next es)
      → option_and_then (hub_undone_first ready_lens (λ c. joined_carried (undone_step ready_lens ls h c) words) (λ more next. hub_undone_behind ready_lens ls more next es)) o
      ≡ option_and_then (hub_undone_first form_lens (λ c. joined_carried (undone_step form_lens forms h c) words) (λ more next. hub_undone_behind form_lens forms more next es)) o
  first_is h words es (Some (Ok s)) same =
      same (joined_carried (undone_step ready_lens ls h s.1) words) s.0 ∙ ap (λ c. hub_undone_behind form_lens forms (joined_carried c words) s.0 es) (step_is ls h s.1)
  first_is h words es (Some (Err why)) same = refl
  first_is h words es None same = refl

  behind_is : (words : CarriedTree) (h : HubTree) (es : List (Place × WordTree)) → hub_undone_behind ready_lens ls words h es ≡ hub_undone_behind form_lens forms words h es
  behind_is words h [] = refl
  behind_is words h (e ∷ es) =
      first_is h words es (hub_step ready_lens ls h e) (λ more next. behind_is more next es)
      ∙ ap (option_and_then (hub_undone_first form_lens (λ c. joined_carried (undone_step form_lens forms h c) words) (λ more next. hub_undone_behind form_lens forms more next es)))
      (steps_are form_of form_lens ls h e)

  pub undone_is : (h : HubTree) (es : List (Place × WordTree)) → hub_undone ready_lens ls h es ≡ hub_undone form_lens forms h es
  undone_is h es = behind_is (no_hub_words (length ls)) h es ∙ ap (λ n. hub_undone_behind form_lens forms (no_hub_words n) h es) (sym (length-map ls form_of))

-- ---- taking back

views_back : (ls : List ReadyForm) (ws : List WordTree) (now was : List ViewTree) → BringViewsBack ready_lens ls ws now was → BringViewsBack form_lens (forms_of_lenses ls) ws now was
views_back [] [] [] [] b = tt
views_back [] [] [] (u ∷ us) b = absurd b
views_back [] [] (v ∷ vs) was b = absurd b
views_back [] (w ∷ ws) now was b = absurd b
views_back (l ∷ ls) [] now was b = absurd b
views_back (l ∷ ls) (w ∷ ws) [] was b = absurd b
views_back (l ∷ ls) (w ∷ ws) (v ∷ vs) [] b = absurd b
views_back (l ∷ ls) (w ∷ ws) (v ∷ vs) (u ∷ us) b = (b.0, views_back ls ws vs us b.1)

hub_back : (ls : List ReadyForm) (w : WordTree) (now was : DocTree) → BringHubBack ready_lens ls w now was → BringHubBack form_lens (forms_of_lenses ls) w now was
hub_back [] w now was b = tt
hub_back (l ∷ ls) w now was b = b

pub forms_back : (ls : List ReadyForm) (words : CarriedTree) (now was : HubTree) → HubBringsBack ready_lens ls words now was → HubBringsBack form_lens (forms_of_lenses ls) words now was
forms_back ls words now was b =
    record { hub_back = hub_back ls words.hub now.hub was.hub b.hub_back; views_back = views_back ls words.views now.views was.views b.views_back }

-- ---- a hub in step

lenses_in : (ty : TyTree) (ls : List ReadyForm) (x : DocTree) (vs : List ViewTree) → AllInStep form_lens ty (forms_of_lenses ls) x vs → AllInStep ready_lens ty ls x vs
lenses_in ty [] x [] h = tt
lenses_in ty [] x (v ∷ vs) h = absurd h
lenses_in ty (l ∷ ls) x [] h = absurd h
lenses_in ty (l ∷ ls) x (v ∷ vs) h = (h.0, h.1, lenses_in ty ls x vs h.2)

-- a hub that is in step with the forms of lenses is in step with the lenses
pub hub_of_lenses : (ls : List ReadyForm) (h : HubTree) → IsHub form_lens (forms_of_lenses ls) h → IsHub ready_lens ls h
hub_of_lenses [] h all = absurd all
hub_of_lenses (l ∷ ls) h all = lenses_in (left_type (form_of l)) (l ∷ ls) h.hub h.views all

-- ---- what stands is one

pub same_standing : (r : Result HubStanding RecordFault) (s t : HubStanding) → r ≡ Ok s → r ≡ Ok t → s ≡ t
same_standing r s t e f = let both : Ok s ≡ Ok t = sym e ∙ f in cc

-- what undoing comes to is one
pub same_made : (o : Option (HubTree × CarriedTree)) (r s : HubTree × CarriedTree) → o ≡ Some r → o ≡ Some s → r ≡ s
same_made o r s e f = let both : Some r ≡ Some s = sym e ∙ f in cc

pub never_none : (o : Option (HubTree × CarriedTree)) (r : HubTree × CarriedTree) → o ≡ Some r → o ≡ None → ⊥
never_none o r e f = let both : Some r ≡ None = sym e ∙ f in cc
