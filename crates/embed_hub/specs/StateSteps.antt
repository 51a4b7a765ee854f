-- For the helpers that read a hub's state: what a part of the texts is found to be.
use Rattle.std.specs.Prelude.{◌≡◌, ℕ, List, [], ◌∷◌}
use Rattle.doc_values.specs.Documents.{DocTree}
use Rattle.lens_forms.specs.Forms.{FormTree, right_type}
use Rattle.view_hub.specs.Hubs.{ViewTree}
use Rattle.embed_session.specs.States.{IsDocumentText, IsComplementText, IsOfType, IsNotOfType, IsNotOfForm}
use Rattle.embed_hub.specs.Resuming.{IsViewsFault, IsViewOf, IsStateFault}
use Rattle.embed_hub.specs.declared.outcome.HubStateFault.{HubStateFault}
use Rattle.embed_hub.specs.declared.outcome.HubStateFault.TheVariants as fault

-- ---- the texts of one view

abbrev pub IsViewText : FormTree → List ℕ → List ℕ → ViewTree → Type 0
IsViewText form doc comp v = IsDocumentText (right_type form) doc v.doc × IsComplementText form comp v.comp

abbrev pub IsViewFault : ℕ → FormTree → List ℕ → List ℕ → HubStateFault → Type 0
IsViewFault n form doc comp (fault.NotView m) = IsNotOfType (right_type form) doc × (m ≡ n)
IsViewFault n form doc comp (fault.NotComplement m) =
    IsOfType (right_type form) doc × IsNotOfForm form comp × (m ≡ n)
IsViewFault n form doc comp fault.NoMemory = Unit {0}
IsViewFault n form doc comp why = ⊥

-- ---- the texts of all views

-- the first text that is wrong; running out of memory says nothing
abbrev pub IsViewsEnd : List FormTree → List (List ℕ) → HubStateFault → Type 0
IsViewsEnd forms texts (fault.NotView n) = IsViewsFault 0 forms texts (fault.NotView n)
IsViewsEnd forms texts (fault.NotComplement n) = IsViewsFault 0 forms texts (fault.NotComplement n)
IsViewsEnd forms texts fault.NoMemory = Unit {0}
IsViewsEnd forms texts why = ⊥

-- a fault of the texts, and not of a view that is not consistent
abbrev pub IsTextsFault : List FormTree → List (List ℕ) → HubStateFault → Type 0
IsTextsFault forms texts (fault.NotConsistent n) = ⊥
IsTextsFault forms texts why = IsStateFault forms texts why

-- ---- the views

-- each view is consistent with the document of the hub
abbrev pub AreAllInStep : DocTree → List FormTree → List ViewTree → Type 0
AreAllInStep x [] [] = Unit {0}
AreAllInStep x (form ∷ forms) (v ∷ vs) = IsViewOf x form v × AreAllInStep x forms vs
AreAllInStep x _ _ = ⊥
