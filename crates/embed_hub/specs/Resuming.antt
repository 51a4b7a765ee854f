-- The texts of a hub's state, and what is wrong with them. Read it from the end: `IsStateFault`, then `AreStateTexts`.
use Rattle.std.specs.Prelude.{◌≡◌, ◌⊎◌, ℕ, ◌+◌, ◌*◌, List, [], ◌∷◌, length}
use Rattle.doc_values.specs.Documents.{DocTree}
use Rattle.lens_core.specs.Consistency.{IsConsistent}
use Rattle.lens_forms.specs.Forms.{FormTree, left_type, right_type}
use Rattle.view_hub.specs.Hubs.{ViewTree, HubTree}
use Rattle.embed_session.specs.States.{IsDocumentText, IsComplementText, IsOfType, IsOfForm, IsNotOfType, IsNotOfForm}
use Rattle.embed_hub.specs.declared.outcome.HubStateFault.{HubStateFault}
use Rattle.embed_hub.specs.declared.outcome.HubStateFault.TheVariants as fault

-- ---- the texts of a state

-- two texts for each view: JSON of its document, and of its complement
abbrev pub AreViewTexts : List FormTree → List (List ℕ) → List ViewTree → Type 0
AreViewTexts [] [] [] = Unit {0}
AreViewTexts (form ∷ forms) (doc ∷ comp ∷ texts) (v ∷ vs) =
    IsDocumentText (right_type form) doc v.doc × IsComplementText form comp v.comp × AreViewTexts forms texts vs
AreViewTexts _ _ _ = ⊥

-- JSON of the hub's document, and then the texts of the views, consistent or not
abbrev pub AreStateTexts : List FormTree → List (List ℕ) → HubTree → Type 0
AreStateTexts (form ∷ forms) (hub ∷ texts) h =
    IsDocumentText (left_type form) hub h.hub × AreViewTexts (form ∷ forms) texts h.views
AreStateTexts _ _ h = ⊥

-- ---- what is wrong with them

-- the first text that is wrong, where the first view has this number
abbrev pub IsViewsFault : ℕ → List FormTree → List (List ℕ) → HubStateFault → Type 0
IsViewsFault v (form ∷ forms) (doc ∷ comp ∷ texts) why =
    (IsNotOfType (right_type form) doc × (why ≡ fault.NotView v))
    ⊎ (IsOfType (right_type form) doc × IsNotOfForm form comp × (why ≡ fault.NotComplement v))
    ⊎ (IsOfType (right_type form) doc × IsOfForm form comp × IsViewsFault (v + 1) forms texts why)
IsViewsFault v _ _ why = ⊥

-- the view is consistent with a document of the hub
abbrev pub IsViewOf : DocTree → FormTree → ViewTree → Type 0
IsViewOf x form v = IsConsistent form x v.comp v.doc

-- the number of the first view that is not consistent, where the first view has this number
abbrev pub IsOutOfStep : ℕ → DocTree → List FormTree → List ViewTree → ℕ → Type 0
IsOutOfStep first x (form ∷ forms) (v ∷ vs) n =
    ((IsViewOf x form v → ⊥) × (n ≡ first)) ⊎ (IsViewOf x form v × IsOutOfStep (first + 1) x forms vs n)
IsOutOfStep first x _ _ n = ⊥

-- the texts are of a hub, of which this view is the first that is not consistent
pub record IsHubOutOfStep (forms : List FormTree) (texts : List (List ℕ)) (n : ℕ) : Type 0 where
  pub hub : HubTree
  pub are : AreStateTexts forms texts hub
  pub view : IsOutOfStep 0 hub.hub forms hub.views n

-- the first text is of no document of the hub
abbrev pub IsNotHub : List FormTree → List (List ℕ) → Type 0
IsNotHub (form ∷ forms) (hub ∷ texts) = IsNotOfType (left_type form) hub
IsNotHub _ _ = ⊥

-- the first text is of a document of the hub, and one behind it is the first that is wrong
abbrev pub IsBehindHub : List FormTree → List (List ℕ) → HubStateFault → Type 0
IsBehindHub (form ∷ forms) (hub ∷ texts) why =
    IsOfType (left_type form) hub × IsViewsFault 0 (form ∷ forms) texts why
IsBehindHub _ _ why = ⊥

-- one text of the hub and two of each view
abbrev pub text_count : List FormTree → ℕ
text_count forms = 2 * length forms + 1

-- The fault is the first one: the count is looked at first, then each text in order, and then each view in order.
-- Running out of memory says nothing.
abbrev pub IsStateFault : List FormTree → List (List ℕ) → HubStateFault → Type 0
IsStateFault forms texts fault.OtherCount = length texts ≡ text_count forms → ⊥
IsStateFault forms texts fault.NotHub = (length texts ≡ text_count forms) × IsNotHub forms texts
IsStateFault forms texts (fault.NotView n) =
    (length texts ≡ text_count forms) × IsBehindHub forms texts (fault.NotView n)
IsStateFault forms texts (fault.NotComplement n) =
    (length texts ≡ text_count forms) × IsBehindHub forms texts (fault.NotComplement n)
IsStateFault forms texts (fault.NotConsistent n) = IsHubOutOfStep forms texts n
IsStateFault forms texts fault.NoMemory = Unit {0}
