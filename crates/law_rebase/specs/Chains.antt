-- Bridges in a row, each from a document to the next. In order: `Leads`, `SumsFit`, `ChainsRefuseOnlyGone`,
-- `ChainsAct`.
use Rattle.std.specs.Prelude.{◌≡◌, List, [], ◌∷◌, Ok, Err}
use Rattle.doc_values.specs.Documents.{DocTree}
use Rattle.doc_values.specs.Types.{TyTree}
use Rattle.edit_module.specs.declared.fault.Cause.TheVariants.{Overflow}
use Rattle.edit_module.specs.Words.{WordTree}
use Rattle.edit_module.specs.Action.{act, inner}
use Rattle.bridge_core.specs.Bridges.{BridgeTree}
use Rattle.bridge_core.specs.Carried.{WhyNot, gone, carry}
use Rattle.bridge_core.specs.Spans.{Spans}
use Rattle.law_rebase.specs.Through.{carried_through}

-- the bridges lead from the document s to the document u, with a document between each two of them
abbrev pub Leads : TyTree → List BridgeTree → DocTree → DocTree → Type 0
Leads t [] s u = s ≡ u
Leads t (b ∷ bs) s u = (v : DocTree) × Spans b t s v × Leads t bs v u

-- what the word is behind each bridge does not fail at a sum that does not fit there
abbrev pub SumsFit : (t : TyTree) (bs : List BridgeTree) (s u : DocTree) → Leads t bs s u → WordTree → Type 0
SumsFit t [] s u way w = Unit {0}
SumsFit t (b ∷ bs) s u way w = (q : WordTree × BridgeTree) → carry t b w ≡ Ok q
    → (inner (act t q.0 way.0) ≡ Err Overflow → ⊥) × SumsFit t bs way.0 u way.2 q.0

-- a word that acts on the first document is refused only because what it changes is gone, where sums fit
abbrev pub ChainsRefuseOnlyGone : Type 0
ChainsRefuseOnlyGone = (t : TyTree) (bs : List BridgeTree) (w : WordTree) (s u v : DocTree) (way : Leads t bs s u)
    (why : WhyNot) → SumsFit t bs s u way w → act t w s ≡ Ok v → carried_through t bs w ≡ Err why → why ≡ gone

-- and if it goes through, what it is then acts on the last document
abbrev pub ChainsAct : Type 0
ChainsAct = (t : TyTree) (bs : List BridgeTree) (w q : WordTree) (s u v : DocTree) (way : Leads t bs s u)
    → SumsFit t bs s u way w → act t w s ≡ Ok v → carried_through t bs w ≡ Ok q
    → (x : DocTree) × (act t q u ≡ Ok x)
