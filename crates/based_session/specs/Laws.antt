-- What sessions with bases keep. In order: `NewestIsStep`, `BasesLeadOn`, `BasesLeadHere`, `OnlyGoneIsRefusedAt`,
-- `CarriedWordsAct`.
use Rattle.std.specs.Prelude.{◌≡◌, ◌<◌, ◌^◌, ◌-◌, ℕ, true, List, Option, Some, Ok, Err}
use Rattle.texts.specs.declared.side.Side.{Side}
use Rattle.doc_values.specs.Documents.{DocTree}
use Rattle.doc_values.specs.Types.{TyTree, is_well_formed}
use Rattle.doc_values.specs.Typing.{has}
use Rattle.edit_module.specs.Words.{WordTree}
use Rattle.edit_module.specs.Action.{act}
use Rattle.bridge_core.specs.Carried.{gone}
use Rattle.law_rebase.specs.Chains.{Leads, SumsFit}
use Rattle.lens_core.specs.Complements.{CompTree}
use Rattle.lens_core.specs.Sides.{near, far}
use Rattle.lens_core.specs.Translation.{Translated}
use Rattle.edit_session.specs.Step.{TripleTree, document_on, step}
use Rattle.based_session.specs.Bases.{KeptTree, BasedTree, bridges_on, since, WhyAt, not_carried, word_at, kept_by}
use Rattle.based_session.specs.Bases.{changed, stepped_by, step_at}
use Rattle.based_session.specs.Views.{IsBased}

-- a word whose base is the number of changes steps as it is
abbrev pub NewestIsStep : Type 0
NewestIsStep = (left right : TyTree) (carried : Side → CompTree → WordTree → Option Translated) (b : BasedTree)
    (side : Side) (w : WordTree) → b.number < 2 ^ 64 - 1
    → step_at left right carried b b.number side w ≡ stepped_by left right carried b side w

-- what is kept leads to the documents after a step, too
abbrev pub BasesLeadOn : Type 0
BasesLeadOn = (left right : TyTree) (carried : Side → CompTree → WordTree → Option Translated) (b : BasedTree)
    (u : TripleTree) (side : Side) (q w : WordTree) → is_well_formed left ≡ true → is_well_formed right ≡ true
    → has left b.triple.left ≡ true → has right b.triple.right ≡ true → IsBased left right b
    → step left right carried b.triple (side, q) ≡ Some (Ok (u, w))
    → IsBased left right (changed b u (kept_by left right b.triple (near side q w) (far side q w)))

-- for each base that is kept there is a document from which the bridges behind it lead to the present one
abbrev pub BasesLeadHere : Type 0
BasesLeadHere = (left right : TyTree) (b : BasedTree) (base : ℕ) (side : Side) (ks : List KeptTree)
    → IsBased left right b → since base b.number b.width b.kept ≡ Some ks
    → (s : DocTree) × Leads (near side left right) (bridges_on side ks) s (document_on side b.triple)

-- a word that acts on the document of its base is refused only because what it changes is gone, where sums fit
abbrev pub OnlyGoneIsRefusedAt : Type 0
OnlyGoneIsRefusedAt = (t : TyTree) (b : BasedTree) (base : ℕ) (side : Side) (ks : List KeptTree) (w : WordTree)
    (s u v : DocTree) (way : Leads t (bridges_on side ks) s u) (why : WhyAt) → b.number < 2 ^ 64 - 1
    → since base b.number b.width b.kept ≡ Some ks → SumsFit t (bridges_on side ks) s u way w → act t w s ≡ Ok v
    → word_at t b base side w ≡ Err why → why ≡ not_carried gone

-- and if it is not, the word as it was carried acts on the present document
abbrev pub CarriedWordsAct : Type 0
CarriedWordsAct = (t : TyTree) (b : BasedTree) (base : ℕ) (side : Side) (ks : List KeptTree) (w q : WordTree)
    (s u v : DocTree) (way : Leads t (bridges_on side ks) s u) → b.number < 2 ^ 64 - 1
    → since base b.number b.width b.kept ≡ Some ks → SumsFit t (bridges_on side ks) s u way w → act t w s ≡ Ok v
    → word_at t b base side w ≡ Ok q → (x : DocTree) × (act t q u ≡ Ok x)
