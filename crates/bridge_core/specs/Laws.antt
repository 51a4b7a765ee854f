-- What bridges between documents keep. In order: `BridgeSpans`, `CarriedActs`, `OnlyGoneIsRefused`,
-- `SpansValue`.
use Rattle.std.specs.Prelude.{◌≡◌, true, Result, Ok, Err}
use Rattle.doc_values.specs.Documents.{DocTree}
use Rattle.doc_values.specs.Types.{TyTree, is_well_formed}
use Rattle.doc_values.specs.Typing.{has}
use Rattle.edit_module.specs.declared.fault.Cause.{Cause}
use Rattle.edit_module.specs.declared.fault.Cause.TheVariants.{Overflow}
use Rattle.edit_module.specs.Words.{WordTree}
use Rattle.edit_module.specs.Action.{Why, act, inner}
use Rattle.bridge_core.specs.Bridges.{BridgeTree}
use Rattle.bridge_core.specs.Bridged.{bridge}
use Rattle.bridge_core.specs.Carried.{WhyNot, gone, carry}
use Rattle.bridge_core.specs.Spans.{Spans}

-- after a word has acted on the far document v, the bridge leads from the near document s to its value
abbrev pub BridgeSpans : Type 0
BridgeSpans = (t : TyTree) (w : WordTree) (b : BridgeTree) (s v u : DocTree) → is_well_formed t ≡ true
    → has t s ≡ true → has t v ≡ true → Spans b t s v → act t w v ≡ Ok u → Spans (bridge t w v b) t s u

-- the bridge leads from s to some document
abbrev pub BeginsAt : BridgeTree → TyTree → DocTree → Type 0
BeginsAt b t s = (u : DocTree) × Spans b t s u

-- a word had this value on the far document, and the bridge leads to it from s; or a sum does not fit there, and the
-- bridge begins at s
abbrev pub LeadsTo : BridgeTree → TyTree → DocTree → Result DocTree Cause → Type 0
LeadsTo b t s (Ok u) = Spans b t s u
LeadsTo b t s (Err Overflow) = BeginsAt b t s
LeadsTo b t s (Err _) = ⊥

-- a word acts on the near document and is carried: the carried word acts on the far document, unless a sum does not fit
-- there, and the bridge behind it leads from the one value to the other
abbrev pub CarriedActs : Type 0
CarriedActs = (t : TyTree) (w : WordTree) (b : BridgeTree) (s u v : DocTree) (q : WordTree × BridgeTree)
    → Spans b t s u → act t w s ≡ Ok v → carry t b w ≡ Ok q → LeadsTo q.1 t v (inner (act t q.0 u))

-- a word that acts on the near document is refused only because what it changes is gone
abbrev pub OnlyGoneIsRefused : Type 0
OnlyGoneIsRefused = (t : TyTree) (w : WordTree) (b : BridgeTree) (s v : DocTree) (why : WhyNot)
    → BeginsAt b t s → act t w s ≡ Ok v → carry t b w ≡ Err why → why ≡ gone

-- a word had this answer on a document, which is a value; the bridge leads to it from s
abbrev pub SpansValue : BridgeTree → TyTree → DocTree → Result DocTree Why → Type 0
SpansValue b t s (Ok u) = Spans b t s u
SpansValue b t s (Err why) = ⊥
