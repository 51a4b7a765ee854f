-- One step: what an entry, a group of entries and a change make of a left document, a complement and a right document.
-- A lens comes as its two types and its translation of words. Read it from the end: `step_all`, `step_each`, `step`,
-- then `IsInStep` near the head.
use Rattle.std.specs.Prelude.{◌≡◌, ℕ, ◌+◌, List, [], ◌∷◌, Option, Some, None, option_map, option_and_then, Result, Ok}
use Rattle.std.specs.Prelude.{Err}
use Rattle.texts.specs.declared.side.Side.{Side}
use Rattle.texts.specs.declared.side.Side.TheVariants.{Left, Right}
use Rattle.texts.specs.Sides.{other}
use Rattle.doc_values.specs.Documents.{DocTree}
use Rattle.doc_values.specs.Types.{TyTree}
use Rattle.doc_values.specs.Initial.{initial}
use Rattle.edit_module.specs.Words.{WordTree}
use Rattle.edit_module.specs.Changes.{ChangeTree, one, group}
use Rattle.edit_module.specs.Action.{act, Why}
use Rattle.lens_core.specs.Complements.{CompTree}
use Rattle.lens_core.specs.Sides.{near}
use Rattle.lens_core.specs.Translation.{Translated}

-- a left document, a complement and a right document, as plain trees
pub record TripleTree : Type 0 where
  pub left : DocTree
  pub comp : CompTree
  pub right : DocTree

-- the three belong together, by the consistency relation of a lens
abbrev pub IsInStep : (DocTree → CompTree → DocTree → Type 0) → TripleTree → Type 0
IsInStep holds t = holds t.left t.comp t.right

-- the first triple of a lens: the initial documents of its two types, and its missing complement
abbrev pub first : TyTree → TyTree → CompTree → TripleTree
first left right start = record { left = initial left; comp = start; right = initial right }

-- the document of a side
abbrev pub document_on : Side → TripleTree → DocTree
document_on Left t = t.left
document_on Right t = t.right

-- the triple of a side's document, a complement, and the document of the other side
abbrev pub triple_from : Side → DocTree → CompTree → DocTree → TripleTree
triple_from Left x c y = record { left = x; comp = c; right = y }
triple_from Right y c x = record { left = x; comp = c; right = y }

-- a step that was made: the new triple and the carried word; or, where the word does not apply to the document of its
-- side, the number of its first primitive that fails, and the cause
abbrev pub Stepped : Type 0
Stepped = Result (TripleTree × WordTree) Why

-- The word was carried, and the carried word acts on the document of the other side. Where it has a value there, the
-- new triple is the new document of the side, the carried complement and this value. Otherwise there is no step.
abbrev pub after_carrying : Side → DocTree → Translated → Result DocTree Why → Option Stepped
after_carrying side x r (Ok y) = Some (Ok (triple_from side x r.1 y, r.0))
after_carrying side x r (Err why) = None

-- The word acts on the document of its side. Where it has a value there, it is carried to the other side with the
-- complement. If it is carried to nothing there is no step. Where it has no value, its number and cause are the answer.
abbrev pub after_action : TyTree → TyTree → (Side → CompTree → WordTree → Option Translated) → TripleTree → Side
    → WordTree → Result DocTree Why → Option Stepped
after_action left right carried t side w (Ok x) =
    option_and_then (λ r. after_carrying side x r (act (near (other side) left right) r.0 (document_on (other side) t)))
    (carried side t.comp w)
after_action left right carried t side w (Err why) = Some (Err why)

-- what an entry, of a side and a word, makes of a triple, for the lens of these two types and this translation
abbrev pub step : TyTree → TyTree → (Side → CompTree → WordTree → Option Translated) → TripleTree → Side × WordTree
    → Option Stepped
step left right carried t e =
    after_action left right carried t e.0 e.1 (act (near e.0 left right) e.1 (document_on e.0 t))

-- ---- groups and changes

-- why a change is refused: the number in the change, from 0, of its first entry that does not apply; and in that entry
-- the number of the first primitive that fails, and the cause
abbrev pub WhyPart : Type 0
WhyPart = ℕ × Why

-- a change that was made: the new triple and the carried words, one for each entry; or why it is refused
abbrev pub AllStepped : Type 0
AllStepped = Result (TripleTree × List WordTree) WhyPart

-- what the other entries of a group make, with the carried word of the first one in front of theirs; they are numbered
-- from 1 on
abbrev pub with_first : WordTree → AllStepped → AllStepped
with_first w (Ok s) = Ok (s.0, w ∷ s.1)
with_first w (Err why) = Err (why.0 + 1, why.1)

-- the first entry was accepted and the others go on from its triple, or it was refused and the group with it
abbrev pub after_first : (TripleTree → Option AllStepped) → Stepped → Option AllStepped
after_first others (Ok s) = option_map (with_first s.1) (others s.0)
after_first others (Err why) = Some (Err (0, why))

-- What the entries of a group make of a triple, each from the triple that the one before it left. The first that is
-- refused refuses them all. No entries leave the triple as it is, and their list of words is empty.
abbrev pub step_each : TyTree → TyTree → (Side → CompTree → WordTree → Option Translated) → TripleTree
    → List (Side × WordTree) → Option AllStepped
step_each left right carried t [] = Some (Ok (t, []))
step_each left right carried t (e ∷ es) =
    option_and_then (after_first (λ next. step_each left right carried next es)) (step left right carried t e)

-- a single entry as a change: its one carried word; where it is refused its number in the change is 0
abbrev pub alone : Stepped → AllStepped
alone (Ok s) = Ok (s.0, s.1 ∷ [])
alone (Err why) = Err (0, why)

-- what a change makes of a triple, for the lens of these two types and this translation
abbrev pub step_all : TyTree → TyTree → (Side → CompTree → WordTree → Option Translated) → TripleTree → ChangeTree
    → Option AllStepped
step_all left right carried t (one e) = option_map alone (step left right carried t e)
step_all left right carried t (group es) = step_each left right carried t es

-- ---- inside a group

-- the triple after the first entry, and those after the entries behind it; there is none after an entry that is refused
abbrev pub from_first : (TripleTree → Option (List TripleTree)) → Stepped → Option (List TripleTree)
from_first others (Ok s) = option_map (λ ts. s.0 ∷ ts) (others s.0)
from_first others (Err why) = Some []

-- the triples inside a group: the one after each entry, up to the first entry that is refused
abbrev pub inner_triples : TyTree → TyTree → (Side → CompTree → WordTree → Option Translated) → TripleTree
    → List (Side × WordTree) → Option (List TripleTree)
inner_triples left right carried t [] = Some []
inner_triples left right carried t (e ∷ es) =
    option_and_then (from_first (λ next. inner_triples left right carried next es)) (step left right carried t e)

-- each entry of a group applies to the document of its side when its turn comes
abbrev pub ApplyInTurn : TyTree → TyTree → (Side → CompTree → WordTree → Option Translated) → TripleTree
    → List (Side × WordTree) → Type 0
ApplyInTurn left right carried t [] = Unit {0}
ApplyInTurn left right carried t (e ∷ es) =
    (x : DocTree) × (act (near e.0 left right) e.1 (document_on e.0 t) ≡ Ok x)
    × ((s : TripleTree × WordTree) → step left right carried t e ≡ Some (Ok s) → ApplyInTurn left right carried s.0 es)
