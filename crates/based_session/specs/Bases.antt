-- A session that keeps bridges of its last changes: what it makes of a word that was made for an older state.
-- Read it from the end: `step_at`, `word_at`, then `since`.
use Rattle.std.specs.Prelude.{ℕ, ◌+◌, ◌-◌, ◌^◌, ◌++◌, ◌&&◌, if◌then◌else◌, nat_lt, nat_le, List, [], ◌∷◌, length, map}
use Rattle.std.specs.Prelude.{drop, Option, Some, None, option_map, Result, Ok, Err}
use Rattle.texts.specs.declared.side.Side.{Side}
use Rattle.texts.specs.declared.side.Side.TheVariants.{Left, Right}
use Rattle.doc_values.specs.Types.{TyTree}
use Rattle.edit_module.specs.Words.{WordTree}
use Rattle.edit_module.specs.Action.{Why}
use Rattle.bridge_core.specs.Bridges.{BridgeTree, same}
use Rattle.bridge_core.specs.Bridged.{bridge}
use Rattle.bridge_core.specs.Carried.{WhyNot}
use Rattle.law_rebase.specs.Through.{Through, carried_through}
use Rattle.lens_core.specs.Complements.{CompTree}
use Rattle.lens_core.specs.Sides.{near, far}
use Rattle.lens_core.specs.Translation.{Translated}
use Rattle.edit_session.specs.Step.{TripleTree, Stepped, step}

-- the bridges by which a change led the left and the right document on
pub record KeptTree : Type 0 where
  pub left : BridgeTree
  pub right : BridgeTree

-- the present triple, the bridges of the last changes with the oldest first, how many changes there were, and for how
-- many bridges are kept
pub record BasedTree : Type 0 where
  pub triple : TripleTree
  pub kept : List KeptTree
  pub number : ℕ
  pub width : ℕ

-- the bridge of a side's document, and those of several changes
abbrev pub bridge_on : Side → KeptTree → BridgeTree
bridge_on Left k = k.left
bridge_on Right k = k.right

abbrev pub bridges_on : Side → List KeptTree → List BridgeTree
bridges_on side ks = map (bridge_on side) ks

-- why a word is refused: the number of changes is the last one; its base is none that is kept; it is not carried from
-- its base; or, as it was carried, it does not apply to the present document
pub data WhyAt : Type 0 where
  full : WhyAt
  no_base : WhyAt
  not_carried : WhyNot → WhyAt
  no_apply : Why → WhyAt

-- ---- the word at present

-- what is kept of the changes behind a base. None where it is above the number of changes, or so old that the bridge of
-- a change behind it has fallen out
abbrev pub since : ℕ → ℕ → ℕ → List KeptTree → Option (List KeptTree)
since base number width ks =
    if nat_le base number && nat_le (number - base) width then Some (drop (length ks - (number - base)) ks) else None

abbrev pub at_present : Through → Result WordTree WhyAt
at_present (Ok w) = Ok w
at_present (Err why) = Err (not_carried why)

abbrev pub over_changes : TyTree → Side → WordTree → Option (List KeptTree) → Result WordTree WhyAt
over_changes t side w None = Err no_base
over_changes t side w (Some ks) = at_present (carried_through t (bridges_on side ks) w)

-- what a word of a side, made for the document after `base` changes, is for the present document
abbrev pub word_at : TyTree → BasedTree → ℕ → Side → WordTree → Result WordTree WhyAt
word_at t b base side w =
    if nat_lt b.number (2 ^ 64 - 1) then over_changes t side w (since base b.number b.width b.kept) else Err full

-- ---- the step

-- the last ones, of at most this number
abbrev pub newest : ℕ → List KeptTree → List KeptTree
newest width ks = drop (length ks - width) ks

-- the bridges by which a word led the left document on, and another word the right one
abbrev pub kept_by : TyTree → TyTree → TripleTree → WordTree → WordTree → KeptTree
kept_by left right t u w = record { left = bridge left u t.left same; right = bridge right w t.right same }

-- after a change that led to the triple t
abbrev pub changed : BasedTree → TripleTree → KeptTree → BasedTree
changed b t k = record {
  triple = t;
  kept = newest b.width (b.kept ++ k ∷ []);
  number = b.number + 1;
  width = b.width;
}

-- what a word with a base makes: the session after it, the word as it was carried, and the other side's word; or why it
-- is refused
abbrev pub SteppedAt : Type 0
SteppedAt = Result (BasedTree × (WordTree × WordTree)) WhyAt

-- the word q has stepped the triple: it is the near word of the change, and the carried one is the far word
abbrev pub accepted : TyTree → TyTree → BasedTree → Side → WordTree → Stepped → SteppedAt
accepted left right b side q (Ok s) =
    Ok (changed b s.0 (kept_by left right b.triple (near side q s.1) (far side q s.1)), (q, s.1))
accepted left right b side q (Err why) = Err (no_apply why)

-- the present word steps as any word does
abbrev pub stepped_by : TyTree → TyTree → (Side → CompTree → WordTree → Option Translated) → BasedTree → Side
    → WordTree → Option SteppedAt
stepped_by left right carried b side q =
    option_map (accepted left right b side q) (step left right carried b.triple (side, q))

abbrev pub if_present : Result WordTree WhyAt → (WordTree → Option SteppedAt) → Option SteppedAt
if_present (Ok q) go = go q
if_present (Err why) go = Some (Err why)

-- what a word of a side, made for the state after `base` changes, makes of a session
abbrev pub step_at : TyTree → TyTree → (Side → CompTree → WordTree → Option Translated) → BasedTree → ℕ → Side
    → WordTree → Option SteppedAt
step_at left right carried b base side w =
    if_present (word_at (near side left right) b base side w) (λ q. stepped_by left right carried b side q)
