-- What an item of a script makes of a link. A lens comes as its two types, its first complement and its translation of
-- words. Read it from the end: `take_link_item`, `LinkAnswerTree`, then `ScriptItem`.
use Rattle.std.specs.Prelude.{Bool, true, false, Option, Some, option_map, Result, Ok, Err}
use Rattle.texts.specs.declared.side.Side.{Side}
use Rattle.doc_values.specs.Types.{TyTree}
use Rattle.edit_module.specs.Words.{WordTree}
use Rattle.lens_core.specs.Complements.{CompTree}
use Rattle.lens_core.specs.Translation.{Translated}
use Rattle.turn_link.specs.Turns.{TurnRefusal}
use Rattle.turn_link.specs.Links.{EventTree, ToldTree, LinkTree, happens}
use Rattle.run_link.specs.EventJson.{EventCause}

-- an item of a script is an event, or the fault of a line that is not an event
abbrev pub ScriptItem : Type 0
ScriptItem = Result EventTree EventCause

-- the answer to an item: what is told of the event, why it is refused, or the fault of a line that is not an event
pub data LinkAnswerTree : Type 0 where
  told : ToldTree → LinkAnswerTree
  refused : TurnRefusal → LinkAnswerTree
  no_event : EventCause → LinkAnswerTree

-- the item was refused
abbrev pub is_refused_by_link : LinkAnswerTree → Bool
is_refused_by_link (told of) = false
is_refused_by_link (refused why) = true
is_refused_by_link (no_event cause) = true

-- the link after an event, and the answer to it: a refused event leaves the link as it was
abbrev pub link_answered : LinkTree → Result (LinkTree × ToldTree) TurnRefusal → LinkTree × LinkAnswerTree
link_answered s (Ok r) = (r.0, told r.1)
link_answered s (Err why) = (s, refused why)

module _ (left : TyTree) (right : TyTree) (start : CompTree)
    (carried : Side → CompTree → WordTree → Option Translated) where
  -- an event happens to the link; a line that is not an event leaves the link as it was, and its fault is the answer
  abbrev pub take_link_item : LinkTree → ScriptItem → Option (LinkTree × LinkAnswerTree)
  take_link_item s (Ok event) = option_map (link_answered s) (happens left right start carried s event)
  take_link_item s (Err cause) = Some (s, no_event cause)
