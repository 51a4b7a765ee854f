-- Events of a link as JSON: the tree of an event, and the event that a tree, a text and a line are.
-- From the end: `event_of_line`, `event_of_text`, `event_of_tree`, and the other way `tree_of_event`.
use Rattle.std.specs.Prelude.{ℕ, Bool, true, List, Option, Some, None, option_map, option_and_then, Result, Err}
use Rattle.std.specs.Prelude.{if◌then◌else◌, codes, bytes_eq, ok_or}
use Rattle.serde_json.specs.Data.{Data, string, array, no_items, item}
use Rattle.texts.specs.declared.side.Side.{Side}
use Rattle.value_json.specs.Numbers.{count_of, count_tree}
use Rattle.value_json.specs.Parts.{only_member}
use Rattle.value_json.specs.SmallTrees.{one_member}
use Rattle.edit_json.specs.Parts.{two_items}
use Rattle.edit_json.specs.Values.{fits_u64}
use Rattle.edit_json.specs.WordJson.{tree_of_word, word_of_tree, counts_fit, numbers_fit}
use Rattle.edit_journal.specs.EntryJson.{side_text, side_of, tree_of_text}
use Rattle.edit_journal.specs.declared.line.Line.{Line}
use Rattle.edit_journal.specs.declared.line.Line.TheVariants.{Text, TooLong}
use Rattle.turn_link.specs.Links.{EventTree, edit, seal, send, deliver, restart}

-- ---- the tree of an event

-- the name of a side, as a string
abbrev pub tree_of_side : Side → Data
tree_of_side side = string (side_text side)

-- `{"edit":[SIDE,WORD]}`, `{"seal":SIDE}`, `{"send":SIDE}`, `{"deliver":P}` and `{"restart":SIDE}`
abbrev pub tree_of_event : EventTree → Data
tree_of_event (edit side w) =
    one_member (codes "edit") (array (item (tree_of_side side) (item (tree_of_word w) no_items)))
tree_of_event (seal side) = one_member (codes "seal") (tree_of_side side)
tree_of_event (send side) = one_member (codes "send") (tree_of_side side)
tree_of_event (deliver p) = one_member (codes "deliver") (count_tree p)
tree_of_event (restart side) = one_member (codes "restart") (tree_of_side side)

-- every insertion and deletion in an event's word is of 1 to 65,536 items
abbrev pub event_counts_fit : EventTree → Bool
event_counts_fit (edit side w) = counts_fit w
event_counts_fit _ = true

-- every number in an event is one that the program can hold
abbrev pub event_numbers_fit : EventTree → Bool
event_numbers_fit (edit side w) = numbers_fit w
event_numbers_fit (deliver p) = fits_u64 p
event_numbers_fit _ = true

-- ---- the event that a tree is

-- why a line is not an event, in the order in which it is tested: it is too long, its text is not JSON, its tree has
-- not the form of an event, the edit in it is not a word
pub data EventCause : Type 0 where
  line_too_long : EventCause
  not_json : EventCause
  not_an_event : EventCause
  not_an_edit : EventCause

-- the side that a tree names
abbrev pub side_of_tree : Data → Option Side
side_of_tree (string s) = side_of s
side_of_tree _ = None

-- the side and the tree of the edit, where the tree is an array of exactly these two
abbrev pub side_and_edit : Data → Option (Side × Data)
side_and_edit d = option_and_then (λ p. option_map (λ side. (side, p.1)) (side_of_tree p.0)) (two_items d)

-- an edit: the tree of the word may be any tree for the form, and is then to be a word
abbrev pub edit_of_parts : Option (Side × Data) → Result EventTree EventCause
edit_of_parts (Some p) = ok_or (option_map (edit p.0) (word_of_tree p.1)) not_an_edit
edit_of_parts None = Err not_an_event

-- an event of the side that the tree names
abbrev pub event_of_side : (Side → EventTree) → Data → Result EventTree EventCause
event_of_side event d = ok_or (option_map event (side_of_tree d)) not_an_event

-- the packet of this number arrives
abbrev pub delivery_of : Data → Result EventTree EventCause
delivery_of d = ok_or (option_map deliver (count_of d)) not_an_event

-- the event of a member's name and content
abbrev pub event_of_member : List ℕ → Data → Result EventTree EventCause
event_of_member name d =
    if bytes_eq name (codes "edit") then edit_of_parts (side_and_edit d) else
    if bytes_eq name (codes "seal") then event_of_side seal d else
    if bytes_eq name (codes "send") then event_of_side send d else
    if bytes_eq name (codes "deliver") then delivery_of d else
    if bytes_eq name (codes "restart") then event_of_side restart d else Err not_an_event

abbrev pub event_if_member : Option (List ℕ × Data) → Result EventTree EventCause
event_if_member (Some m) = event_of_member m.0 m.1
event_if_member None = Err not_an_event

-- the event of a tree, which is an object with exactly one member
abbrev pub event_of_tree : Data → Result EventTree EventCause
event_of_tree d = event_if_member (only_member d)

-- ---- the event that a line is

abbrev pub event_if_json : Option Data → Result EventTree EventCause
event_if_json (Some d) = event_of_tree d
event_if_json None = Err not_json

-- the event of a text
abbrev pub event_of_text : List ℕ → Result EventTree EventCause
event_of_text bytes = event_if_json (tree_of_text bytes)

-- the event of a line
abbrev pub event_of_line : Line → Result EventTree EventCause
event_of_line (Text bytes) = event_of_text bytes
event_of_line TooLong = Err line_too_long
