-- A line of a hub's journal: the tree of an edit, and the edit that a tree, a text and a line are.
-- From the end: `edit_of_line`, `edit_of_text`, `edit_of_tree`, and the other way `tree_of_edit`.
use Rattle.std.specs.Prelude.{ℕ, ◌&&◌, ◌^◌, Bool, true, false, List, Option, Some, None, option_map, Result, Ok, Err}
use Rattle.std.specs.Prelude.{if◌then◌else◌, codes, bytes_eq, nat_lt}
use Rattle.serde_json.specs.Data.{Data, string, object, no_members, member}
use Rattle.value_json.specs.Numbers.{count_of, count_tree}
use Rattle.edit_module.specs.Words.{WordTree}
use Rattle.edit_json.specs.WordJson.{tree_of_word, word_of_tree}
use Rattle.edit_journal.specs.EntryJson.{LineFault, line_too_long, not_json, not_an_entry, not_an_edit, tree_of_text}
use Rattle.edit_journal.specs.declared.line.Line.{Line}
use Rattle.edit_journal.specs.declared.line.Line.TheVariants.{Text, TooLong}
use Rattle.view_hub.specs.Hubs.{Place, at_hub, at_view}

-- ---- the tree of an edit

-- the tree of the place of an edit: `hub`, or the number of a view
abbrev pub tree_of_hub_place : Place → Data
tree_of_hub_place at_hub = string (codes "hub")
tree_of_hub_place (at_view k) = count_tree k

-- an object with exactly the members `at`, the place, and `edit`, a word
abbrev pub tree_of_edit : Place × WordTree → Data
tree_of_edit e =
    object (member (codes "at") (tree_of_hub_place e.0) (member (codes "edit") (tree_of_word e.1) no_members))

-- the number of a view is one that the program can hold
abbrev pub hub_place_fits : Place → Bool
hub_place_fits at_hub = true
hub_place_fits (at_view k) = nat_lt k (2 ^ 64)

-- ---- the edit that a tree is

-- the tree is the string `hub`
abbrev pub is_hub : Data → Bool
is_hub (string s) = bytes_eq s (codes "hub")
is_hub _ = false

-- the hub, or the view with the number that the tree is
abbrev pub place_of_tree : Data → Option Place
place_of_tree d = if is_hub d then Some at_hub else option_map at_view (count_of d)

-- The place and the tree of the edit, where the tree is an object with exactly the members `at` and `edit`, which are
-- in byte order, and `at` is a place.
abbrev pub hub_edit_parts : Data → Option (Place × Data)
hub_edit_parts (object (member k at (member l edit no_members))) =
    if bytes_eq k (codes "at") && bytes_eq l (codes "edit") then option_map (λ place. (place, edit))
    (place_of_tree at) else None
hub_edit_parts _ = None

-- with the place, the word that the edit is
abbrev pub edit_with : Place → Option WordTree → Result (Place × WordTree) LineFault
edit_with place (Some w) = Ok (place, w)
edit_with place None = Err not_an_edit

abbrev pub edit_of_hub_parts : Option (Place × Data) → Result (Place × WordTree) LineFault
edit_of_hub_parts (Some p) = edit_with p.0 (word_of_tree p.1)
edit_of_hub_parts None = Err not_an_entry

-- the edit of a tree
abbrev pub edit_of_tree : Data → Result (Place × WordTree) LineFault
edit_of_tree d = edit_of_hub_parts (hub_edit_parts d)

-- ---- the edit that a line is

abbrev pub edit_if_json : Option Data → Result (Place × WordTree) LineFault
edit_if_json (Some d) = edit_of_tree d
edit_if_json None = Err not_json

-- the edit of a text
abbrev pub edit_of_text : List ℕ → Result (Place × WordTree) LineFault
edit_of_text bytes = edit_if_json (tree_of_text bytes)

-- the edit of a line
abbrev pub edit_of_line : Line → Result (Place × WordTree) LineFault
edit_of_line (Text bytes) = edit_of_text bytes
edit_of_line TooLong = Err line_too_long
