-- Changes of a hub as JSON: the tree of an edit and of a group of edits, and the change that a tree, a text and a line
-- are. From the end: `hub_change_of_line`, `hub_change_of_text`, `hub_change_of_tree`, and the other way
-- `tree_of_hub_change`.
use Rattle.std.specs.Prelude.{ℕ, ◌&&◌, Bool, true, List, [], ◌∷◌, Option, Some, None, Result, Ok, Err, if◌then◌else◌}
use Rattle.std.specs.Prelude.{is_some, codes}
use Rattle.std.specs.List.{list_all}
use Rattle.serde_json.specs.Data.{Data, array, object, Items, no_items, item, no_members, member}
use Rattle.edit_module.specs.Words.{WordTree}
use Rattle.edit_json.specs.WordJson.{counts_fit, numbers_fit}
use Rattle.edit_journal.specs.EntryJson.{LineFault, line_too_long, not_json, not_an_entry, group_items, tree_of_text}
use Rattle.edit_journal.specs.declared.line.Line.{Line}
use Rattle.edit_journal.specs.declared.line.Line.TheVariants.{Text, TooLong}
use Rattle.view_hub.specs.Hubs.{Place}
use Rattle.hub_run.specs.EditJson.{tree_of_edit, hub_place_fits, hub_edit_parts, edit_of_tree}

-- one edit, or a group of edits, which are accepted together or not at all
pub data HubChangeTree : Type 0 where
  one : Place × WordTree → HubChangeTree
  group : List (Place × WordTree) → HubChangeTree

-- the edits of a change, in order
abbrev pub edits_of : HubChangeTree → List (Place × WordTree)
edits_of (one e) = e ∷ []
edits_of (group es) = es

-- ---- the tree of a change

-- an array of the trees of edits
abbrev pub items_of_edits : List (Place × WordTree) → Items
items_of_edits [] = no_items
items_of_edits (e ∷ es) = item (tree_of_edit e) (items_of_edits es)

-- the tree of its edit; or an object with exactly the member `group`, the array of the trees of its edits
abbrev pub tree_of_hub_change : HubChangeTree → Data
tree_of_hub_change (one e) = tree_of_edit e
tree_of_hub_change (group es) = object (member (codes "group") (array (items_of_edits es)) no_members)

-- every insertion and deletion in each of these words is of 1 to 65,536 items
abbrev pub all_counts_fit : List (Place × WordTree) → Bool
all_counts_fit es = list_all (λ e. counts_fit e.1) es

-- every number in these edits, those of the views included, is one that the program can hold
abbrev pub edit_fits : Place × WordTree → Bool
edit_fits e = hub_place_fits e.0 && numbers_fit e.1

abbrev pub all_numbers_fit : List (Place × WordTree) → Bool
all_numbers_fit es = list_all edit_fits es

-- ---- the change that a tree is

-- each of these trees has the form of an edit; what its word is does not count
abbrev pub are_edits : Items → Bool
are_edits no_items = true
are_edits (item d ds) = is_some (hub_edit_parts d) && are_edits ds

-- an edit in front of others; the first one that is refused refuses them all
abbrev pub edit_in_front : Result (Place × WordTree) LineFault → Result (List (Place × WordTree)) LineFault
    → Result (List (Place × WordTree)) LineFault
edit_in_front (Ok e) (Ok es) = Ok (e ∷ es)
edit_in_front (Ok e) (Err fault) = Err fault
edit_in_front (Err fault) others = Err fault

-- the edits of these trees
abbrev pub edits_of_items : Items → Result (List (Place × WordTree)) LineFault
edits_of_items no_items = Ok []
edits_of_items (item d ds) = edit_in_front (edit_of_tree d) (edits_of_items ds)

-- the group of these trees: where one of them has not the form of an edit the group has not the form of a change,
-- whatever the words of the others are
abbrev pub hub_group_of_items : Items → Result (List (Place × WordTree)) LineFault
hub_group_of_items ds = if are_edits ds then edits_of_items ds else Err not_an_entry

-- what was read, as a change
abbrev pub as_hub_change : {X : Type 0} → (X → HubChangeTree) → Result X LineFault → Result HubChangeTree LineFault
as_hub_change change (Ok x) = Ok (change x)
as_hub_change change (Err fault) = Err fault

-- the group of an object with the member `group`, and otherwise the single edit of the tree
abbrev pub hub_change_of_parts : Option Items → Data → Result HubChangeTree LineFault
hub_change_of_parts (Some ds) d = as_hub_change group (hub_group_of_items ds)
hub_change_of_parts None d = as_hub_change one (edit_of_tree d)

-- the change of a tree
abbrev pub hub_change_of_tree : Data → Result HubChangeTree LineFault
hub_change_of_tree d = hub_change_of_parts (group_items d) d

-- ---- the change that a line is

abbrev pub hub_change_if_json : Option Data → Result HubChangeTree LineFault
hub_change_if_json (Some d) = hub_change_of_tree d
hub_change_if_json None = Err not_json

-- the change of a text
abbrev pub hub_change_of_text : List ℕ → Result HubChangeTree LineFault
hub_change_of_text bytes = hub_change_if_json (tree_of_text bytes)

-- the change of a line
abbrev pub hub_change_of_line : Line → Result HubChangeTree LineFault
hub_change_of_line (Text bytes) = hub_change_of_text bytes
hub_change_of_line TooLong = Err line_too_long
