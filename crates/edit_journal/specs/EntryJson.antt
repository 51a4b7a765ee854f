-- Changes as JSON: the tree of an entry and of a group, and the change that a tree, a text and a line are.
-- From the end: `change_of_line`, `change_of_text`, `change_of_tree`, and the other way `tree_of_change`.
use Rattle.std.specs.Prelude.{ℕ, ◌&&◌, Bool, true, List, [], ◌∷◌, Option, Some, None, option_map, Result, Ok, Err}
use Rattle.std.specs.Prelude.{if◌then◌else◌, is_some, codes, bytes_eq}
use Rattle.std.specs.List.{list_all}
use Rattle.std.specs.Str.{is_utf8}
use Rattle.serde_json.specs.Data.{Data, string, array, object, Items, no_items, item, no_members, member}
use Rattle.serde_json.specs.Read.{read}
use Rattle.edit_module.specs.Words.{WordTree}
use Rattle.edit_module.specs.Changes.{ChangeTree, one, group, entries_of}
use Rattle.texts.specs.declared.side.Side.{Side}
use Rattle.texts.specs.declared.side.Side.TheVariants.{Left, Right}
use Rattle.edit_json.specs.WordJson.{tree_of_word, word_of_tree, counts_fit, numbers_fit}
use Rattle.edit_journal.specs.declared.line.Line.{Line}
use Rattle.edit_journal.specs.declared.line.Line.TheVariants.{Text, TooLong}

-- ---- the tree of a change

-- the name of a side
abbrev pub side_text : Side → List ℕ
side_text Left = codes "left"
side_text Right = codes "right"

-- an object with exactly the members `edit`, a word, and `side`, the name of a side
abbrev pub tree_of_entry : Side × WordTree → Data
tree_of_entry e =
    object (member (codes "edit") (tree_of_word e.1) (member (codes "side") (string (side_text e.0)) no_members))

-- an array of the trees of entries
abbrev pub items_of_entries : List (Side × WordTree) → Items
items_of_entries [] = no_items
items_of_entries (e ∷ es) = item (tree_of_entry e) (items_of_entries es)

abbrev pub tree_of_entries : List (Side × WordTree) → Data
tree_of_entries es = array (items_of_entries es)

-- the tree of its entry; or an object with exactly the member `group`, the array of the trees of its entries
abbrev pub tree_of_change : ChangeTree → Data
tree_of_change (one e) = tree_of_entry e
tree_of_change (group es) = object (member (codes "group") (tree_of_entries es) no_members)

-- every insertion and deletion in each of these words, and so in those of a change, is of 1 to 65,536 items
abbrev pub entries_counts_fit : List (Side × WordTree) → Bool
entries_counts_fit es = list_all (λ e. counts_fit e.1) es

abbrev pub change_counts_fit : ChangeTree → Bool
change_counts_fit change = entries_counts_fit (entries_of change)

-- every number in these words, and so in those of a change, is one that the program can hold
abbrev pub entries_numbers_fit : List (Side × WordTree) → Bool
entries_numbers_fit es = list_all (λ e. numbers_fit e.1) es

abbrev pub change_numbers_fit : ChangeTree → Bool
change_numbers_fit change = entries_numbers_fit (entries_of change)

-- ---- the change that a tree is

-- why a line is not a change, in the order in which it is tested: it is too long, its text is not JSON, its tree has
-- not the form of a change, an edit in it is not a word
pub data LineFault : Type 0 where
  line_too_long : LineFault
  not_json : LineFault
  not_an_entry : LineFault
  not_an_edit : LineFault

-- the side of this name, where it is `left` or `right`
abbrev pub side_of : List ℕ → Option Side
side_of s = if bytes_eq s (codes "left") then Some Left else if bytes_eq s (codes "right") then Some Right else None

-- The side and the tree of the edit, where the tree is an object with exactly the members `edit` and `side`, which are
-- in byte order, and `side` is the name of a side.
abbrev pub parts_of : Data → Option (Side × Data)
parts_of (object (member k edit (member l (string s) no_members))) =
    if bytes_eq k (codes "edit") && bytes_eq l (codes "side") then option_map (λ side. (side, edit)) (side_of s)
    else None
parts_of _ = None

-- with the side, the word that the edit is
abbrev pub entry_with : Side → Option WordTree → Result (Side × WordTree) LineFault
entry_with side (Some w) = Ok (side, w)
entry_with side None = Err not_an_edit

abbrev pub entry_of_parts : Option (Side × Data) → Result (Side × WordTree) LineFault
entry_of_parts (Some p) = entry_with p.0 (word_of_tree p.1)
entry_of_parts None = Err not_an_entry

-- the entry of a tree
abbrev pub entry_of_tree : Data → Result (Side × WordTree) LineFault
entry_of_tree d = entry_of_parts (parts_of d)

-- the trees in an array, and those in an object with exactly the member `group`, an array
abbrev pub array_items : Data → Option Items
array_items (array ds) = Some ds
array_items _ = None

abbrev pub group_items : Data → Option Items
group_items (object (member k d no_members)) = if bytes_eq k (codes "group") then array_items d else None
group_items _ = None

-- each of these trees has the form of an entry; what its edit is does not count
abbrev pub are_entries : Items → Bool
are_entries no_items = true
are_entries (item d ds) = is_some (parts_of d) && are_entries ds

-- an entry in front of others; the first one that is refused refuses them all
abbrev pub in_front : Result (Side × WordTree) LineFault → Result (List (Side × WordTree)) LineFault
    → Result (List (Side × WordTree)) LineFault
in_front (Ok e) (Ok es) = Ok (e ∷ es)
in_front (Ok e) (Err fault) = Err fault
in_front (Err fault) others = Err fault

-- the entries of these trees
abbrev pub entries_of_items : Items → Result (List (Side × WordTree)) LineFault
entries_of_items no_items = Ok []
entries_of_items (item d ds) = in_front (entry_of_tree d) (entries_of_items ds)

-- the group of these trees: where one of them has not the form of an entry the group has not the form of a change,
-- whatever the edits in the others are
abbrev pub group_of_items : Items → Result (List (Side × WordTree)) LineFault
group_of_items ds = if are_entries ds then entries_of_items ds else Err not_an_entry

-- what was read, as a change
abbrev pub as_change : {X : Type 0} → (X → ChangeTree) → Result X LineFault → Result ChangeTree LineFault
as_change change (Ok x) = Ok (change x)
as_change change (Err fault) = Err fault

-- the group of an object with the member `group`, and otherwise the single entry of the tree
abbrev pub change_of_parts : Option Items → Data → Result ChangeTree LineFault
change_of_parts (Some ds) d = as_change group (group_of_items ds)
change_of_parts None d = as_change one (entry_of_tree d)

-- the change of a tree
abbrev pub change_of_tree : Data → Result ChangeTree LineFault
change_of_tree d = change_of_parts (group_items d) d

-- ---- the change that a line is

-- the tree of a text, where it is valid UTF-8 and reads as JSON
abbrev pub tree_of_text : List ℕ → Option Data
tree_of_text bytes = if is_utf8 bytes then read bytes else None

-- the tree of a line: that of its text, and none when it is too long
abbrev pub tree_of_line : Line → Option Data
tree_of_line (Text bytes) = tree_of_text bytes
tree_of_line TooLong = None

abbrev pub change_if_json : Option Data → Result ChangeTree LineFault
change_if_json (Some d) = change_of_tree d
change_if_json None = Err not_json

-- the change of a text
abbrev pub change_of_text : List ℕ → Result ChangeTree LineFault
change_of_text bytes = change_if_json (tree_of_text bytes)

-- the change of a line
abbrev pub change_of_line : Line → Result ChangeTree LineFault
change_of_line (Text bytes) = change_of_text bytes
change_of_line TooLong = Err line_too_long
