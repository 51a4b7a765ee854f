-- The records of a hub as JSON: the tree of each record that the program writes, and what a tree is as a record.
-- From the end: `programs_of` and `hub_record_of` read; `tree_of_programs`, `tree_of_added` and `tree_of_hub_snapshot`
-- write, and `tree_of_hub_change` of `HubChanges`.
use Rattle.std.specs.Prelude.{ℕ, ◌&&◌, Bool, false, List, [], ◌∷◌, Option, Some, None, option_map, option_and_then}
use Rattle.std.specs.Prelude.{Result, Ok, Err, if◌then◌else◌, codes, bytes_eq, nat_eq}
use Rattle.std.specs.Option.{option_or}
use Rattle.serde_json.specs.Data.{Data, null, string, array, object, Items, no_items, item, no_members, member}
use Rattle.serde_json.specs.Find.{as_str, as_array}
use Rattle.value_json.specs.Numbers.{count_of, count_tree}
use Rattle.value_json.specs.Parts.{only_member, two_members}
use Rattle.value_json.specs.DocumentJson.{tree_of_document}
use Rattle.edit_journal.specs.EntryJson.{LineFault, tree_of_text}
use Rattle.lens_forms.specs.Forms.{FormTree, left_type, right_type}
use Rattle.complement_file.specs.ComplementJson.{tree_of_complement}
use Rattle.value_json.specs.SmallTrees.{one_member}
use Rattle.view_hub.specs.Hubs.{ViewTree, HubTree}
use Rattle.hub_records.specs.HubChanges.{HubChangeTree, hub_change_of_tree}

-- ---- the records that the program writes

abbrev pub items_of_texts : List (List ℕ) → Items
items_of_texts [] = no_items
items_of_texts (text ∷ texts) = item (string text) (items_of_texts texts)

-- the programs of these canonical texts, one for each view, in a store of version 1
abbrev pub tree_of_programs : List (List ℕ) → Data
tree_of_programs texts =
    object (member (codes "hub") (array (items_of_texts texts)) (member (codes "version") (count_tree 1) no_members))

-- one view more, whose program has this canonical text
abbrev pub tree_of_added : List ℕ → Data
tree_of_added text = one_member (codes "add") (string text)

-- the complement and the document of a view, whose lens has this form
abbrev pub tree_of_view : FormTree → ViewTree → Data
tree_of_view l v =
    object (member (codes "complement") (tree_of_complement l v.comp)
    (member (codes "view") (tree_of_document (right_type l) v.doc) no_members))

abbrev pub items_of_views : List FormTree → List ViewTree → Items
items_of_views (l ∷ ls) (v ∷ vs) = item (tree_of_view l v) (items_of_views ls vs)
items_of_views _ _ = no_items

-- the document of a hub and all its views; the document has the left type of the first lens
abbrev pub tree_of_hub : List FormTree → HubTree → Data
tree_of_hub [] h = null
tree_of_hub (l ∷ ls) h =
    object (member (codes "hub") (tree_of_document (left_type l) h.hub)
    (member (codes "views") (array (items_of_views (l ∷ ls) h.views)) no_members))

abbrev pub tree_of_hub_snapshot : List FormTree → HubTree → Data
tree_of_hub_snapshot forms h = one_member (codes "snapshot") (tree_of_hub forms h)

-- ---- the first record

-- the count is 1
abbrev pub is_first_version : Option ℕ → Bool
is_first_version (Some n) = nat_eq n 1
is_first_version None = false

abbrev pub programs_with_version : (List ℕ × Data) × (List ℕ × Data) → Option Items
programs_with_version m =
    if bytes_eq m.0.0 (codes "hub") && (bytes_eq m.1.0 (codes "version") && is_first_version (count_of m.1.1))
    then as_array m.0.1 else None

-- the trees of the programs, of an object with exactly the members `hub`, an array, and `version`, which is 1
abbrev pub programs_of : Data → Option Items
programs_of d = option_and_then programs_with_version (two_members d)

-- ---- the other records

-- a change; the text of the program of one view more; the trees of the hub's document and of its views
pub data HubRecordTree : Type 0 where
  change_record : HubChangeTree → HubRecordTree
  add_record : List ℕ → HubRecordTree
  snapshot_record : Data × Items → HubRecordTree

-- the change of a tree, where it is one
abbrev pub known_change : Result HubChangeTree LineFault → Option HubChangeTree
known_change (Ok change) = Some change
known_change (Err fault) = None

abbrev pub hub_change_in : Data → Option HubChangeTree
hub_change_in d = known_change (hub_change_of_tree d)

-- the text in an object with exactly the member `add`
abbrev pub add_named : List ℕ × Data → Option (List ℕ)
add_named m = if bytes_eq m.0 (codes "add") then as_str m.1 else None

abbrev pub add_in : Data → Option (List ℕ)
add_in d = option_and_then add_named (only_member d)

-- the tree of the document and those of the views, of the members `hub` and `views`
abbrev pub hub_and_views : (List ℕ × Data) × (List ℕ × Data) → Option (Data × Items)
hub_and_views m = if bytes_eq m.0.0 (codes "hub") && bytes_eq m.1.0 (codes "views")
    then option_map (λ ds. (m.0.1, ds)) (as_array m.1.1) else None

abbrev pub hub_snapshot_named : List ℕ × Data → Option (Data × Items)
hub_snapshot_named m = if bytes_eq m.0 (codes "snapshot") then option_and_then hub_and_views (two_members m.1) else None

abbrev pub hub_snapshot_in : Data → Option (Data × Items)
hub_snapshot_in d = option_and_then hub_snapshot_named (only_member d)

-- the trees of the complement and of the document of a view, of the members `complement` and `view`
abbrev pub complement_and_view : (List ℕ × Data) × (List ℕ × Data) → Option (Data × Data)
complement_and_view m = if bytes_eq m.0.0 (codes "complement") && bytes_eq m.1.0 (codes "view") then Some (m.0.1, m.1.1)
    else None

abbrev pub view_parts : Data → Option (Data × Data)
view_parts d = option_and_then complement_and_view (two_members d)

-- the record of a tree: a change, a view more, or a snapshot
abbrev pub hub_record_of : Data → Option HubRecordTree
hub_record_of d =
    option_or (option_map change_record (hub_change_in d))
    (option_or (option_map add_record (add_in d)) (option_map snapshot_record (hub_snapshot_in d)))

-- the record of a payload
abbrev pub hub_record_in : List ℕ → Option HubRecordTree
hub_record_in payload = option_and_then hub_record_of (tree_of_text payload)
