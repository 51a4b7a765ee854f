-- Records as JSON: the tree of each record that this program writes, and what a tree is as a record.
-- From the end: `opening_of` and `record_of` read; `tree_of_program`, `tree_of_version`, `tree_of_change_record` and
-- `tree_of_snapshot` write.
use Rattle.std.specs.Prelude.{ℕ, ◌&&◌, Bool, false, List, Option, Some, None, option_map, option_and_then, Result, Ok}
use Rattle.std.specs.Prelude.{Err, if◌then◌else◌, codes, bytes_eq, nat_eq}
use Rattle.std.specs.Option.{option_or}
use Rattle.serde_json.specs.Data.{Data, string, object, no_members, member}
use Rattle.serde_json.specs.Find.{as_str}
use Rattle.doc_values.specs.Documents.{DocTree}
use Rattle.value_json.specs.Numbers.{count_of, count_tree}
use Rattle.value_json.specs.Parts.{only_member, two_members}
use Rattle.value_json.specs.DocumentJson.{tree_of_document}
use Rattle.edit_module.specs.Changes.{ChangeTree, one, group}
use Rattle.edit_journal.specs.EntryJson.{LineFault, tree_of_entry, tree_of_change, change_of_tree, tree_of_text}
use Rattle.lens_forms.specs.Forms.{FormTree, left_type, right_type}
use Rattle.value_json.specs.SmallTrees.{one_member}
use Rattle.complement_file.specs.ComplementJson.{tree_of_complement}
use Rattle.lens_core.specs.Complements.{CompTree}

-- ---- the records that this program writes

-- the program of this canonical text, in a store of version 2
abbrev pub tree_of_program : List ℕ → Data
tree_of_program text =
    object (member (codes "program") (string text) (member (codes "version") (count_tree 2) no_members))

-- the same as a store of version 1 has it
abbrev pub tree_of_first_program : List ℕ → Data
tree_of_first_program text = one_member (codes "program") (string text)

-- the version 2
abbrev pub tree_of_version : Data
tree_of_version = one_member (codes "version") (count_tree 2)

-- a change: an entry under the name `entry`, and a group as in a journal
abbrev pub tree_of_change_record : ChangeTree → Data
tree_of_change_record (one e) = one_member (codes "entry") (tree_of_entry e)
tree_of_change_record (group es) = tree_of_change (group es)

-- a left document, a complement and a right document of the form
abbrev pub tree_of_triple : FormTree → DocTree → CompTree → DocTree → Data
tree_of_triple l x c y =
    object (member (codes "complement") (tree_of_complement l c)
    (member (codes "left") (tree_of_document (left_type l) x)
    (member (codes "right") (tree_of_document (right_type l) y) no_members)))

abbrev pub tree_of_snapshot : FormTree → DocTree → CompTree → DocTree → Data
tree_of_snapshot l x c y = one_member (codes "snapshot") (tree_of_triple l x c y)

-- ---- the first record

-- the count is 2
abbrev pub is_current : Option ℕ → Bool
is_current (Some n) = nat_eq n 2
is_current None = false

-- the program alone, which is of version 1
abbrev pub program_alone : List ℕ × Data → Option (List ℕ × ℕ)
program_alone m = if bytes_eq m.0 (codes "program") then option_map (λ text. (text, 1)) (as_str m.1) else None

-- the program and the version 2
abbrev pub program_with_version : (List ℕ × Data) × (List ℕ × Data) → Option (List ℕ × ℕ)
program_with_version m =
    if bytes_eq m.0.0 (codes "program") && (bytes_eq m.1.0 (codes "version") && is_current (count_of m.1.1))
    then option_map (λ text. (text, 2)) (as_str m.0.1) else None

abbrev pub opening_from : Option (List ℕ × Data) → Data → Option (List ℕ × ℕ)
opening_from (Some m) d = program_alone m
opening_from None d = option_and_then program_with_version (two_members d)

-- the text of the program and the version of the store, of an object with exactly these members
abbrev pub opening_of : Data → Option (List ℕ × ℕ)
opening_of d = opening_from (only_member d) d

-- ---- the other records

-- the version 2; a change; the trees of a complement, of a left document and of a right document
pub data RecordTree : Type 0 where
  version_record : RecordTree
  change_record : ChangeTree → RecordTree
  snapshot_record : Data × Data × Data → RecordTree

-- what was read, where it is a single entry
abbrev pub single_entry : Result ChangeTree LineFault → Option ChangeTree
single_entry (Ok (one e)) = Some (one e)
single_entry (Ok (group es)) = None
single_entry (Err fault) = None

-- what was read, whatever change it is
abbrev pub any_change : Result ChangeTree LineFault → Option ChangeTree
any_change (Ok change) = Some change
any_change (Err fault) = None

-- the change of a tree with this one member: an entry under the name `entry`, or the group that the tree is
abbrev pub change_named : Data → List ℕ × Data → Option ChangeTree
change_named d m = if bytes_eq m.0 (codes "entry") then single_entry (change_of_tree m.1)
    else if bytes_eq m.0 (codes "group") then any_change (change_of_tree d) else None

abbrev pub change_in : Data → Option ChangeTree
change_in d = option_and_then (change_named d) (only_member d)

-- the tree is the version 2
abbrev pub version_named : List ℕ × Data → Bool
version_named m = bytes_eq m.0 (codes "version") && is_current (count_of m.1)

abbrev pub is_version : Option (List ℕ × Data) → Bool
is_version (Some m) = version_named m
is_version None = false

abbrev pub version_in : Data → Option RecordTree
version_in d = if is_version (only_member d) then Some version_record else None

-- the trees of an object with exactly the members `complement`, `left` and `right`, which are in byte order
abbrev pub three_parts : Data → Option (Data × Data × Data)
three_parts (object (member k c (member l x (member m y no_members)))) =
    if bytes_eq k (codes "complement") && (bytes_eq l (codes "left") && bytes_eq m (codes "right")) then Some
    (c, x, y) else None
three_parts _ = None

abbrev pub snapshot_named : List ℕ × Data → Option (Data × Data × Data)
snapshot_named m = if bytes_eq m.0 (codes "snapshot") then three_parts m.1 else None

abbrev pub snapshot_in : Data → Option (Data × Data × Data)
snapshot_in d = option_and_then snapshot_named (only_member d)

-- the record of a tree: a change, the version, or a snapshot
abbrev pub record_of : Data → Option RecordTree
record_of d =
    option_or (option_map change_record (change_in d)) (option_or (version_in d)
    (option_map snapshot_record (snapshot_in d)))

-- the record of a payload
abbrev pub record_in : List ℕ → Option RecordTree
record_in payload = option_and_then record_of (tree_of_text payload)
