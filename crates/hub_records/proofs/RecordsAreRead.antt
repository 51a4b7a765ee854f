-- The records that the program writes are read back from their trees.
use Rattle.std.proofs.Common.{◌≡◌, ℕ, true, List, [], ◌∷◌, Option, Some, option_map, Ok, refl, ap, ap₂}
use Rattle.std.specs.Option.{option_or}
use Rattle.std.specs.Prelude.{is_some}
use Rattle.serde_json.specs.Data.{Data}
use Rattle.texts.proofs.Conjunction.{first as left, second as right, both}
use Rattle.edit_module.specs.Words.{WordTree}
use Rattle.edit_json.specs.WordJson.{counts_fit, numbers_fit}
use Rattle.value_json.specs.DocumentJson.{tree_of_document}
use Rattle.lens_forms.specs.Forms.{FormTree, left_type}
use Rattle.view_hub.specs.Hubs.{HubTree, Place}
use Rattle.hub_run.specs.EditJson.{tree_of_edit, hub_place_fits, hub_edit_parts, edit_of_tree}
use Rattle.hub_run.proofs.EditTrees.{parts_read_back, reads_back}
use Rattle.hub_records.specs.HubChanges.{HubChangeTree, one, group, edits_of, items_of_edits, tree_of_hub_change, all_counts_fit, edit_fits, all_numbers_fit, are_edits, edit_in_front, edits_of_items, hub_group_of_items, as_hub_change, hub_change_of_tree}
use Rattle.hub_records.specs.HubRecords.{HubRecordTree, change_record, add_record, snapshot_record, items_of_views, tree_of_added, tree_of_hub_snapshot, known_change, add_in, hub_snapshot_in, hub_record_of}

edit_read : (e : Place × WordTree) → counts_fit e.1 ≡ true → edit_fits e ≡ true → edit_of_tree (tree_of_edit e) ≡ Ok e
edit_read e counts fits = reads_back e (left (hub_place_fits e.0) (numbers_fit e.1) fits) counts (right (hub_place_fits e.0) (numbers_fit e.1) fits)

all_are_edits : (es : List (Place × WordTree)) → all_numbers_fit es ≡ true → are_edits (items_of_edits es) ≡ true
all_are_edits [] fits = refl
all_are_edits (e ∷ es) fits =
    let here = left (hub_place_fits e.0) (numbers_fit e.1) (left (edit_fits e) (all_numbers_fit es) fits) in
    both (is_some (hub_edit_parts (tree_of_edit e))) (are_edits (items_of_edits es)) (ap is_some (parts_read_back e here)) (all_are_edits es (right (edit_fits e) (all_numbers_fit es) fits))

all_read_back : (es : List (Place × WordTree)) → all_counts_fit es ≡ true → all_numbers_fit es ≡ true → edits_of_items (items_of_edits es) ≡ Ok es
all_read_back [] counts fits = refl
all_read_back (e ∷ es) counts fits =
    let front = edit_read e (left (counts_fit e.1) (all_counts_fit es) counts) (left (edit_fits e) (all_numbers_fit es) fits) in
    let others = all_read_back es (right (counts_fit e.1) (all_counts_fit es) counts) (right (edit_fits e) (all_numbers_fit es) fits) in
    ap₂ edit_in_front front others

group_reads_back : (es : List (Place × WordTree)) → all_counts_fit es ≡ true → all_numbers_fit es ≡ true → hub_group_of_items (items_of_edits es) ≡ Ok es
group_reads_back es counts fits = rw (all_are_edits es fits) (all_read_back es counts fits)

change_reads_back : (change : HubChangeTree) → all_counts_fit (edits_of change) ≡ true → all_numbers_fit (edits_of change) ≡ true → hub_change_of_tree (tree_of_hub_change change) ≡ Ok change
change_reads_back (one e) counts fits = ap (as_hub_change one) (edit_read e (left (counts_fit e.1) true counts) (left (edit_fits e) true fits))
change_reads_back (group es) counts fits = ap (as_hub_change group) (group_reads_back es counts fits)

-- the record of a tree that has this change, or none
abbrev with_change : Data → Option HubChangeTree → Option HubRecordTree
with_change d change = option_or (option_map change_record change) (option_or (option_map add_record (add_in d)) (option_map snapshot_record (hub_snapshot_in d)))

pub change_read : (change : HubChangeTree) → all_counts_fit (edits_of change) ≡ true → all_numbers_fit (edits_of change) ≡ true → hub_record_of (tree_of_hub_change change) ≡ Some (change_record change)
change_read change counts fits = ap (λ c. with_change (tree_of_hub_change change) (known_change c)) (change_reads_back change counts fits)

pub snapshot_read : (l : FormTree) (ls : List FormTree) (h : HubTree)
    → hub_record_of (tree_of_hub_snapshot (l ∷ ls) h) ≡ Some (snapshot_record (tree_of_document (left_type l) h.hub, items_of_views (l ∷ ls) h.views))
snapshot_read l ls h = refl
