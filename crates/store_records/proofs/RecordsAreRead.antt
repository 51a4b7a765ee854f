-- The records that this program writes are read back from their trees.
use Rattle.std.proofs.Common.{◌≡◌, ℕ, List, true, Option, Some, option_map, refl, ap}
use Rattle.std.specs.Option.{option_or}
use Rattle.serde_json.specs.Data.{Data}
use Rattle.doc_values.specs.Documents.{DocTree}
use Rattle.value_json.specs.DocumentJson.{tree_of_document}
use Rattle.lens_core.specs.Complements.{CompTree}
use Rattle.lens_forms.specs.Forms.{FormTree, left_type, right_type}
use Rattle.complement_file.specs.ComplementJson.{tree_of_complement}
use Rattle.edit_module.specs.Changes.{ChangeTree, one, group}
use Rattle.edit_journal.specs.EntryJson.{change_counts_fit, change_numbers_fit}
use Rattle.edit_journal.proofs.Groups.{change_reads_back}
use Rattle.store_records.specs.RecordJson.{RecordTree, version_record, change_record, snapshot_record, tree_of_program, tree_of_first_program, tree_of_version, tree_of_change_record, tree_of_snapshot, opening_of, single_entry, any_change, version_in, snapshot_in, record_of}

pub program_read : (text : List ℕ) → opening_of (tree_of_program text) ≡ Some (text, 2)
program_read text = refl

pub first_program_read : (text : List ℕ) → opening_of (tree_of_first_program text) ≡ Some (text, 1)
first_program_read text = refl

pub version_read : record_of tree_of_version ≡ Some version_record
version_read = refl

-- the record of a tree that has this change, or none
abbrev with_change : Data → Option ChangeTree → Option RecordTree
with_change d change = option_or (option_map change_record change) (option_or (version_in d) (option_map snapshot_record (snapshot_in d)))

pub change_read : (change : ChangeTree) → change_counts_fit change ≡ true → change_numbers_fit change ≡ true → record_of (tree_of_change_record change) ≡ Some (change_record change)
change_read (one e) counts numbers = ap (λ c. with_change (tree_of_change_record (one e)) (single_entry c)) (change_reads_back (one e) counts numbers)
change_read (group es) counts numbers = ap (λ c. with_change (tree_of_change_record (group es)) (any_change c)) (change_reads_back (group es) counts numbers)

pub snapshot_read : (l : FormTree) (x : DocTree) (c : CompTree) (y : DocTree)
    → record_of (tree_of_snapshot l x c y) ≡ Some (snapshot_record (tree_of_complement l c, tree_of_document (left_type l) x, tree_of_document (right_type l) y))
snapshot_read l x c y = refl
