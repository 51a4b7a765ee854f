-- The text of a change's tree is read back as the tree.
use Rattle.std.proofs.Common.{◌≡◌, ◌≤◌, suc, true, List, [], ◌∷◌, Some, codes, refl, ap₂}
use Rattle.std.specs.Prelude.{max}
use Rattle.serde_json.specs.Data.{Data, string, object, no_members, member, depth}
use Rattle.serde_json.specs.Read.{read, max_depth}
use Rattle.serde_json.specs.Written.{compact_text}
use Rattle.texts.proofs.Conjunction.{first as left, second as right}
use Rattle.texts.specs.declared.side.Side.{Side}
use Rattle.edit_module.specs.Words.{WordTree}
use Rattle.edit_module.specs.Changes.{ChangeTree, one, group}
use Rattle.edit_json.specs.WordJson.{tree_of_word, counts_fit, numbers_fit}
use Rattle.edit_json.proofs.TextsReadBack.{ReadsBack, ItemsReadBack, none_reads, item_reads, array_reads, one_reads, string_reads, word_reads, text_of_tree}
use Rattle.edit_journal.specs.EntryJson.{side_text, tree_of_entry, items_of_entries, tree_of_entries, tree_of_change, entries_counts_fit, entries_numbers_fit, change_counts_fit, change_numbers_fit}

parts_read : (d e : Data) → ReadsBack d → ReadsBack e → ReadsBack (object (member (codes "edit") d (member (codes "side") e no_members)))
parts_read d e h k = record { same = rw (h.same, k.same) refl; numbers = (h.numbers, (k.numbers, tt)); level = ap₂ (λ n m. suc (max n (max m 0))) h.level k.level }

pub entry_reads : (e : Side × WordTree) → counts_fit e.1 ≡ true → numbers_fit e.1 ≡ true → ReadsBack (tree_of_entry e)
entry_reads e counts numbers = parts_read (tree_of_word e.1) (string (side_text e.0)) (word_reads e.1 counts numbers) (string_reads (side_text e.0))

entries_read : (es : List (Side × WordTree)) → entries_counts_fit es ≡ true → entries_numbers_fit es ≡ true → ItemsReadBack (items_of_entries es)
entries_read [] counts numbers = none_reads
entries_read (e ∷ es) counts numbers =
    item_reads (tree_of_entry e) (items_of_entries es) (entry_reads e (left (counts_fit e.1) (entries_counts_fit es) counts) (left (numbers_fit e.1) (entries_numbers_fit es) numbers))
    (entries_read es (right (counts_fit e.1) (entries_counts_fit es) counts) (right (numbers_fit e.1) (entries_numbers_fit es) numbers))

pub change_reads : (change : ChangeTree) → change_counts_fit change ≡ true → change_numbers_fit change ≡ true → ReadsBack (tree_of_change change)
change_reads (one e) counts numbers = entry_reads e (left (counts_fit e.1) true counts) (left (numbers_fit e.1) true numbers)
change_reads (group es) counts numbers = one_reads (codes "group") (tree_of_entries es) (array_reads (items_of_entries es) (entries_read es counts numbers))

pub text_of_change : (change : ChangeTree) → change_counts_fit change ≡ true → change_numbers_fit change ≡ true → depth (tree_of_change change) ≤ max_depth → read (compact_text (tree_of_change change)) ≡ Some (tree_of_change change)
text_of_change change counts numbers low = text_of_tree (tree_of_change change) (change_reads change counts numbers) low
