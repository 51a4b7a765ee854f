-- The texts of payloads and their trees.
use Rattle.std.proofs.Common.{◌≡◌, ℕ, ◌≤◌, List, true, false, codes, Some, Result, Ok, Err, IfOk, String, Global, refl, sym, subst, arith}
use Rattle.std.specs.Prelude.{string_bytes}
use Rattle.std.proofs.lemmas.Bool.{or_from}
use Rattle.std.proofs.lemmas.Str.{is_utf8-from_IsUtf8, IsUtf8-string_bytes}
use Rattle.serde_json.specs.Data.{Data, depth}
use Rattle.serde_json.specs.Read.{read, max_depth}
use Rattle.serde_json.specs.Written.{has_float, compact_text}
use Rattle.texts.proofs.Conjunction.{first as left}
use Rattle.doc_values.specs.Documents.{DocTree}
use Rattle.doc_values.specs.Types.{height}
use Rattle.value_json.proofs.TreeDepths as documents
use Rattle.edit_module.specs.Changes.{ChangeTree, one, group}
use Rattle.edit_json.specs.WordJson.{counts_fit, numbers_fit}
use Rattle.edit_json.proofs.TextsReadBack.{ReadsBack, one_reads, text_of_tree}
use Rattle.edit_journal.specs.EntryJson.{tree_of_entry, change_counts_fit, change_numbers_fit, tree_of_text}
use Rattle.edit_journal.proofs.TextsReadBack.{entry_reads, change_reads}
use Rattle.lens_core.specs.Complements.{CompTree}
use Rattle.lens_forms.specs.Forms.{FormTree, left_type, right_type}
use Rattle.lens_forms.specs.Measures.{form_height}
use Rattle.lens_forms.specs.declared.limits.TheConstants.{GREATEST_HEIGHT}
use Rattle.complement_file.proofs.Floats as complements
use Rattle.store_records.specs.RecordJson.{tree_of_change_record, tree_of_snapshot}
use Rattle.store_records.proofs.ComplementDepths.{low}

-- ---- reading a text

-- a string that reads as a tree is a text of it
pub string_read : (s : String Global) (d : Data) → read (string_bytes s) ≡ Some d → tree_of_text (string_bytes s) ≡ Some d
string_read s d h = rw (is_utf8-from_IsUtf8 (string_bytes s) (IsUtf8-string_bytes s)) h

-- ---- changes

record_reads : (change : ChangeTree) → change_counts_fit change ≡ true → change_numbers_fit change ≡ true → ReadsBack (tree_of_change_record change)
record_reads (one e) counts numbers = one_reads (codes "entry") (tree_of_entry e) (entry_reads e (left (counts_fit e.1) true counts) (left (numbers_fit e.1) true numbers))
record_reads (group es) counts numbers = change_reads (group es) counts numbers

-- the text of the record of a change is read back, unless the record nests too deep
pub text_of_record : (change : ChangeTree) → change_counts_fit change ≡ true → change_numbers_fit change ≡ true → depth (tree_of_change_record change) ≤ max_depth
    → read (compact_text (tree_of_change_record change)) ≡ Some (tree_of_change_record change)
text_of_record change counts numbers low = text_of_tree (tree_of_change_record change) (record_reads change counts numbers) low

-- ---- no float

pub snapshot_whole : (l : FormTree) (x : DocTree) (c : CompTree) (y : DocTree) → has_float (tree_of_snapshot l x c y) ≡ false
snapshot_whole l x c y = or_from _ _ (or_from _ _ (complements.whole l c) (or_from _ _ (documents.whole (left_type l) x) (or_from _ _ (documents.whole (right_type l) y) refl))) refl

-- ---- depth

pub snapshot_low : (l : FormTree) (x : DocTree) (c : CompTree) (y : DocTree) → form_height l ≤ GREATEST_HEIGHT → height (left_type l) ≤ GREATEST_HEIGHT → height (right_type l) ≤ GREATEST_HEIGHT
    → depth (tree_of_snapshot l x c y) ≤ max_depth
snapshot_low l x c y h left right = omega (arith, low l c, documents.shallow (left_type l) x, documents.shallow (right_type l) y, h, left, right)

-- what is read back of a payload whose tree is low
pub read_low : {E : Type 0} (r : Result (List ℕ) E) (t d : Data) → t ≡ d → depth d ≤ max_depth → IfOk r (λ bytes. depth t ≤ max_depth → tree_of_text bytes ≡ Some t)
    → IfOk r (λ bytes. tree_of_text bytes ≡ Some d)
read_low (Ok bytes) t d e low h = subst (λ (x : Data). tree_of_text bytes ≡ Some x) e (h (subst (λ (x : Data). depth x ≤ max_depth) (sym e) low))
read_low (Err error) t d e low h = h
