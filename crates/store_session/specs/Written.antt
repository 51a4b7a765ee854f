-- The records that this program writes behind the first, and what each makes of what stood before it.
-- In order: `WrittenRecord`, `StandsAfter`, and for lists of records `AreWritten`, `SnapshotsKeep` and
-- `changes_written`.
use Rattle.std.specs.Prelude.{◌≡◌, ℕ, ◌+◌, List, [], ◌∷◌, ◌++◌, Option, Some, None, Ok, true, map, option_to_list}
use Rattle.serde_json.specs.Data.{Data}
use Rattle.value_json.specs.DocumentJson.{holds_i64s}
use Rattle.edit_module.specs.Words.{WordTree}
use Rattle.edit_module.specs.Changes.{ChangeTree, one, group}
use Rattle.edit_journal.specs.EntryJson.{change_counts_fit, change_numbers_fit, tree_of_text}
use Rattle.lens_core.specs.Consistency.{IsConsistent}
use Rattle.lens_forms.specs.Forms.{FormTree, left_type, right_type}
use Rattle.lens_core.specs.Translation.{translate}
use Rattle.edit_session.specs.Run.{AnswerTree, run, last}
use Rattle.edit_session.specs.Step.{TripleTree}
use Rattle.store_records.specs.RecordJson.{tree_of_version, tree_of_change_record, tree_of_snapshot}
use Rattle.store_session.specs.Stands.{Standing, step_of}

-- the version 2, a change, or a snapshot of a triple
pub data WrittenRecord : Type 0 where
  the_version : WrittenRecord
  the_change : ChangeTree → WrittenRecord
  the_snapshot : TripleTree → WrittenRecord

-- the tree of a record, in a store of the lens of this form
abbrev pub tree_of_written : FormTree → WrittenRecord → Data
tree_of_written l the_version = tree_of_version
tree_of_written l (the_change change) = tree_of_change_record change
tree_of_written l (the_snapshot t) = tree_of_snapshot l t.left t.comp t.right

-- a change has a tree: its counts and its numbers fit; groups are stored at version 2
abbrev pub HasRecord : ℕ → ChangeTree → Type 0
HasRecord version (one e) = (change_counts_fit (one e) ≡ true) × (change_numbers_fit (one e) ≡ true)
HasRecord version (group es) =
    (change_counts_fit (group es) ≡ true) × (change_numbers_fit (group es) ≡ true) × (version ≡ 2)

-- The record may be written behind what stands first, and the other stands then. The version 2 is written at version 1;
-- a change is accepted and counts one; a snapshot is consistent, and its ints are i64, as all ints of the program.
abbrev pub StandsAfter : Standing → WrittenRecord → Standing → Type 0
StandsAfter s the_version t = (s.version ≡ 1) × (t ≡ record s { version = 2 })
StandsAfter s (the_change change) t = HasRecord s.version change
    × (words : List WordTree) × (step_of s.form s.triple change ≡ Some (Ok (t.triple, words)))
    × (t ≡ record s { triple = t.triple; count = s.count + 1 })
StandsAfter s (the_snapshot now) t = IsConsistent s.form now.left now.comp now.right
    × (holds_i64s now.left ≡ true) × (holds_i64s now.right ≡ true) × (t ≡ record s { triple = now })

-- the payload reads as the record's tree
abbrev pub ReadsAs : FormTree → List ℕ × WrittenRecord → Type 0
ReadsAs l w = tree_of_text w.0 ≡ Some (tree_of_written l w.1)

-- payloads of records, each of which may be written behind those before it; what stands first and last
abbrev pub AreWritten : Standing → List (List ℕ × WrittenRecord) → Standing → Type 0
AreWritten s [] end = end ≡ s
AreWritten s (w ∷ ws) end = (next : Standing) × ReadsAs s.form w × StandsAfter s w.1 next × AreWritten next ws end

-- every snapshot is of the triple that stands where it is written
abbrev pub KeepsTriple : Standing → WrittenRecord → Type 0
KeepsTriple s (the_snapshot now) = now ≡ s.triple
KeepsTriple s _ = Unit {0}

abbrev pub SnapshotsKeep : Standing → List (List ℕ × WrittenRecord) → Type 0
SnapshotsKeep s [] = Unit {0}
SnapshotsKeep s (w ∷ ws) = KeepsTriple s w.1 × ((next : Standing) → StandsAfter s w.1 next → SnapshotsKeep next ws)

-- the changes of some records, in order
abbrev pub change_written : WrittenRecord → Option ChangeTree
change_written (the_change change) = Some change
change_written _ = None

abbrev pub changes_written : List (List ℕ × WrittenRecord) → List ChangeTree
changes_written [] = []
changes_written (w ∷ ws) = option_to_list (change_written w.1) ++ changes_written ws

-- the run of a lens over these changes goes from the one triple to the other; F is the type of what may be wrong with a
-- line
abbrev pub RunsTo : (F : Type 0) → FormTree → TripleTree → List ChangeTree → TripleTree → Type 0
RunsTo F l t changes end = (steps : List (TripleTree × AnswerTree F))
    × (run {F =
    F} (left_type l) (right_type l) (translate l) t (map (λ c. Ok c) changes) ≡ Some steps) × (last t steps ≡ end)
