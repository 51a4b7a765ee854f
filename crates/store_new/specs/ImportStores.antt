-- For the helpers of `import`: what it stores and writes, from its program and its document.
use Rattle.std.specs.Prelude.{◌≡◌, ◌⊎◌, ℕ, List, [], ◌∷◌, ◌++◌, Some, Result, Ok, Err, true}
use Rattle.lens_io.specs.Calls.{Gave}
use Rattle.lens_io.specs.declared.disk.Disk as OfDisk
use Rattle.lens_io.specs.declared.sink.Sink as OfSink
use Rattle.answer_text.specs.Lines.{ok_line}
use Rattle.doc_values.specs.Documents.{DocTree}
use Rattle.doc_values.specs.Initial.{initial}
use Rattle.edit_inverse.specs.Construct.{construct}
use Rattle.edit_json.specs.WordJson.{counts_fit}
use Rattle.edit_module.specs.Action.{act}
use Rattle.edit_module.specs.Changes.{one}
use Rattle.edit_module.specs.Words.{WordTree}
use Rattle.edit_session.specs.Step.{TripleTree}
use Rattle.edit_journal.specs.EntryJson.{tree_of_text}
use Rattle.run_answers.specs.Answers.{state_lines}
use Rattle.run_answers.specs.ItemRuns.{IsInStepFor, triple_at_first}
use Rattle.lens_forms.specs.Forms.{FormTree, left_type}
use Rattle.program_terms.specs.Terms.{ProgramTree}
use Rattle.program_writing.specs.Canonical.{canonical}
use Rattle.store_records.specs.RecordJson.{tree_of_program}
use Rattle.store_session.specs.Stands.{step_of}
use Rattle.store_session.specs.Written.{the_change, HasRecord, ReadsAs}
use Rattle.texts.specs.declared.side.Side.{Side}
use Rattle.texts.specs.declared.side.Side.TheVariants.{Left, Right}
use Rattle.store_new.specs.NewEnds.{GivesLine}
use Rattle.store_new.specs.Import.{entry_payload, import_line}
use Rattle.store_new.specs.Making.{EndsPlan}
use Rattle.store_new.specs.Init.{program_payload}
use Rattle.store_new.specs.declared.refused.ImportRefusal.{ImportRefusal}
use Rattle.command_ends.specs.declared.status.Status.{Status}
use Rattle.command_ends.specs.declared.status.Status.TheVariants.{SomeRefused, NoMemory}

-- The entry of the left side whose word makes the document from the initial one, and has a tree.
pub record MakesDocument (form : FormTree) (doc : DocTree) (entry : Side × WordTree) : Type 0 where
  pub is : entry ≡ (Left, construct (left_type form) doc)
  pub acts : act (left_type form) (construct (left_type form) doc) (initial (left_type form)) ≡ Ok doc
  pub counts : counts_fit (construct (left_type form) doc) ≡ true

-- The word that makes the document steps the first triple to this one, with this translated word. The payload is that
-- of the entry, and reads as its tree; the lines are those that are written once it is stored.
pub record IsEntryText (form : FormTree) (doc : DocTree) (payload lines : List ℕ) : Type 0 where
  pub after : TripleTree
  pub word : WordTree
  pub is_payload : payload ≡ entry_payload (construct (left_type form) doc)
  pub reads : ReadsAs form (payload, the_change (one (Left, construct (left_type form) doc)))
  pub counts : HasRecord 2 (one (Left, construct (left_type form) doc))
  pub steps : step_of form (triple_at_first form) (one (Left, construct (left_type form) doc))
      ≡ Some (Ok (after, word ∷ []))
  pub left_is : after.left ≡ doc
  pub in_step : IsInStepFor form after
  pub written : lines ≡ ok_line 1 Right word ++ state_lines form after

-- the payload of the program, which reads as its tree, and that of the entry
pub record IsImportStore (program : ProgramTree) (form : FormTree) (doc : DocTree) (payloads : List (List ℕ))
    (lines : List ℕ) : Type 0 where
  pub payload : List ℕ
  pub are : payloads ≡ program_payload program ∷ payload ∷ []
  pub reads : tree_of_text (program_payload program) ≡ Some (tree_of_program (canonical program))
  pub entry : IsEntryText form doc payload lines

-- the same for the document that was found
pub record IsFoundStore (program : ProgramTree) (form : FormTree) (outcome : Result DocTree ImportRefusal)
    (payloads : List (List ℕ)) (lines : List ℕ) : Type 0 where
  pub doc : DocTree
  pub is : outcome ≡ Ok doc
  pub store : IsImportStore program form doc payloads lines

module _ {K : Type 0} (sink : OfSink.Ghosts K) (old new : K) where
  -- the line of a refusal of the document was written, or a prefix of it
  pub record RefusesIt (outcome : Result DocTree ImportRefusal) (status : Status) : Type 0 where
    pub refusal : ImportRefusal
    pub is : outcome ≡ Err refusal
    pub given : GivesLine sink old new (import_line refusal) SomeRefused status

module _ {K D : Type 0} (sink : OfSink.Ghosts K) (disk : OfDisk.Ghosts D) (old new : K × D) where
  -- The document is refused and nothing is written to the disk, or its store was made, or its making stopped.
  abbrev pub EndsImport : ProgramTree → FormTree → Result DocTree ImportRefusal → Status → Type 0
  EndsImport program form outcome status =
      RefusesIt sink old.0 new.0 outcome status × (new.1 ≡ old.1)
      ⊎ ((doc : DocTree) × (outcome ≡ Ok doc) × EndsPlan sink disk old new (IsImportStore program form doc) status)
      ⊎ (status ≡ NoMemory) × (new.1 ≡ old.1) × Gave sink old.0 new.0 []
