-- What the command `import` makes of a script.
-- Read it from the end: `RefusesImport`, `Imports`, `import_command`, `Brings`, then `document_of_script`.
use Rattle.std.specs.Prelude.{◌≡◌, ℕ, ◌≤◌, List, [], ◌∷◌, ◌++◌, length, codes, Option, Some, None, Result, Ok, Err}
use Rattle.std.specs.Prelude.{IfSome, if◌then◌else◌}
use Rattle.lens_io.specs.Calls.{Took, IsRead, Gave}
use Rattle.lens_io.specs.declared.disk.Disk as OfDisk
use Rattle.lens_io.specs.declared.sink.Sink as OfSink
use Rattle.lens_io.specs.declared.source.Source as OfSource
use Rattle.serde_json.specs.Data.{Data}
use Rattle.serde_json.specs.Written.{compact_text}
use Rattle.answer_text.specs.Lines.{ok_line}
use Rattle.doc_values.specs.Documents.{DocTree}
use Rattle.doc_values.specs.Types.{TyTree}
use Rattle.edit_inverse.specs.Construct.{construct}
use Rattle.edit_journal.specs.EntryJson.{tree_of_text}
use Rattle.edit_journal.specs.Lines.{is_blank}
use Rattle.edit_journal.specs.declared.line.Line.{Line}
use Rattle.edit_journal.specs.declared.line.Line.TheVariants as line
use Rattle.edit_module.specs.Changes.{one}
use Rattle.edit_module.specs.Words.{WordTree}
use Rattle.edit_session.specs.Step.{TripleTree}
use Rattle.lens_forms.specs.Forms.{FormTree, left_type}
use Rattle.run_answers.specs.Answers.{state_lines}
use Rattle.run_answers.specs.ItemRuns.{IsInStepFor, triple_at_first}
use Rattle.script_input.specs.declared.limits.TheConstants.{MOST_BYTES}
use Rattle.program_terms.specs.Terms.{ProgramTree}
use Rattle.script_input.specs.Lines.{program_part, journal}
use Rattle.store_records.specs.RecordJson.{tree_of_change_record}
use Rattle.store_session.specs.Stands.{stands, step_of}
use Rattle.store_session.specs.Standings.{standing}
use Rattle.store_run.specs.Devices.{Devices}
use Rattle.store_run.specs.Refusals.{IsUnwritten}
use Rattle.texts.specs.declared.side.Side.TheVariants.{Left, Right}
use Rattle.value_json.specs.DocumentJson.{document_of}
use Rattle.store_new.specs.Init.{program_payload}
use Rattle.store_new.specs.Command.{Command}
use Rattle.program_accepted.specs.Program.{IsAccepted}
use Rattle.store_new.specs.Scripts.{one_program}
use Rattle.store_new.specs.NewStores.{HoldsStore}
use Rattle.store_new.specs.declared.refused.ImportRefusal.{ImportRefusal}
use Rattle.store_new.specs.declared.refused.ImportRefusal.TheVariants.{NoDocument, ExtraLine, LineTooLong, NotJson}
use Rattle.store_new.specs.declared.refused.ImportRefusal.TheVariants.{NotOfType}

-- ---- the document of a script

-- the lines that are not blank
abbrev pub full_lines : List Line → List Line
full_lines [] = []
full_lines (line ∷ lines) = if is_blank line then full_lines lines else line ∷ full_lines lines

-- the document that was read, if it has the type
abbrev pub if_typed : Option DocTree → Result DocTree ImportRefusal
if_typed (Some doc) = Ok doc
if_typed None = Err NotOfType

-- the document of a tree, if there is one
abbrev pub if_json : TyTree → Option Data → Result DocTree ImportRefusal
if_json ty (Some tree) = if_typed (document_of ty tree)
if_json ty None = Err NotJson

-- the document that a line is, of this type
abbrev pub document_of_line : TyTree → Line → Result DocTree ImportRefusal
document_of_line ty (line.Text bytes) = if_json ty (tree_of_text bytes)
document_of_line ty line.TooLong = Err LineTooLong

-- the document of the only line
abbrev pub document_of_lines : TyTree → List Line → Result DocTree ImportRefusal
document_of_lines ty [] = Err NoDocument
document_of_lines ty (line ∷ []) = document_of_line ty line
document_of_lines ty (line ∷ next ∷ lines) = Err ExtraLine

-- the document of the journal part of a script, or why there is none
abbrev pub document_of_script : TyTree → List ℕ → Result DocTree ImportRefusal
document_of_script ty bytes = document_of_lines ty (full_lines (journal bytes))

-- ---- its refusals

abbrev pub import_reason : ImportRefusal → List ℕ
import_reason NoDocument = codes "no-document"
import_reason ExtraLine = codes "extra-line"
import_reason LineTooLong = codes "line-too-long"
import_reason NotJson = codes "not-json"
import_reason NotOfType = codes "not-of-type"

-- `import refused: REASON`
abbrev pub import_line : ImportRefusal → List ℕ
import_line refusal = codes "import refused: " ++ import_reason refusal ++ codes "\n"

-- The program part is accepted, and the journal part is no document of the left type, for this reason. The line says
-- so.
pub record RefusesDocument (bytes line : List ℕ) : Type 0 where
  pub program : ProgramTree
  pub form : FormTree
  pub accepted : IsAccepted (program_part bytes) program form
  pub refusal : ImportRefusal
  pub refused : document_of_script (left_type form) bytes ≡ Err refusal
  pub is_line : line ≡ import_line refusal

-- ---- its store

-- the payload of an entry of the left side
abbrev pub entry_payload : WordTree → List ℕ
entry_payload word = compact_text (tree_of_change_record (one (Left, word)))

-- The program is that of the script, and the document is that of its journal part. The word that makes the document
-- from the initial one steps the first triple to this one, whose left document it is, and is translated to this word of
-- the right side. The triple is consistent, and the two payloads stand for it.
pub record IsImported (bytes : List ℕ) (program : ProgramTree) (form : FormTree) (doc : DocTree) (after : TripleTree)
    (word : WordTree) : Type 0 where
  pub accepted : IsAccepted (program_part bytes) program form
  pub is_document : document_of_script (left_type form) bytes ≡ Ok doc
  pub steps : step_of form (triple_at_first form) (one (Left, construct (left_type form) doc))
      ≡ Some (Ok (after, word ∷ []))
  pub left_is : after.left ≡ doc
  pub in_step : IsInStepFor form after
  pub stand : stands (program_payload program ∷ entry_payload (construct (left_type form) doc) ∷ [])
      ≡ Ok (standing form after 1 2)

-- The store of a script: the payload of its program, of version 2, and that of the entry of the left side that makes
-- the document. The lines are `ok 1 right WORD`, with the translated word, and the state lines of the triple after it.
pub record Brings (bytes : List ℕ) (payloads : List (List ℕ)) (lines : List ℕ) : Type 0 where
  pub program : ProgramTree
  pub form : FormTree
  pub doc : DocTree
  pub after : TripleTree
  pub word : WordTree
  pub imported : IsImported bytes program form doc after word
  pub are : payloads ≡ program_payload program ∷ entry_payload (construct (left_type form) doc) ∷ []
  pub written : lines ≡ ok_line 1 Right word ++ state_lines form after

-- `import` makes such a store, or refuses the document
abbrev pub import_command : Command
import_command = record { part = one_program; makes = Brings; refuses = RefusesDocument }

-- ---- a call

module _ {S K D : Type 0} (source : OfSource.Ghosts S) (sink : OfSink.Ghosts K) (disk : OfDisk.Ghosts D)
    (old new : Devices S K D) where
  -- The source was read to its end, and gave these bytes. The disk was empty, and holds the two payloads of `Brings`.
  -- The line `ok 1` and the state lines were written.
  pub record Imports : Type 0 where
    pub bytes : List ℕ
    pub took : Took source old.source new.source bytes
    pub read : IsRead source old.source new.source
    pub within : length bytes ≤ MOST_BYTES
    pub was_empty : IfSome (disk.content old.disk) (λ before. length before ≡ 0)
    pub program : ProgramTree
    pub form : FormTree
    pub doc : DocTree
    pub after : TripleTree
    pub word : WordTree
    pub imported : IsImported bytes program form doc after word
    pub stored : HoldsStore disk new.disk
        (program_payload program ∷ entry_payload (construct (left_type form) doc) ∷ [])
    pub given : Gave sink old.sink new.sink (ok_line 1 Right word ++ state_lines form after)

  -- The script was read to its end, and its document is refused: the line of that refusal was written. The disk was
  -- empty, and is as before.
  pub record RefusesImport : Type 0 where
    pub bytes : List ℕ
    pub took : Took source old.source new.source bytes
    pub read : IsRead source old.source new.source
    pub within : length bytes ≤ MOST_BYTES
    pub line : List ℕ
    pub refused : RefusesDocument bytes line
    pub was_empty : IfSome (disk.content old.disk) (λ before. length before ≡ 0)
    pub unwritten : IsUnwritten disk old.disk new.disk
    pub given : Gave sink old.sink new.sink line
