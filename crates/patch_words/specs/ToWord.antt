-- A patch of the file of a document becomes a word. Read it from the end: `to_word`.
use Rattle.std.specs.Prelude.{ℕ, ◌+◌, List, [], ◌∷◌, Option, None, Some, Result, Ok, Err}
use Rattle.std.specs.Option.{option_flatten}
use Rattle.json.specs.Json.{Json}
use Rattle.doc_values.specs.Documents.{DocTree}
use Rattle.doc_values.specs.Types.{TyTree}
use Rattle.edit_module.specs.Words.{WordTree, no_primitives, joined}
use Rattle.edit_between.specs.Between.{between}
use Rattle.file_forms.specs.Forms.{FileFormTree}
use Rattle.file_forms.specs.FileValues.{write}
use Rattle.file_values.specs.Reading.{Misfit, reading}
use Rattle.file_patches.specs.declared.fault.Cause.{Cause}
use Rattle.file_patches.specs.Operations.{OperationTree}
use Rattle.file_patches.specs.Patching.{operated}
use Rattle.file_patches.specs.Results.{on_ok}

-- why there is no word: no file shows the document; an operation cannot be done, by its number and the cause; or from
-- an operation on no file is read, by its number and the first part of the file after it that is not as the form has it
pub data NoWord : Type 0 where
  no_file : NoWord
  not_done : ℕ → Cause → NoWord
  not_read : ℕ → Misfit → NoWord

-- what is done with the file after an operation of this number
abbrev pub if_done : ℕ → Result Json Cause → (Json → Result WordTree NoWord) → Result WordTree NoWord
if_done n (Ok k) go = go k
if_done n (Err cause) go = Err (not_done n cause)

-- what is done with the document of a file that is read, and with the misfit of any other
abbrev pub if_read : Result DocTree Misfit → (DocTree → Result WordTree NoWord) → (Misfit → Result WordTree NoWord)
    → Result WordTree NoWord
if_read (Ok e) go unread = go e
if_read (Err m) go unread = unread m

-- the first operation since the last file that was read, with its misfit
abbrev pub first_unread : Option (ℕ × Misfit) → ℕ → Misfit → Option (ℕ × Misfit)
first_unread None n m = Some (n, m)
first_unread (Some u) n m = Some u

-- The words of the pieces of a patch, joined. A piece ends where the file is read again, and its word is the one
-- between the documents. The operations are numbered from n on; d is the last document that was read, and j the file
-- now.
abbrev pub words_from : TyTree → FileFormTree → ℕ → Option (ℕ × Misfit) → DocTree → Json → List OperationTree
    → Result WordTree NoWord
words_from t f n None d j [] = Ok no_primitives
words_from t f n (Some u) d j [] = Err (not_read u.0 u.1)
words_from t f n u d j (o ∷ os) =
    if_done n (operated o j) (λ k. if_read (reading f (Some k))
    (λ e. on_ok (joined (between t d e)) (words_from t f (n + 1) None e k os))
    (λ m. words_from t f (n + 1) (first_unread u n m) d k os))

abbrev pub to_word_from : TyTree → FileFormTree → DocTree → Option Json → List OperationTree → Result WordTree NoWord
to_word_from t f d None os = Err no_file
to_word_from t f d (Some j) os = words_from t f 0 None d j os

-- the word of a patch of the file of a document
abbrev pub to_word : TyTree → FileFormTree → DocTree → List OperationTree → Result WordTree NoWord
to_word t f d os = to_word_from t f d (option_flatten (write f d)) os
