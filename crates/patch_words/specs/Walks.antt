-- What a walk over a patch has made so far, and what a call returns.
use Rattle.std.specs.Prelude.{◌≡◌, ℕ, ◌+◌, List, ◌∷◌, option_map, Result, Ok, Err}
use Rattle.doc_values.specs.Documents.{doc_tree}
use Rattle.doc_values.specs.Types.{TyTree}
use Rattle.edit_module.specs.declared.word.Word.{Word}
use Rattle.edit_module.specs.Words.{WordTree, joined}
use Rattle.edit_module.specs.Views.{word_tree}
use Rattle.json.specs.Json.{Json}
use Rattle.file_trees.specs.FileTrees.{file_tree}
use Rattle.file_trees.specs.declared.tree.FileTree.{FileTree}
use Rattle.file_patches.specs.declared.fault.Cause.{Cause}
use Rattle.file_forms.specs.Forms.{FileFormTree}
use Rattle.file_values.specs.Reading.{Misfit, misfit_view}
use Rattle.file_values.specs.declared.misfit.FileMisfit.{FileMisfit}
use Rattle.file_patches.specs.Operations.{OperationTree}
use Rattle.file_patches.specs.Results.{on_ok}
use Rattle.patch_words.specs.declared.fault.WordFault.{WordFault}
use Rattle.patch_words.specs.declared.fault.WordFault.TheVariants as faults
use Rattle.patch_words.specs.declared.walk.Walk.{Walk}
use Rattle.patch_words.specs.ToWord.{NoWord, no_file, not_done, not_read, if_done, words_from}

-- a fault is that of the definition; running out of memory says nothing
abbrev pub Refuses : WordFault → Result WordTree NoWord → Type 0
Refuses faults.NoFile made = made ≡ Err no_file
Refuses (faults.NotDone n cause) made = made ≡ Err (not_done n cause)
Refuses (faults.NotRead n m) made = made ≡ Err (not_read n (misfit_view m))
Refuses faults.NoMemory made = Unit {0}

-- what is returned, word or refusal, is what the definition has
abbrev pub Makes : Result Word WordFault → Result WordTree NoWord → Type 0
Makes (Ok w) made = made ≡ Ok (word_tree w)
Makes (Err fault) made = Refuses fault made

-- a file after an operation of this number, or why there is none
abbrev pub IsDone : ℕ → Result FileTree WordFault → Result Json Cause → Type 0
IsDone n (Ok tree) made = made ≡ Ok (file_tree tree)
IsDone n (Err fault) made = (go : Json → Result WordTree NoWord) → Refuses fault (if_done n made go)

abbrev pub unread_view : ℕ × FileMisfit → ℕ × Misfit
unread_view u = (u.0, misfit_view u.1)

-- the word of a walk, and then those of the operations that are left
abbrev pub on_from : TyTree → FileFormTree → ℕ → Walk → List OperationTree → Result WordTree NoWord
on_from t f n walk os =
    on_ok (joined (word_tree walk.word))
    (words_from t f n (option_map unread_view walk.unread) (doc_tree walk.doc) (file_tree walk.tree) os)

-- a walk goes on to another one by the first of the operations, or stops there
abbrev pub GoesOn : TyTree → FileFormTree → ℕ → Walk → OperationTree → Result Walk WordFault → Type 0
GoesOn t f n walk o (Ok next) =
    (os : List OperationTree) → on_from t f n walk (o ∷ os) ≡ on_from t f (n + 1) next os
GoesOn t f n walk o (Err fault) = (os : List OperationTree) → Refuses fault (on_from t f n walk (o ∷ os))
