-- What the word of a patch does, and what a refusal means. `PatchesLead`, at the end, is the law.
use Rattle.std.specs.Prelude.{◌≡◌, true, List, Some, None, Result, Ok, Err}
use Rattle.std.specs.Option.{option_flatten}
use Rattle.json.specs.Json.{Json}
use Rattle.doc_values.specs.Documents.{DocTree}
use Rattle.doc_values.specs.Types.{TyTree, is_well_formed}
use Rattle.edit_module.specs.Words.{WordTree}
use Rattle.edit_module.specs.Action.{act}
use Rattle.file_forms.specs.Forms.{FileFormTree, type_of}
use Rattle.file_forms.specs.Fitting.{is_fit}
use Rattle.file_forms.specs.FileValues.{read, write}
use Rattle.file_forms.specs.Orders.{sorted}
use Rattle.file_patches.specs.Operations.{OperationTree}
use Rattle.file_patches.specs.Patching.{patched}
use Rattle.patch_words.specs.ToWord.{NoWord, no_file, not_done, not_read, to_word}

-- the document has a file, of which the patch makes another one; that one is read as a document to which the word takes
-- the first, and which is written as that file again, up to the order of members
abbrev pub LeadsTo : TyTree → FileFormTree → DocTree → List OperationTree → WordTree → Type 0
LeadsTo t f d os w =
    (j k : Json) × (e : DocTree) × (write f d ≡ Some (Some j)) × (patched os j ≡ Ok k) × (read f (Some k) ≡ Some e)
    × (act t w d ≡ Ok e) × (write f e ≡ Some (Some (sorted k)))

-- the document has no file; or the patch refuses its file so; or the file that the patch makes is not read
abbrev pub IsRefused : FileFormTree → DocTree → List OperationTree → NoWord → Type 0
IsRefused f d os no_file = option_flatten (write f d) ≡ None
IsRefused f d os (not_done n cause) = (j : Json) × (write f d ≡ Some (Some j)) × (patched os j ≡ Err (n, cause))
IsRefused f d os (not_read n m) =
    (j k : Json) × (write f d ≡ Some (Some j)) × (patched os j ≡ Ok k) × (read f (Some k) ≡ None)

abbrev pub IsAnswer : TyTree → FileFormTree → DocTree → List OperationTree → Result WordTree NoWord → Type 0
IsAnswer t f d os (Ok w) = LeadsTo t f d os w
IsAnswer t f d os (Err why) = IsRefused f d os why

-- the word of a patch takes the document to that of the patched file, and a refusal comes only where there is none
abbrev pub PatchesLead : Type 0
PatchesLead = (f : FileFormTree) (d : DocTree) (os : List OperationTree) → is_fit f ≡ true
    → is_well_formed (type_of f) ≡ true → IsAnswer (type_of f) f d os (to_word (type_of f) f d os)
