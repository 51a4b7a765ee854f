-- A tree that was written is read as the document, and can be written as a file.
use Rattle.std.proofs.Common.{◌≡◌, true, Some, Result, Ok, Err, IfOk}
use Rattle.std.specs.Option.{option_flatten}
use Rattle.json.specs.Tree.{HasNumbers}
use Rattle.doc_values.specs.Documents.{DocTree}
use Rattle.file_trees.specs.FileTrees.{file_tree}
use Rattle.file_trees.specs.declared.tree.FileTree.{FileTree}
use Rattle.file_forms.specs.Forms.{FileFormTree}
use Rattle.file_forms.specs.Fitting.{is_fit}
use Rattle.file_forms.specs.FileValues.{read, write}
use Rattle.file_forms.proofs.Facts.{flatten_some}
use Rattle.file_forms.proofs.WriteReads.{again}
use Rattle.file_forms.proofs.WrittenNumbers.{numbers}
use Rattle.file_values.specs.declared.fault.WriteFault.{WriteFault}
use Rattle.file_values.specs.Writing.{Writes}

pub written_back : (r : Result FileTree WriteFault) (f : FileFormTree) (d : DocTree) → Writes file_tree r (option_flatten (write f d)) → is_fit f ≡ true → IfOk r (λ t. read f (Some (file_tree t)) ≡ Some d)
written_back (Ok t) f d h k = again f d (Some (file_tree t)) k (flatten_some (write f d) (file_tree t) h)
written_back (Err e) f d h k = tt

pub written_numbers : (r : Result FileTree WriteFault) (f : FileFormTree) (d : DocTree) → Writes file_tree r (option_flatten (write f d)) → is_fit f ≡ true → IfOk r (λ t. HasNumbers (file_tree t))
written_numbers (Ok t) f d h k = numbers f d (Some (file_tree t)) k (flatten_some (write f d) (file_tree t) h)
written_numbers (Err e) f d h k = tt
