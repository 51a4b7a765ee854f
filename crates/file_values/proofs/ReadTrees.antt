-- A tree that was read is written back, with its members in byte order, and a tree that was written is read.
use Rattle.std.proofs.Common.{◌≡◌, ◌↔◌, true, Some, Option, Result, Ok, Err, IfOk, sym, ap, ◌∙◌}
use Rattle.std.specs.Result.{result_ok}
use Rattle.json.specs.Json.{Json}
use Rattle.doc_values.specs.Documents.{DocTree, doc_tree}
use Rattle.doc_values.specs.declared.doc.Doc.{Doc}
use Rattle.file_forms.specs.Forms.{FileFormTree}
use Rattle.file_forms.specs.Orders.{sorted}
use Rattle.file_forms.specs.Fitting.{is_fit}
use Rattle.file_forms.specs.FileValues.{read, write}
use Rattle.file_forms.proofs.Facts.{some_is}
use Rattle.file_forms.proofs.ComesBack.{comes_back}
use Rattle.file_forms.proofs.WriteReads.{again}
use Rattle.file_values.specs.declared.misfit.ReadFault.{ReadFault}
use Rattle.file_values.specs.Reading.{Misfit, Reads, reading}
use Rattle.file_values.proofs.ReadingReads.{agrees}

is_ok : {A : Type 0} (r : Result A Misfit) (a : A) → result_ok r ≡ Some a → r ≡ Ok a
is_ok (Ok b) a h = ap Ok (some_is b a h)
is_ok (Err m) a h = cc

found : (f : FileFormTree) (s : Option Json) (d : DocTree) → is_fit f ≡ true → reading f s ≡ Ok d → read f s ≡ Some d
found f s d k h = sym (agrees f s k) ∙ ap result_ok h

found_again : (f : FileFormTree) (s : Option Json) (d : DocTree) → is_fit f ≡ true → read f s ≡ Some d → reading f s ≡ Ok d
found_again f s d k h = is_ok (reading f s) d (agrees f s k ∙ h)

-- ---- laws

pub read_is_written : (f : FileFormTree) (j : Json) (d : DocTree) → is_fit f ≡ true → (reading f (Some j) ≡ Ok d) ↔ (write f d ≡ Some (Some (sorted j)))
read_is_written f j d k =
    let back = comes_back f j d k in
    (λ h. back.0 (found f (Some j) d k h), λ h. found_again f (Some j) d k (back.1 h))

pub written_is_read : (f : FileFormTree) (d : DocTree) (s : Option Json) → is_fit f ≡ true → write f d ≡ Some s → reading f s ≡ Ok d
written_is_read f d s k h = found_again f s d k (again f d s k h)

-- ---- what a reader returns

pub read_found : (r : Result Doc ReadFault) (f : FileFormTree) (j : Json) → Reads doc_tree r (reading f (Some j)) → is_fit f ≡ true → IfOk r (λ d. read f (Some j) ≡ Some (doc_tree d))
read_found (Ok d) f j h k = found f (Some j) (doc_tree d) k h
read_found (Err e) f j h k = tt

pub read_back : (r : Result Doc ReadFault) (f : FileFormTree) (j : Json) → Reads doc_tree r (reading f (Some j)) → is_fit f ≡ true → IfOk r (λ d. write f (doc_tree d) ≡ Some (Some (sorted j)))
read_back (Ok d) f j h k = (read_is_written f j (doc_tree d) k).0 h
read_back (Err e) f j h k = tt
