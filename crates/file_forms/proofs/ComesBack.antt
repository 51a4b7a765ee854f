-- A file and the document that it is belong together, whichever way one goes.
use Rattle.std.proofs.Common.{◌≡◌, ◌↔◌, true, Some, Option, option_map, sym, ◌∙◌}
use Rattle.json.specs.Json.{Json}
use Rattle.doc_values.specs.Documents.{DocTree}
use Rattle.doc_values.specs.Typing.{has}
use Rattle.file_forms.specs.Forms.{FileFormTree, type_of}
use Rattle.file_forms.specs.Orders.{sorted}
use Rattle.file_forms.specs.Fitting.{is_fit}
use Rattle.file_forms.specs.FileValues.{read, write}
use Rattle.file_forms.proofs.Facts.{some_is}
use Rattle.file_forms.proofs.WriteReads.{again}
use Rattle.file_forms.proofs.ReadWrites.{found}
use Rattle.file_forms.proofs.ReadAlike.{alike}
use Rattle.file_forms.proofs.WrittenTypes.{typed}

pub comes_back : (f : FileFormTree) (j : Json) (d : DocTree) → is_fit f ≡ true → (read f (Some j) ≡ Some d) ↔ (write f d ≡ Some (Some (sorted j)))
comes_back f j d k = (λ h. found f (Some j) d k h, λ h. alike f (Some j) ∙ again f d (Some (sorted j)) k h)

pub one_file : (f : FileFormTree) (c d : DocTree) (s : Option Json) → is_fit f ≡ true → write f c ≡ Some s → write f d ≡ Some s → c ≡ d
one_file f c d s k g h = some_is c d (sym (again f c s k g) ∙ again f d s k h)

pub in_order : (f : FileFormTree) (d : DocTree) (s : Option Json) → is_fit f ≡ true → write f d ≡ Some s → option_map sorted s ≡ s
in_order f d s k h = some_is (option_map sorted s) s (sym (found f s d k (again f d s k h)) ∙ h)

pub read_typed : (f : FileFormTree) (s : Option Json) (d : DocTree) → is_fit f ≡ true → read f s ≡ Some d → has (type_of f) d ≡ true
read_typed f s d k h = typed f d (option_map sorted s) (found f s d k h)
