-- The empty word leaves a document as it is.
use Rattle.std.proofs.Common.{◌≡◌, Ok, refl, arith}
use Rattle.doc_values.specs.Documents.{DocTree}
use Rattle.doc_values.specs.Types.{TyTree}
use Rattle.edit_module.specs.Words.{WordTree, no_primitives, more_primitives, word_length}
use Rattle.edit_module.specs.Action.{act}

pub empty_acts : (ty : TyTree) (w : WordTree) (x : DocTree) → word_length w ≡ 0 → act ty w x ≡ Ok x
empty_acts ty no_primitives x is = refl
empty_acts ty (more_primitives p w) x is = absurd (omega arith)
