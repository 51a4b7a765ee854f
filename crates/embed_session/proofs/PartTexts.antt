-- The texts of documents and of complements, which nest no deeper than the reader of JSON reads back.
use Rattle.std.proofs.Common.{◌≡◌, ℕ, ◌≤◌, List, true, Result, Ok, Err, IfOk, subst, sym, arith}
use Rattle.serde_json.specs.Data.{Data, depth}
use Rattle.serde_json.specs.Read.{max_depth}
use Rattle.doc_values.specs.Documents.{DocTree}
use Rattle.doc_values.specs.Types.{TyTree, height}
use Rattle.doc_values.specs.Typing.{has}
use Rattle.lens_core.specs.Complements.{CompTree}
use Rattle.lens_forms.specs.Forms.{FormTree}
use Rattle.lens_forms.specs.Measures.{form_height}
use Rattle.lens_forms.specs.declared.limits.TheConstants.{GREATEST_HEIGHT}
use Rattle.complement_file.specs.ComplementJson.{tree_of_complement}
use Rattle.store_records.proofs.ComplementDepths.{low}
use Rattle.value_json.proofs.TreeDepths.{shallow}
use Rattle.value_json.specs.DocumentJson.{tree_of_document, holds_i64s}
use Rattle.embed_session.specs.States.{IsTextOf, IsWrittenDocument}

pub document_low : (ty : TyTree) (doc : DocTree) (tree : Data) → tree ≡ tree_of_document ty doc → height ty ≤ GREATEST_HEIGHT → depth tree ≤ max_depth
document_low ty doc tree e h = subst (λ (d : Data). depth d ≤ max_depth) (sym e) (omega (arith, shallow ty doc, h))

pub complement_low : (form : FormTree) (comp : CompTree) (tree : Data) → tree ≡ tree_of_complement form comp → form_height form ≤ GREATEST_HEIGHT → depth tree ≤ max_depth
complement_low form comp tree e h = subst (λ (d : Data). depth d ≤ max_depth) (sym e) (omega (arith, low form comp, h))

pub written_document : {X E : Type 0} (bytes : X → List ℕ) (r : Result X E) (ty : TyTree) (doc : DocTree) (tree : Data) → tree ≡ tree_of_document ty doc → has ty doc ≡ true
    → holds_i64s doc ≡ true → IfOk r (λ text. IsTextOf tree (bytes text)) → IfOk r (λ text. IsWrittenDocument ty doc (bytes text))
written_document bytes (Ok text) ty doc tree e of_type ints h = record { is_text = subst (λ (d : Data). IsTextOf d (bytes text)) e h; of_type = of_type; ints = ints }
written_document bytes (Err fault) ty doc tree e of_type ints h = tt
