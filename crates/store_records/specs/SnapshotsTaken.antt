-- Snapshots that are taken from the tokens of a payload, for a store of a lens.
use Rattle.std.specs.Prelude.{◌≡◌, ℕ, List, Some}
use Rattle.json.specs.Token.{Token}
use Rattle.serde_json.specs.Data.{Data}
use Rattle.doc_values.specs.Documents.{doc_tree}
use Rattle.value_json.specs.DocumentJson.{document_of}
use Rattle.edit_session.specs.declared.triple.Triple.{Triple}
use Rattle.json_tokens.specs.TreesAt.{read_at}
use Rattle.lens_core.specs.Complements.{comp_tree}
use Rattle.lens_forms.specs.Forms.{FormTree, left_type, right_type}
use Rattle.store_records.specs.RecordJson.{snapshot_record, three_parts, record_of, record_in}
use Rattle.store_records.specs.StoredComplements.{complement_of}

-- the trees of a complement, of a left document and of a right document are read as those of the triple
pub record AreParts (l : FormTree) (p : Data × Data × Data) (t : Triple) : Type 0 where
  pub left : document_of (left_type l) p.1 ≡ Some (doc_tree t.left)
  pub comp : complement_of l p.0 ≡ Some (comp_tree t.comp)
  pub right : document_of (right_type l) p.2 ≡ Some (doc_tree t.right)

-- the first value has the three parts of a triple, or is the record of a snapshot of it
abbrev pub TakesParts : FormTree → ℕ → List Token → Triple → List Token → Type 0
TakesParts l depth old t new =
    (p : Data × Data × Data) × (read_at three_parts depth old ≡ Some (p, new)) × AreParts l p t

abbrev pub TakesSnapshot : FormTree → ℕ → List Token → Triple → List Token → Type 0
TakesSnapshot l depth old t new =
    (p : Data × Data × Data) × (read_at record_of depth old ≡ Some (snapshot_record p, new)) × AreParts l p t

-- the payload is the record of a snapshot of a triple
abbrev pub IsSnapshotOf : FormTree → List ℕ → Triple → Type 0
IsSnapshotOf l payload t = (p : Data × Data × Data) × (record_in payload ≡ Some (snapshot_record p)) × AreParts l p t
