-- What texts are the JSON of.
use Rattle.std.specs.Prelude.{◌≡◌, ℕ, List, Some}
use Rattle.serde_json.specs.Data.{Data}
use Rattle.doc_values.specs.Documents.{DocTree}
use Rattle.doc_values.specs.Types.{TyTree}
use Rattle.value_json.specs.DocumentJson.{document_of}
use Rattle.edit_journal.specs.EntryJson.{tree_of_text}
use Rattle.lens_forms.specs.Forms.{FormTree}
use Rattle.lens_core.specs.Complements.{CompTree}
use Rattle.complement_file.specs.Reading.{IsComplement}

-- the text is JSON of a tree of which this is the document of the type
abbrev pub IsDocumentOf : TyTree → List ℕ → DocTree → Type 0
IsDocumentOf ty text doc = (tree : Data) × (tree_of_text text ≡ Some tree) × (document_of ty tree ≡ Some doc)

-- the text is JSON of a tree of which this is the complement of the form
abbrev pub IsComplementOf : FormTree → List ℕ → CompTree → Type 0
IsComplementOf form text comp = (tree : Data) × (tree_of_text text ≡ Some tree) × IsComplement form tree comp
