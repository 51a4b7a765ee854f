-- The texts of a state: what a session shows of it, and what it is read from. Read it from the end: `ShowsText`,
-- `IsPartText`, `IsStateFault`, `IsStateText`, then `IsDocumentText` and `IsComplementText`.
use Rattle.std.specs.Prelude.{◌≡◌, ℕ, List, Bool, true, false, Option, Some}
use Rattle.serde_json.specs.Data.{Data}
use Rattle.serde_json.specs.Written.{compact_text}
use Rattle.doc_values.specs.Documents.{DocTree}
use Rattle.doc_values.specs.Types.{TyTree}
use Rattle.doc_values.specs.Typing.{has}
use Rattle.texts.specs.declared.side.Side.TheVariants as side
use Rattle.value_json.specs.DocumentJson.{tree_of_document, holds_i64s}
use Rattle.edit_journal.specs.EntryJson.{tree_of_text}
use Rattle.lens_forms.specs.Forms.{FormTree, left_type, right_type}
use Rattle.lens_core.specs.Complements.{CompTree, Fits}
use Rattle.complement_file.specs.ComplementJson.{tree_of_complement}
use Rattle.program_writing.specs.Canonical.{canonical_type}
use Rattle.edit_session.specs.Step.{TripleTree}
use Rattle.edit_session.specs.Views.{triple_tree}
use Rattle.run_answers.specs.Answers.{state_lines}
use Rattle.run_answers.specs.ItemRuns.{IsInStepFor}
use Rattle.store_records.specs.RecordJson.{tree_of_snapshot}
use Rattle.embed_session.specs.Changes.{IsNoneMade, HasChangeText, HasUndoText}
use Rattle.embed_session.specs.Steps.{form_of}
use Rattle.embed_session.specs.declared.outcome.Part.{Part}
use Rattle.embed_session.specs.declared.outcome.Part.TheVariants as part
use Rattle.embed_session.specs.declared.outcome.StateFault.{StateFault}
use Rattle.embed_session.specs.declared.outcome.StateFault.TheVariants as fault
use Rattle.embed_session.specs.declared.accepted.Accepted.{Accepted}
use Rattle.embed_session.specs.declared.running.Running.{Running}

-- ---- what is read

-- the document is of this type, its ints are i64, and this is its tree
pub record IsDocumentTree (ty : TyTree) (tree : Data) (doc : DocTree) : Type 0 where
  pub of_type : has ty doc ≡ true
  pub ints : holds_i64s doc ≡ true
  pub is : tree_of_document ty doc ≡ tree

-- the text is JSON of the tree of this document
pub record IsDocumentText (ty : TyTree) (text : List ℕ) (doc : DocTree) : Type 0 where
  pub tree : Data
  pub read : tree_of_text text ≡ Some tree
  pub of_tree : IsDocumentTree ty tree doc

-- the complement fits the form, and this is its tree
pub record IsComplementTree (form : FormTree) (tree : Data) (comp : CompTree) : Type 0 where
  pub fits : Fits form comp
  pub is : tree_of_complement form comp ≡ tree

-- the text is JSON of the tree of this complement
pub record IsComplementText (form : FormTree) (text : List ℕ) (comp : CompTree) : Type 0 where
  pub tree : Data
  pub read : tree_of_text text ≡ Some tree
  pub of_tree : IsComplementTree form tree comp

-- the three texts are of this left document, this complement and this right document, consistent or not
pub record IsStateText (form : FormTree) (left comp right : List ℕ) (t : TripleTree) : Type 0 where
  pub left_is : IsDocumentText (left_type form) left t.left
  pub comp_is : IsComplementText form comp t.comp
  pub right_is : IsDocumentText (right_type form) right t.right

-- the three texts are of a triple that is not consistent
pub record IsOutOfStep (form : FormTree) (left comp right : List ℕ) : Type 0 where
  pub triple : TripleTree
  pub is : IsStateText form left comp right triple
  pub not_in_step : IsInStepFor form triple → ⊥

-- the text is of some document of the type, or of some complement of the form; or it is of none
abbrev pub IsOfType : TyTree → List ℕ → Type 0
IsOfType ty text = (doc : DocTree) × IsDocumentText ty text doc

abbrev pub IsOfForm : FormTree → List ℕ → Type 0
IsOfForm form text = (comp : CompTree) × IsComplementText form text comp

abbrev pub IsNotOfType : TyTree → List ℕ → Type 0
IsNotOfType ty text = (doc : DocTree) → IsDocumentText ty text doc → ⊥

abbrev pub IsNotOfForm : FormTree → List ℕ → Type 0
IsNotOfForm form text = (comp : CompTree) → IsComplementText form text comp → ⊥

-- The fault is the first one of the three texts, in this order; running out of memory says nothing.
abbrev pub IsStateFault : FormTree → List ℕ → List ℕ → List ℕ → StateFault → Type 0
IsStateFault form left comp right fault.NotLeft = IsNotOfType (left_type form) left
IsStateFault form left comp right fault.NotComplement = IsOfType (left_type form) left × IsNotOfForm form comp
IsStateFault form left comp right fault.NotRight =
    IsOfType (left_type form) left × IsOfForm form comp × IsNotOfType (right_type form) right
IsStateFault form left comp right fault.NotConsistent = IsOutOfStep form left comp right
IsStateFault form left comp right fault.NoMemory = Unit {0}

-- ---- what is shown

-- the text is the compact text of this tree, and a reader of JSON gives the tree back
pub record IsTextOf (tree : Data) (text : List ℕ) : Type 0 where
  pub compact : text ≡ compact_text tree
  pub reads_back : tree_of_text text ≡ Some tree

-- the text of a document of a type, of which the document can be read
pub record IsWrittenDocument (ty : TyTree) (doc : DocTree) (text : List ℕ) : Type 0 where
  pub is_text : IsTextOf (tree_of_document ty doc) text
  pub of_type : has ty doc ≡ true
  pub ints : holds_i64s doc ≡ true

-- the text of a complement of a form, of which the complement can be read
pub record IsWrittenComplement (form : FormTree) (comp : CompTree) (text : List ℕ) : Type 0 where
  pub is_text : IsTextOf (tree_of_complement form comp) text
  pub fits : Fits form comp

-- the payload of a snapshot of a triple, of which both documents can be read
pub record IsSnapshotText (form : FormTree) (t : TripleTree) (text : List ℕ) : Type 0 where
  pub is_text : IsTextOf (tree_of_snapshot form t.left t.comp t.right) text
  pub in_step : IsInStepFor form t
  pub left_ints : holds_i64s t.left ≡ true
  pub right_ints : holds_i64s t.right ≡ true

-- the text of a part, for a form at a triple where this was accepted last
abbrev pub IsPartText : FormTree → TripleTree → Option Accepted → Part → List ℕ → Type 0
IsPartText form t last part.State text = text ≡ state_lines form t
IsPartText form t last part.Left text = IsWrittenDocument (left_type form) t.left text
IsPartText form t last part.Complement text = IsWrittenComplement form t.comp text
IsPartText form t last part.Right text = IsWrittenDocument (right_type form) t.right text
IsPartText form t last part.LeftType text = text ≡ canonical_type (left_type form)
IsPartText form t last part.RightType text = text ≡ canonical_type (right_type form)
IsPartText form t last part.Snapshot text = IsSnapshotText form t text
IsPartText form t last part.Change text = HasChangeText form last text
IsPartText form t last part.UndoLeft text = HasUndoText form last side.Left text
IsPartText form t last part.UndoRight text = HasUndoText form last side.Right text

-- the part is one of the last change
abbrev pub is_of_change : Part → Bool
is_of_change part.Change = true
is_of_change part.UndoLeft = true
is_of_change part.UndoRight = true
is_of_change p = false

-- the part is one of the last change, and there is none
pub record HasNoChange (form : FormTree) (last : Option Accepted) (p : Part) : Type 0 where
  pub of_change : is_of_change p ≡ true
  pub none : IsNoneMade form last

-- ---- showing

-- the text is that of the part, and all else stays
pub record IsShow (before : Running) (p : Part) (after : Running) : Type 0 where
  pub session : after.session ≡ before.session
  pub number : after.number ≡ before.number
  pub accepted : after.accepted ≡ before.accepted
  pub text : IsPartText (form_of before) (triple_tree before.session.triple) before.accepted p after.text.items

-- the part is shown; or there is no text of it, and nothing changes
abbrev pub ShowsText : Running → Part → Bool → Running → Type 0
ShowsText before p true after = IsShow before p after
ShowsText before p false after = HasNoChange (form_of before) before.accepted p × (after ≡ before)
