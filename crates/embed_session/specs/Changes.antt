-- The last change of a session: what is remembered of it, and its texts. Read it from the end: `HasUndoText`,
-- `HasChangeText`, `IsNoneMade`, `IsMade`, then `IsRemembered`.
use Rattle.std.specs.Prelude.{◌≡◌, ℕ, List, [], ◌∷◌, Option, None, Some, Result, Ok, IfOk, MatchOption}
use Rattle.serde_json.specs.Written.{compact_text}
use Rattle.texts.specs.declared.side.Side.{Side}
use Rattle.texts.specs.declared.side.Side.TheVariants as side
use Rattle.doc_values.specs.Documents.{DocTree}
use Rattle.doc_values.specs.Types.{TyTree}
use Rattle.edit_json.specs.WordJson.{tree_of_word}
use Rattle.edit_module.specs.Action.{act}
use Rattle.edit_module.specs.Changes.{ChangeTree}
use Rattle.edit_module.specs.Views.{change_tree}
use Rattle.edit_module.specs.Words.{WordTree}
use Rattle.edit_module.specs.declared.change.Change.{Change}
use Rattle.edit_journal.specs.EntryJson.{change_of_line, tree_of_text}
use Rattle.edit_journal.specs.declared.line.Line.{Line}
use Rattle.edit_session.specs.Step.{TripleTree}
use Rattle.edit_session.specs.Views.{triple_tree}
use Rattle.run_answers.specs.ItemRuns.{IsInStepFor}
use Rattle.lens_core.specs.Translation.{translate}
use Rattle.lens_forms.specs.Forms.{FormTree, left_type, right_type}
use Rattle.store_records.specs.RecordJson.{tree_of_change_record}
use Rattle.store_session.specs.Stands.{step_of}
use Rattle.edit_undo.specs.Undone.{BothTrees, BringsBack, undone}
use Rattle.edit_undo.specs.UndoneViews.{both_tree}
use Rattle.edit_undo.specs.declared.both.BothWords.{BothWords}
use Rattle.embed_session.specs.declared.outcome.Outcome.{Outcome}
use Rattle.embed_session.specs.declared.outcome.Outcome.TheVariants as outcome
use Rattle.embed_session.specs.declared.accepted.Accepted.{Accepted}

-- ---- what is remembered

-- the change of the line, and a session at this triple from before it
pub record IsRememberedAs (t : TripleTree) (line : Line) (a : Accepted) : Type 0 where
  pub change_is : change_of_line line ≡ Ok (change_tree a.change)
  pub before_is : triple_tree a.before.triple ≡ t

abbrev pub keeps_line : TripleTree → Line → Option Accepted → Type 0
keeps_line t line (Some a) = IsRememberedAs t line a
keeps_line t line None = ⊥

-- the change of a line is remembered, with this triple, if it was accepted; otherwise nothing is
abbrev pub IsRemembered : TripleTree → Line → Outcome → Option Accepted → Type 0
IsRemembered t line outcome.Done remembered = keeps_line t line remembered
IsRemembered t line end remembered = remembered ≡ None

-- the change of a line that ends so, if it was accepted; otherwise none
abbrev pub KeepsChange : Line → Outcome → Option Change → Type 0
KeepsChange line outcome.Done (Some change) = change_of_line line ≡ Ok (change_tree change)
KeepsChange line outcome.Done None = ⊥
KeepsChange line end found = found ≡ None

-- ---- whether there is a change

-- the lens of the form accepts the change at the consistent triple that is remembered with it
pub record IsMade (form : FormTree) (a : Accepted) : Type 0 where
  pub in_step : IsInStepFor form (triple_tree a.before.triple)
  pub after : TripleTree
  pub words : List WordTree
  pub step : step_of form (triple_tree a.before.triple) (change_tree a.change) ≡ Some (Ok (after, words))

-- no change was accepted last
abbrev pub IsNoneMade : FormTree → Option Accepted → Type 0
IsNoneMade form (Some a) = IsMade form a → ⊥
IsNoneMade form None = Unit {0}

-- ---- its payload

-- the text is the payload of the change; it is read back as its record, where some triple accepts the change
pub record IsChangeText (form : FormTree) (change : ChangeTree) (text : List ℕ) : Type 0 where
  pub is_text : text ≡ compact_text (tree_of_change_record change)
  pub reads_back : (t after : TripleTree) (words : List WordTree) → step_of form t change ≡ Some (Ok (after, words))
      → tree_of_text text ≡ Some (tree_of_change_record change)

abbrev pub HasChangeText : FormTree → Option Accepted → List ℕ → Type 0
HasChangeText form (Some a) text = IsChangeText form (change_tree a.change) text
HasChangeText form None text = ⊥

-- ---- the words that take it back

abbrev pub word_on : Side → BothTrees → WordTree
word_on side.Left words = words.left
word_on side.Right words = words.right

-- The change goes from the one triple to the other, and the words take its documents back.
pub record IsWayBack (form : FormTree) (before : TripleTree) (change : ChangeTree) (words : BothTrees) : Type 0 where
  pub after : TripleTree
  pub undoes : undone (left_type form) (right_type form) (translate form) before (change ∷ []) ≡ Some (after, words)
  pub back : BringsBack (left_type form) (right_type form) words after before

-- the words that were found take back what the change makes of the triple; there are none if the change is refused
abbrev pub HasWayBack : {E : Type 0} → Result (Option BothWords) E → FormTree → TripleTree → ChangeTree → Type 0
HasWayBack r form before change = IfOk r (λ found. MatchOption found
    (undone (left_type form) (right_type form) (translate form) before (change ∷ []) ≡ None)
    (λ words. IsWayBack form before change (both_tree words)))

-- the text is that of the word of this side, of the two that take the documents back over the change
pub record IsUndoText (form : FormTree) (a : Accepted) (s : Side) (text : List ℕ) : Type 0 where
  pub words : BothTrees
  pub way : IsWayBack form (triple_tree a.before.triple) (change_tree a.change) words
  pub is_text : text ≡ compact_text (tree_of_word (word_on s words))

-- the text is that of a word that takes the one document back to the other
pub record IsWordBack (ty : TyTree) (now was : DocTree) (text : List ℕ) : Type 0 where
  pub word : WordTree
  pub is_text : text ≡ compact_text (tree_of_word word)
  pub acts : act ty word now ≡ Ok was

abbrev pub HasUndoText : FormTree → Option Accepted → Side → List ℕ → Type 0
HasUndoText form (Some a) s text = IsUndoText form a s text
HasUndoText form None s text = ⊥
