-- A hub in a store beside a hub over a script, over lines that are no groups.
-- Read it from the end: `HaveSameRun`, `AreSameAnswers`, `stored_as`, then `HasNoGroup`.
use Rattle.std.specs.Prelude.{◌≡◌, ◌⊎◌, ℕ, List, Bool, true, false, Option, None, Some, Ok, Err, is_some}
use Rattle.std.specs.List.{AllByRecursion}
use Rattle.serde_json.specs.Data.{Data}
use Rattle.edit_journal.specs.EntryJson.{group_items, tree_of_text}
use Rattle.edit_journal.specs.declared.line.Line.{Line}
use Rattle.edit_journal.specs.declared.line.Line.TheVariants.{Text, TooLong}
use Rattle.hub_records.specs.HubChanges.{one}
use Rattle.hub_run.specs.Runs.{HubItem, HubState}
use Rattle.hub_session.specs.HubAnswers.{hub_change_text}
use Rattle.run_scripts.specs.LineRuns as lines
use Rattle.run_scripts.specs.Answers.{Answer}
use Rattle.store_run.specs.StoreRuns.{any_line_refused, last_stored, text_of}
use Rattle.store_run.specs.declared.session.StoredAnswer.{StoredAnswer}

-- ---- lines that are no groups

-- the tree of a text has the form of a group, whether or not its edits are edits
abbrev pub is_group_tree : Option Data → Bool
is_group_tree (Some d) = is_some (group_items d)
is_group_tree None = false

abbrev pub is_group : Line → Bool
is_group (Text bytes) = is_group_tree (tree_of_text bytes)
is_group TooLong = false

-- none of these lines has the form of a group: `hub` takes them
abbrev pub HasNoGroup : List Line → Type 0
HasNoGroup lines = AllByRecursion (λ line. is_group line ≡ false) lines

-- ---- answers

-- the payload of an item with an answer that is refused or not: that of the change, if it is accepted
abbrev pub edit_payload : HubItem → Bool → Option (List ℕ)
edit_payload (Ok e) true = None
edit_payload (Ok e) false = Some (hub_change_text (one e))
edit_payload (Err fault) refused = None

-- what `hub` makes of an item, as a store has it: the same state and the same line, and the payload of the change
abbrev pub stored_as : HubItem → HubState × Answer → HubState × StoredAnswer
stored_as item made = (made.0, record { line = made.1.line; payload = edit_payload item made.1.refused })

-- From this state on, the steps of a hub in a store and those of a hub over a script have the same answer lines, refuse
-- an item alike and come to the same state.
pub record AreSameAnswers (t : HubState) (steps : List (HubState × StoredAnswer))
    (others : List (HubState × Answer)) : Type 0 where
  pub text : text_of steps ≡ lines.answers_text others
  pub refused : any_line_refused steps ≡ lines.any_answer_refused others
  pub at_last : last_stored t steps ≡ lines.last_state t others

-- both runs come to their end, by the same answers
pub record HaveSameAnswers (t : HubState) (run : Option (List (HubState × StoredAnswer)))
    (other : Option (List (HubState × Answer))) : Type 0 where
  pub steps : List (HubState × StoredAnswer)
  pub others : List (HubState × Answer)
  pub is : run ≡ Some steps
  pub other_is : other ≡ Some others
  pub same : AreSameAnswers t steps others

-- both runs come to their end, by the same answers; or neither does
abbrev pub HaveSameRun : HubState → Option (List (HubState × StoredAnswer)) → Option (List (HubState × Answer))
    → Type 0
HaveSameRun t run other = (run ≡ None) × (other ≡ None) ⊎ HaveSameAnswers t run other
