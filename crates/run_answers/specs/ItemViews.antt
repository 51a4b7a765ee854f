-- The trees that answers stand for, and the steps that they make.
use Rattle.std.specs.Prelude.{◌≡◌, Option, Some, option_map, Ok}
use Rattle.texts.specs.Sides.{other}
use Rattle.edit_module.specs.Changes.{carried_to, one, group}
use Rattle.edit_module.specs.Views.{entry_tree, word_tree, entry_trees, word_trees}
use Rattle.edit_journal.specs.Reading.{cause_of}
use Rattle.edit_session.specs.Step.{TripleTree}
use Rattle.edit_session.specs.Run.{carried, no_apply, group_carried, group_no_apply, no_entry}
use Rattle.run_answers.specs.ItemRuns.{JournalItem, JournalAnswer}
use Rattle.run_answers.specs.declared.answers.PairAnswer.{PairAnswer}
use Rattle.run_answers.specs.declared.answers.PairAnswer.TheVariants.{Carried, NoApply, GroupCarried, GroupNoApply}
use Rattle.run_answers.specs.declared.answers.PairAnswer.TheVariants.{NoEntry}

-- the tree of an answer; there is none for a line of which nothing is known since memory ran out
abbrev pub answer_tree : PairAnswer → Option JournalAnswer
answer_tree (Carried entry w) = Some (carried (other entry.side) (word_tree w))
answer_tree (NoApply at cause) = Some (no_apply at cause)
answer_tree (GroupCarried entries words) = Some (group_carried (carried_to (entry_trees entries) (word_trees words)))
answer_tree (GroupNoApply part at cause) = Some (group_no_apply part at cause)
answer_tree (NoEntry fault) = option_map no_entry (cause_of fault)

-- the step of a run that comes to this triple with this answer
abbrev pub step_with : TripleTree → PairAnswer → Option (TripleTree × JournalAnswer)
step_with t answer = option_map (λ a. (t, a)) (answer_tree answer)

-- the answer to a change that was translated has the change of this item
abbrev pub IsOfItem : JournalItem → PairAnswer → Type 0
IsOfItem item (Carried entry w) = item ≡ Ok (one (entry_tree entry))
IsOfItem item (NoApply at cause) = Unit {0}
IsOfItem item (GroupCarried entries words) = item ≡ Ok (group (entry_trees entries))
IsOfItem item (GroupNoApply part at cause) = Unit {0}
IsOfItem item (NoEntry fault) = Unit {0}
