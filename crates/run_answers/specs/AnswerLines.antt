-- For the helpers of the answers: which answers have a line.
use Rattle.std.specs.Prelude.{◌≡◌, true, length}
use Rattle.std.specs.List.{list_all}
use Rattle.edit_module.specs.Views.{word_tree, word_trees}
use Rattle.edit_json.specs.WordJson.{counts_fit}
use Rattle.edit_journal.specs.declared.fault.EntryFault.TheVariants.{LineTooLong, NotJson, NotAnEntry, NotAnEdit}
use Rattle.edit_journal.specs.declared.fault.EntryFault.TheVariants.{NoMemory}
use Rattle.run_answers.specs.declared.answers.PairAnswer.{PairAnswer}
use Rattle.run_answers.specs.declared.answers.PairAnswer.TheVariants.{Carried, NoApply, GroupCarried, GroupNoApply}
use Rattle.run_answers.specs.declared.answers.PairAnswer.TheVariants.{NoEntry}

-- A word has a line if its counts fit, and words of a group if each has and there is one for each entry. Running out of
-- memory is not a fault of a line.
abbrev pub HasAnswerLine : PairAnswer → Type 0
HasAnswerLine (Carried entry w) = counts_fit (word_tree w) ≡ true
HasAnswerLine (NoApply at cause) = Unit {0}
HasAnswerLine (GroupCarried group words) =
    (length words ≡ length group) × (list_all counts_fit (word_trees words) ≡ true)
HasAnswerLine (GroupNoApply part at cause) = Unit {0}
HasAnswerLine (NoEntry LineTooLong) = Unit {0}
HasAnswerLine (NoEntry NotJson) = Unit {0}
HasAnswerLine (NoEntry NotAnEntry) = Unit {0}
HasAnswerLine (NoEntry NotAnEdit) = Unit {0}
HasAnswerLine (NoEntry NoMemory) = ⊥
