-- For the helpers of the answers: which answers have a line.
use Rattle.edit_journal.specs.declared.fault.EntryFault.TheVariants.{LineTooLong, NotJson, NotAnEntry, NotAnEdit}
use Rattle.edit_journal.specs.declared.fault.EntryFault.TheVariants.{NoMemory}
use Rattle.hub_run.specs.declared.answers.HubAnswer.{HubAnswer}
use Rattle.hub_run.specs.declared.answers.HubAnswer.TheVariants.{Carried, NoView, NoApply, NoEdit}

-- Running out of memory is not a fault of a line.
abbrev pub HasAnswerLine : HubAnswer → Type 0
HasAnswerLine (Carried words) = Unit {0}
HasAnswerLine NoView = Unit {0}
HasAnswerLine (NoApply at cause) = Unit {0}
HasAnswerLine (NoEdit LineTooLong) = Unit {0}
HasAnswerLine (NoEdit NotJson) = Unit {0}
HasAnswerLine (NoEdit NotAnEntry) = Unit {0}
HasAnswerLine (NoEdit NotAnEdit) = Unit {0}
HasAnswerLine (NoEdit NoMemory) = ⊥
