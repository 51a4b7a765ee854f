-- The trees that answers stand for.
use Rattle.std.specs.Prelude.{Option, Some, option_map}
use Rattle.edit_journal.specs.Reading.{cause_of}
use Rattle.view_hub.specs.Hubs.{HubTree}
use Rattle.view_hub.specs.Views.{hub_carried_tree}
use Rattle.hub_run.specs.Answers.{HubAnswerTree, carried, no_view, no_apply, no_edit}
use Rattle.hub_run.specs.declared.answers.HubAnswer.{HubAnswer}
use Rattle.hub_run.specs.declared.answers.HubAnswer.TheVariants.{Carried, NoView, NoApply, NoEdit}

-- the tree of an answer; there is none for a line of which nothing is known since memory ran out
abbrev pub answer_tree : HubAnswer → Option HubAnswerTree
answer_tree (Carried words) = Some (carried (hub_carried_tree words))
answer_tree NoView = Some no_view
answer_tree (NoApply at cause) = Some (no_apply at cause)
answer_tree (NoEdit fault) = option_map no_edit (cause_of fault)

-- the step of a run that comes to this hub with this answer
abbrev pub step_with : HubTree → HubAnswer → Option (HubTree × HubAnswerTree)
step_with h answer = option_map (λ a. (h, a)) (answer_tree answer)
