-- The trees of answers, and which answers have a line.
use Rattle.std.specs.Prelude.{◌≡◌, true, Option, Some, None, option_map}
use Rattle.edit_module.specs.Views.{word_tree}
use Rattle.edit_json.specs.WordJson.{counts_fit}
use Rattle.turn_link.specs.declared.event.Told.{Told}
use Rattle.turn_link.specs.declared.event.Told.TheVariants.{Sealed}
use Rattle.turn_link.specs.Links.{LinkTree}
use Rattle.turn_link.specs.Views.{told_tree, link_refusal}
use Rattle.run_link.specs.Reading.{cause_of}
use Rattle.run_link.specs.Items.{LinkAnswerTree, told, refused, no_event}
use Rattle.run_link.specs.declared.answers.LinkAnswer.{LinkAnswer}
use Rattle.run_link.specs.declared.answers.LinkAnswer.TheVariants as answer

-- the tree of an answer; an error that memory ran out has none
abbrev pub answer_tree : LinkAnswer → Option LinkAnswerTree
answer_tree (answer.Told of) = Some (told (told_tree of))
answer_tree (answer.Refused fault) = option_map refused (link_refusal fault)
answer_tree (answer.NoEvent fault) = option_map no_event (cause_of fault)

-- the step of a run that comes to this link with this answer
abbrev pub step_with : LinkTree → LinkAnswer → Option (LinkTree × LinkAnswerTree)
step_with s a = option_map (λ tree. (s, tree)) (answer_tree a)

-- a batch has a line if the counts in its word fit
abbrev pub HasToldLine : Told → Type 0
HasToldLine (Sealed b) = counts_fit (word_tree b.word.value) ≡ true
HasToldLine _ = Unit {0}

-- an answer has a line if what is told has; running out of memory is not an answer
abbrev pub IsSome : {A : Type 0} → Option A → Type 0
IsSome None = ⊥
IsSome (Some a) = Unit {0}

abbrev pub HasAnswerLine : LinkAnswer → Type 0
HasAnswerLine (answer.Told of) = HasToldLine of
HasAnswerLine (answer.Refused fault) = IsSome (link_refusal fault)
HasAnswerLine (answer.NoEvent fault) = IsSome (cause_of fault)
