use Rattle.std.proofs.Common.{◌≡◌, ◌++◌, ◌∷◌, drop, false}
use Rattle.serde_json.specs.Written.{items_text}
use Rattle.edit_module.specs.Views.{word_trees}
use Rattle.hub_run.specs.Answers.{items_of_words}
use Rattle.hub_run.proofs.answers.add_words.Given as goal

-- the text so far, and that of the words that are left, are that of all
abbrev pub invariant-loop-word : goal.invariant-loop-word
invariant-loop-word l =
    l.all.items ++ items_text l.later (items_of_words (word_trees (drop l.word-index l.words)))
    ≡ l.fn.line.items ++ 91 ∷ items_text false (items_of_words (word_trees l.words))
