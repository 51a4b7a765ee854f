-- The words of a group's edits as the loops that write them go over them.
use Rattle.std.proofs.Common.{ℕ, List, drop, map}
use Rattle.json.specs.Token.{Token}
use Rattle.json.specs.Tree.{items_tokens}
use Rattle.serde_json.specs.Written.{items_outline}
use Rattle.edit_module.specs.Views.{word_trees}
use Rattle.edit_module.specs.declared.word.Word.{Word}
use Rattle.view_hub.specs.Views.{hub_carried_tree}
use Rattle.view_hub.specs.declared.side.HubCarried.{HubCarried}
use Rattle.hub_run.specs.Answers.{items_of_words}
use Rattle.hub_session.specs.HubAnswers.{items_of_carried}

-- the tokens of the words of the edits from a place on, with what ends the array
abbrev pub carried_from : List HubCarried → ℕ → List Token
carried_from cs i = items_tokens (items_outline (items_of_carried (map hub_carried_tree (drop i cs))))

-- the tokens of the words from a place on, with what ends the array
abbrev pub words_from : List Word → ℕ → List Token
words_from ws i = items_tokens (items_outline (items_of_words (word_trees (drop i ws))))
