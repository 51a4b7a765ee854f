-- The tokens of a word and of an array of numbers, item by item.
use Rattle.std.proofs.Common.{ℕ, List, map, drop}
use Rattle.json.specs.Token.{Token}
use Rattle.json.specs.Tree.{items_tokens}
use Rattle.serde_json.specs.Written.{items_outline}
use Rattle.value_json.specs.Numbers.{count_items}
use Rattle.edit_module.specs.Words.{word_of}
use Rattle.edit_module.specs.Views.{primitive_tree}
use Rattle.edit_module.specs.declared.word.Primitive.{Primitive}
use Rattle.edit_json.specs.WordJson.{items_of_word}

-- the tokens of the primitives from a place of a word on, and of the numbers from a place of a list on, with what ends the array
abbrev pub tokens_from : List Primitive → ℕ → List Token
tokens_from ps i = items_tokens (items_outline (items_of_word (word_of (map primitive_tree (drop i ps)))))

abbrev pub numbers_from : List ℕ → ℕ → List Token
numbers_from ns i = items_tokens (items_outline (count_items (drop i ns)))
