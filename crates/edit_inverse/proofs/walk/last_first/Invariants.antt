use Rattle.std.proofs.Common.{◌≡◌, length, map}
use Rattle.edit_module.specs.Views.{primitive_tree, word_tree}
use Rattle.edit_module.specs.Words.{word_of, joined}
use Rattle.edit_inverse.specs.Steps.{backwards}
use Rattle.edit_inverse.proofs.walk.last_first.Given as goal

abbrev pub decreases-words : goal.decreases-words
decreases-words l = length l.parts.items

abbrev pub invariant-words : goal.invariant-words
invariant-words l =
    joined (word_of (map primitive_tree l.out.items)) (backwards (map word_tree l.parts.items))
    ≡ backwards (map word_tree l.fn.parts.items)
