use Rattle.std.proofs.Common.{◌≡◌, ◌-◌, map}
use Rattle.edit_module.specs.Words.{WordTree, word_of, joined}
use Rattle.edit_module.specs.Views.{primitive_tree}
use Rattle.edit_between.specs.Between.{prunes}
use Rattle.edit_between.proofs.words.push_prunes.Given as goal

abbrev pub invariant-loop-child : goal.invariant-loop-child
invariant-loop-child l =
    (rest : WordTree) → joined (word_of (map primitive_tree l.out.items)) (prunes (l.count - l.child) rest) ≡ joined (word_of (map primitive_tree l.fn.out.items)) (prunes l.count rest)
