use Rattle.std.proofs.Common.{◌≡◌, ◌-◌, map}
use Rattle.edit_module.specs.Words.{WordTree, word_of, joined}
use Rattle.edit_module.specs.Views.{primitive_tree}
use Rattle.edit_inverse.specs.Construct.{full_insertions}
use Rattle.edit_between.proofs.words.inserted.Given as goal

abbrev pub invariant-loop-piece : goal.invariant-loop-piece
invariant-loop-piece l =
    (rest : WordTree) → joined (word_of (map primitive_tree l.out.items)) (full_insertions (l.full - l.piece) rest) ≡ full_insertions l.full rest
