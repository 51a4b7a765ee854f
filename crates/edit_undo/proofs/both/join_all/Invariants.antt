use Rattle.std.proofs.Common.{◌≡◌, length, map}
use Rattle.edit_module.specs.Views.{primitive_tree}
use Rattle.edit_module.specs.Words.{word_of, joined}
use Rattle.edit_undo.specs.Stepping.{joined_all}
use Rattle.edit_undo.specs.UndoneViews.{both_trees}
use Rattle.edit_undo.proofs.both.join_all.Given as goal

abbrev pub decreases-words : goal.decreases-words
decreases-words l = length l.parts.items

-- behind what is joined come the parts that are left
abbrev pub invariant-words : goal.invariant-words
invariant-words l = record {
  left_words : joined (word_of (map primitive_tree l.left.items)) (joined_all (both_trees l.parts.items)).left ≡ (joined_all (both_trees l.fn.parts.items)).left;
  right_words : joined (word_of (map primitive_tree l.right.items)) (joined_all (both_trees l.parts.items)).right ≡ (joined_all (both_trees l.fn.parts.items)).right;
}
