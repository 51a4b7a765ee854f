use Rattle.std.proofs.Common.{◌≡◌, ◌+◌, ◌*◌, drop, map}
use Rattle.edit_module.specs.Words.{word_of}
use Rattle.edit_module.specs.Views.{primitive_tree, word_tree}
use Rattle.edit_json.specs.WordJson.{counts_fit}
use Rattle.edit_json.specs.Depths.{primitive_depth, word_depth}
use Rattle.edit_json.proofs.fits.+fits.Given as goal

abbrev pub decreases-has_tree : goal.decreases-has_tree
decreases-has_tree l = 2 * word_depth (word_tree l.word.now)

abbrev pub decreases-counts_fit : goal.decreases-counts_fit
decreases-counts_fit l = 2 * primitive_depth (primitive_tree l.primitive.now) + 1

-- what is left fits exactly where all do
abbrev pub invariant-has_tree-loop-primitive : goal.invariant-has_tree-loop-primitive
invariant-has_tree-loop-primitive l = counts_fit (word_tree l.word) ≡ counts_fit (word_of (map primitive_tree (drop l.primitive-index l.primitive-items)))
