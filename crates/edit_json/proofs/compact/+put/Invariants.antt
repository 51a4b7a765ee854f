use Rattle.std.proofs.Common.{◌≡◌, ◌+◌, ◌*◌, ◌++◌, map, drop}
use Rattle.edit_module.specs.Words.{word_of}
use Rattle.edit_module.specs.Views.{primitive_tree, word_tree}
use Rattle.edit_json.specs.WordJson.{numbers_fit}
use Rattle.edit_json.specs.Depths.{primitive_depth, word_depth}
use Rattle.edit_json.proofs.Tokens.{tokens_from}
use Rattle.edit_json.proofs.compact.+put.Given as goal

abbrev pub decreases-put_word : goal.decreases-put_word
decreases-put_word l = 3 * word_depth (word_tree l.word.now)

abbrev pub decreases-put_primitive : goal.decreases-put_primitive
decreases-put_primitive l = 3 * primitive_depth (primitive_tree l.primitive.now) + 2

abbrev pub decreases-put_inner : goal.decreases-put_inner
decreases-put_inner l = 3 * word_depth (word_tree l.word.now) + 1

abbrev pub decreases-put_switch : goal.decreases-put_switch
decreases-put_switch l = 3 * word_depth (word_tree l.word.now) + 1

abbrev pub decreases-put_mod : goal.decreases-put_mod
decreases-put_mod l = 3 * word_depth (word_tree l.word.now) + 1

abbrev pub invariant-put_word-loop-primitive : goal.invariant-put_word-loop-primitive
invariant-put_word-loop-primitive l =
    (l.out.before ≡ l.initial.out.before)
    × (l.out.tokens ++ tokens_from l.primitive-items l.primitive-index ≡ l.initial.out.tokens ++ tokens_from l.primitive-items 0)
    × (numbers_fit (word_tree l.word) ≡ numbers_fit (word_of (map primitive_tree (drop l.primitive-index l.primitive-items))))
