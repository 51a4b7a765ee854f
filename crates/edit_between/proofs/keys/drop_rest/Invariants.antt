use Rattle.std.proofs.Common.{◌≡◌, map, drop}
use Rattle.edit_module.specs.Words.{WordTree, word_of, joined}
use Rattle.edit_module.specs.Views.{primitive_tree}
use Rattle.edit_between.specs.Between.{drop_keys}
use Rattle.edit_between.proofs.keys.drop_rest.Given as goal

abbrev pub invariant-loop-i : goal.invariant-loop-i
invariant-loop-i l =
    (rest : WordTree) → joined (word_of (map primitive_tree l.out.items)) (drop_keys (drop l.i l.keys) rest)
    ≡ joined (word_of (map primitive_tree l.fn.out.items)) (drop_keys (drop l.from l.keys) rest)
