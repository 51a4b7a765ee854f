use Rattle.std.proofs.Common.{◌≡◌, ◌+◌, map, take, drop}
use Rattle.texts.specs.Keys.{key_rank}
use Rattle.edit_module.specs.Words.{WordTree, word_of, joined}
use Rattle.edit_module.specs.Views.{primitive_tree}
use Rattle.edit_between.specs.Between.{drop_keys}
use Rattle.edit_between.proofs.keys.drop_before.Given as goal

abbrev pub invariant-loop-i : goal.invariant-loop-i
invariant-loop-i l = record {
  left :
      (rest : WordTree) → joined (word_of (map primitive_tree l.out.items)) (drop_keys (take (key_rank l.key (drop l.i l.keys)) (drop l.i l.keys)) rest)
      ≡ joined (word_of (map primitive_tree l.fn.out.items)) (drop_keys (take (key_rank l.key (drop l.from l.keys)) (drop l.from l.keys)) rest);
  count : l.i + key_rank l.key (drop l.i l.keys) ≡ l.from + key_rank l.key (drop l.from l.keys);
}
