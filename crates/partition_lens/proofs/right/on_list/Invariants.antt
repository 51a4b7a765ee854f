use Rattle.std.proofs.Common.{◌≡◌, map, drop, option_map}
use Rattle.edit_module.specs.Words.{word_of}
use Rattle.edit_module.specs.Views.{primitive_tree, word_tree}
use Rattle.lens_core.specs.Emitted.{behind, one_by_one}
use Rattle.lens_core.specs.Partition.{part_occurrence}
use Rattle.partition_lens.proofs.right.on_list.Given as goal

abbrev pub invariant-loop-primitive : goal.invariant-loop-primitive
invariant-loop-primitive l =
    option_map (behind (word_tree l.row.word)) (one_by_one (part_occurrence l.first l.name l.number) l.row.tags (word_of (map primitive_tree (drop l.primitive-index l.primitives))))
    ≡ one_by_one (part_occurrence l.first l.name l.number) l.seq (word_tree l.word)
