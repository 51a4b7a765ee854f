use Rattle.std.proofs.Common.{◌≡◌, map, drop, option_map, length}
use Rattle.edit_module.specs.Words.{word_of}
use Rattle.edit_module.specs.Views.{primitive_tree, word_tree}
use Rattle.doc_values.specs.Types.{fields_tree}
use Rattle.lens_core.specs.Emitted.{behind, one_by_one}
use Rattle.lens_core.specs.Partition.{part_item}
use Rattle.partition_lens.proofs.items.on_item.Given as goal

abbrev pub invariant-loop-primitive : goal.invariant-loop-primitive
invariant-loop-primitive l = record {
  long : length l.row.tags ≡ length l.seq;
  left :
      option_map (behind (word_tree l.row.word)) (one_by_one (part_item (fields_tree l.tags) l.place) l.row.tags (word_of (map primitive_tree (drop l.primitive-index l.primitives))))
      ≡ one_by_one (part_item (fields_tree l.tags) l.place) l.seq (word_tree l.word);
}
