use Rattle.std.proofs.Common.{◌≡◌, ◌-◌, ◌≤◌, length}
use Rattle.edit_module.specs.Views.{word_tree}
use Rattle.lens_core.specs.Emitted.{behind}
use Rattle.lens_core.specs.Partition.{delete_occurrences}
use Rattle.partition_lens.proofs.occurrences.delete_occurrences.Given as goal

abbrev pub invariant-loop : goal.invariant-loop
invariant-loop l = record {
  long : l.items - l.counter ≤ length l.row.tags;
  left : behind (word_tree l.row.word) (delete_occurrences l.tag l.row.tags (l.items - l.counter)) ≡ delete_occurrences l.tag l.seq l.items;
}
