use Rattle.std.proofs.Common.{◌≡◌, ◌+◌, ◌-◌}
use Rattle.edit_module.specs.Words.{joined}
use Rattle.edit_module.specs.Views.{word_tree}
use Rattle.lens_core.specs.Partition.{switch_places}
use Rattle.partition_lens.proofs.occurrences.switch_places.Given as goal

abbrev pub invariant-loop-done : goal.invariant-loop-done
invariant-loop-done l = joined (word_tree l.word) (switch_places l.first l.name (l.from + l.done) (l.items - l.done)) ≡ switch_places l.first l.name l.from l.items
