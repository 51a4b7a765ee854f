use Rattle.std.proofs.Common.{◌≡◌, [], map, replicate}
use Rattle.std.specs.Prelude.{vec_items}
use Rattle.partition_lens.proofs.orders.empty_lists.Given as goal

abbrev pub invariant-loop : goal.invariant-loop
invariant-loop l = map vec_items l.lists.items ≡ replicate l.counter []
