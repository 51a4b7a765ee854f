use Rattle.std.proofs.Common.{◌≡◌, map, take}
use Rattle.std.specs.Prelude.{slice_index}
use Rattle.partition_lens.proofs.orders.reordered.Given as goal

abbrev pub invariant-loop-place : goal.invariant-loop-place
invariant-loop-place l = l.list.items ≡ map (slice_index l.seq) (take l.place-index l.order)
