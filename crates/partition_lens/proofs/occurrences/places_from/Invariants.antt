use Rattle.std.proofs.Common.{◌≡◌, map}
use Rattle.std.specs.List.{range_with_len}
use Rattle.lens_core.specs.Partition.{place_from}
use Rattle.partition_lens.proofs.occurrences.places_from.Given as goal

abbrev pub invariant-loop-place : goal.invariant-loop-place
invariant-loop-place l = l.places.items ≡ map (place_from l.tag l.seq l.order) (range_with_len 0 l.place)
