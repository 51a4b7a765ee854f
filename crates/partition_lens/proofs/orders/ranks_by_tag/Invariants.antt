use Rattle.std.proofs.Common.{◌≡◌, map, drop}
use Rattle.std.specs.Prelude.{vec_items}
use Rattle.partition_lens.specs.TagRanks.{ranks_by_tag}
use Rattle.partition_lens.proofs.TagRanks.{filled}
use Rattle.partition_lens.proofs.orders.ranks_by_tag.Given as goal

abbrev pub invariant-loop-place : goal.invariant-loop-place
invariant-loop-place l = filled (map vec_items l.ranks.items) 0 l.seq (drop l.place-index l.order) ≡ ranks_by_tag l.count l.seq l.order
