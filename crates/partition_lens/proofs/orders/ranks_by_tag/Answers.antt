use Rattle.std.proofs.Common.{map}
use Rattle.std.specs.Prelude.{vec_items}
use Rattle.partition_lens.proofs.TagRanks.{filled_start, filled_kept, filled_end}
use Rattle.partition_lens.proofs.orders.ranks_by_tag.Goals as goal

pub loop-place-init : goal.loop-place-init
loop-place-init c = filled_start c.args.count c.args.seq.now c.args.order.now (map vec_items c.in_ok-ranks.ranks.items) c.in_ok-ranks.ensures

pub loop-place-preserved : goal.loop-place-preserved
loop-place-preserved c =
    filled_kept (map vec_items c.loop-place.ranks.items) (map vec_items c.push_rank.new.ranks.items) c.args.seq.now c.args.order.now
    c.loop-place.place-index c.tag_at-tag.result c.rank.result _
    c.loop-place-test.true c.tag_at-tag.ensures c.rank.ensures c.in_ok-push_rank.ensures c.loop-place.invariant

pub returns : goal.returns
returns c =
    filled_end (map vec_items c.loop-place.ranks.items) c.args.seq.now c.args.order.now c.loop-place.place-index _
    c.loop-place-test.false c.loop-place.invariant
