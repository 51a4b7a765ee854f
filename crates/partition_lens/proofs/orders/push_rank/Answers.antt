use Rattle.std.proofs.Common.{arith}
use Rattle.partition_lens.proofs.TagRanks.{rank_put, rank_past}
use Rattle.partition_lens.proofs.orders.push_rank.Goals as goal

pub returns-then-place-len : goal.returns-then-place-len
returns-then-place-len c =
    rank_past c.args.ranks.now.items c.args.tag c.args.rank (omega (arith, c.args.ranks.now.ok.0, c.len.ensures, c.if-place-len.true))

pub returns : goal.returns
returns c =
    rank_put c.args.ranks.now.items c.args.tag c.args.rank c.index_mut.result.now c.push_to.new.list
    (omega (arith, c.args.ranks.now.ok.0, c.len.ensures, c.if-place-len.false)) c.index_mut.ensures.value c.in_ok-push_to.ensures
