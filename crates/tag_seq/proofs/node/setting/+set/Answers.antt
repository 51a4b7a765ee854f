use Rattle.std.proofs.Common.{arith, ◌<◌, length}
use Rattle.tag_seq.specs.Trees.{tags}
use Rattle.tag_seq.proofs.Totals.{totals_within}
use Rattle.tag_seq.proofs.Setting.{count_at, totals_set}
use Rattle.tag_seq.proofs.node.setting.+set.Goals as goal

pub total_after-requires-clause-there : goal.total_after-requires-clause-there
total_after-requires-clause-there t c =
    let there : c.args.at < length (tags c.node.inside.left) = omega arith in
    λ t'. rw (c.in_ok-tree-in-Node.ensures.old, c.node.invariant.totals.each t') (count_at (tags c.node.inside.left) c.args.at t' there)

pub total_after-requires-clause-fits : goal.total_after-requires-clause-fits
total_after-requires-clause-fits t c = totals_within _ _ _ c.node.invariant.totals

pub fork-requires-clause-totals : goal.fork-requires-clause-totals
fork-requires-clause-totals t c = totals_set c.node.inside.left_size _ c.args.at c.args.tag _ c.node.inside.left_counts _ (tags c.node.inside.left) _ c.node.invariant.totals c.if-at-node.true c.in_ok-tree-in-Node.ensures.old c.in_ok-tree-in-Node.ensures.tags c.in_ok-front-in-Node.ensures.size c.in_ok-front-in-Node.ensures.each
