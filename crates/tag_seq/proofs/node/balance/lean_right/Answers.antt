use Rattle.tag_seq.proofs.Totals.{totals_within}
use Rattle.tag_seq.proofs.node.balance.lean_right.Goals as goal

pub and-requires-clause-ours : goal.and-requires-clause-ours
and-requires-clause-ours c = totals_within _ _ _ c.requires.totals

pub and-requires-clause-theirs : goal.and-requires-clause-theirs
and-requires-clause-theirs c = totals_within _ _ _ c.node.invariant.totals
