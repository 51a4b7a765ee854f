use Rattle.std.proofs.Common.{arith}
use Rattle.tag_seq.proofs.Totals.{one-le}
use Rattle.tag_seq.proofs.node.setting.total_after.Goals as goal

pub plus-requires : goal.plus-requires
plus-requires c = λ t. omega (arith, c.in_ok-less.ensures t, c.in_ok-added.ensures t, c.requires.fits t, one-le c.args.tag t)
