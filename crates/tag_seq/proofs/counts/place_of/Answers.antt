use Rattle.std.proofs.Common.{arith, ◌+◌, ◌-◌, ◌/◌}
use Rattle.tag_seq.proofs.Numbers.{pairs_before-le-length, below_before, above_before}
use Rattle.tag_seq.proofs.counts.place_of.Goals as goal

pub loop-low-init : goal.loop-low-init
loop-low-init c = record { low = omega arith; high = pairs_before-le-length c.args.tag c.args.pairs.now; within = omega arith }

pub loop-low-preserved-then-pairs-middle : goal.loop-low-preserved-then-pairs-middle
loop-low-preserved-then-pairs-middle c = record { low = omega (arith, below_before c.args.tag c.args.pairs.now (c.loop-low.low + (c.loop-low.high - c.loop-low.low) / 2) (0, 0) c.requires (omega arith) c.if-pairs-middle.true); high = omega arith; within = omega arith }

pub loop-low-preserved : goal.loop-low-preserved
loop-low-preserved c = record { low = omega arith; high = omega (arith, above_before c.args.tag c.args.pairs.now (c.loop-low.low + (c.loop-low.high - c.loop-low.low) / 2) (0, 0) c.if-pairs-middle.false (omega arith)); within = omega arith }
