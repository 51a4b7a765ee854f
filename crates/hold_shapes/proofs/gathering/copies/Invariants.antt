use Rattle.std.proofs.Common.{◌≡◌, map, replicate}
use Rattle.hold_shapes.proofs.gathering.copies.Given as goal

abbrev pub invariant-loop : goal.invariant-loop
invariant-loop g l = map g.T.Twin.meaning l.all.items ≡ replicate l.counter (g.T.Twin.meaning l.fresh)
