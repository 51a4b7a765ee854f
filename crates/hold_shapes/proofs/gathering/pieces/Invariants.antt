use Rattle.std.proofs.Common.{◌≡◌, ◌+◌, ◌++◌, All, map, drop, length}
use Rattle.hold_shapes.specs.Gather.{content_at, IsBelow}
use Rattle.hold_shapes.specs.Runs.{all_origins}
use Rattle.hold_shapes.proofs.gathering.pieces.Given as goal

abbrev pub invariant-loop-i : goal.invariant-loop-i
invariant-loop-i g l =
    (map g.T.Twin.meaning l.all ++ map (content_at (map g.T.Twin.meaning l.items) (g.T.Twin.meaning l.fresh)) (all_origins (drop l.i l.runs))
    ≡ map (content_at (map g.T.Twin.meaning l.items) (g.T.Twin.meaning l.fresh)) (all_origins l.runs))
    × (length l.all + length (all_origins (drop l.i l.runs)) ≡ length (all_origins l.runs))
    × All (IsBelow (length l.items)) (all_origins (drop l.i l.runs))
