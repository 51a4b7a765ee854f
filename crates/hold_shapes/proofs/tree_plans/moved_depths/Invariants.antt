use Rattle.std.proofs.Common.{◌≡◌, take, drop}
use Rattle.hold_shapes.specs.Plans.{moved_depths, all_at_most}
use Rattle.hold_shapes.proofs.tree_plans.moved_depths.Given as goal

abbrev pub invariant-loop-i : goal.invariant-loop-i
invariant-loop-i l =
    (l.all.items ≡ moved_depths l.top l.depth (take l.i l.part))
    × (all_at_most 15 (moved_depths l.top l.depth (drop l.i l.part)) ≡ all_at_most 15 (moved_depths l.top l.depth l.part))
