use Rattle.std.proofs.Common.{◌≡◌, ℕ, ◌-◌, ◌<◌, [], drop, get_or, length}
use Rattle.hold_shapes.proofs.ValidDepths.{GoesOn}
use Rattle.edit_inverse.specs.Paths.{paths_after}
use Rattle.edit_inverse.proofs.old_shapes.path_before.Given as goal

abbrev pub invariant-loop-i : goal.invariant-loop-i
invariant-loop-i l = record {
  path : drop (l.i - 1) (paths_after [] (drop 1 l.depths)) ≡ paths_after l.path.items (drop l.i l.depths);
  goes : GoesOn (length l.path.items) (drop l.i l.depths);
  low : (k : ℕ) → get_or l.path.items k 0 < l.i;
}
