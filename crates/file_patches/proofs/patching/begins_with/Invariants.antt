use Rattle.std.proofs.Common.{◌≡◌, drop}
use Rattle.file_patches.specs.Patching.{begins_with}
use Rattle.file_patches.proofs.patching.begins_with.Given as goal

abbrev pub invariant-loop-i : goal.invariant-loop-i
invariant-loop-i l = begins_with (drop l.i l.front) (drop l.i l.place) ≡ begins_with l.front l.place
