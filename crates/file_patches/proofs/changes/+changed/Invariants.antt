use Rattle.std.proofs.Common.{length}
use Rattle.file_patches.proofs.changes.+changed.Given as goal

abbrev pub decreases-changed : goal.decreases-changed
decreases-changed l = length l.place.now
