use Rattle.lens_check.proofs.PartCounts.{AreCounts}
use Rattle.lens_check.proofs.image_part_tags.counts.Given as goal

abbrev pub invariant-loop-place : goal.invariant-loop-place
invariant-loop-place l = AreCounts l.tags l.counts.items l.seq l.place
