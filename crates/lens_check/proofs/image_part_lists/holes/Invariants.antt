use Rattle.std.proofs.Common.{◌≡◌, map, replicate}
use Rattle.law_images.specs.Patterns.{hole, pattern_tree}
use Rattle.lens_check.proofs.image_part_lists.holes.Given as goal

abbrev pub invariant-loop : goal.invariant-loop
invariant-loop l = map pattern_tree l.items.items ≡ replicate l.counter hole
