use Rattle.std.proofs.Common.{◌≡◌, ◌+◌, drop}
use Rattle.lens_check.specs.PartLists.{place_of}
use Rattle.lens_check.proofs.image_part_tags.place_of.Given as goal

abbrev pub invariant-loop-place : goal.invariant-loop-place
invariant-loop-place l = l.place + place_of l.name (drop l.place l.names) ≡ place_of l.name l.names
