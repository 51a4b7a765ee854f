use Rattle.std.proofs.Common.{◌≡◌, ◌+◌, drop}
use Rattle.lens_check.specs.ImageParts.{place_among}
use Rattle.lens_check.proofs.image_record.place_among.Given as goal

abbrev pub invariant-loop-place : goal.invariant-loop-place
invariant-loop-place l = l.place + place_among l.name (drop l.place l.names) ≡ place_among l.name l.names
