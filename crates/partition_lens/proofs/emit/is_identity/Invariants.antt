use Rattle.std.proofs.Common.{◌≡◌, drop}
use Rattle.lens_core.specs.Partition.{is_identity}
use Rattle.partition_lens.proofs.emit.is_identity.Given as goal

abbrev pub invariant-loop-place : goal.invariant-loop-place
invariant-loop-place l = is_identity l.place (drop l.place l.order) ≡ is_identity 0 l.order
