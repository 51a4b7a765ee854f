use Rattle.std.proofs.Common.{◌≡◌, drop}
use Rattle.file_patches.specs.Numbers.{all_zeros}
use Rattle.file_patches.proofs.numbers.are_zeros.Given as goal

abbrev pub invariant-loop-digit : goal.invariant-loop-digit
invariant-loop-digit l = all_zeros (drop l.digit-index l.digits) ≡ all_zeros l.digits
