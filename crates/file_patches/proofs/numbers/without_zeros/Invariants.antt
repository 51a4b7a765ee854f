use Rattle.std.proofs.Common.{◌≡◌, drop}
use Rattle.file_patches.specs.Numbers.{significant}
use Rattle.file_patches.proofs.numbers.without_zeros.Given as goal

abbrev pub invariant-loop-i : goal.invariant-loop-i
invariant-loop-i l = significant (drop l.i l.digits) ≡ significant l.digits
