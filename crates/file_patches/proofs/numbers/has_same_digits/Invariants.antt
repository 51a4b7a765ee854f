use Rattle.std.proofs.Common.{◌≡◌, ◌≤◌, ◌-◌, drop, length}
use Rattle.file_patches.specs.Numbers.{same_digits}
use Rattle.file_patches.proofs.numbers.has_same_digits.Given as goal

abbrev pub invariant-loop-at : goal.invariant-loop-at
invariant-loop-at l = record {
  left : same_digits (drop l.at l.one) (drop l.at l.other) ≡ same_digits l.one l.other;
  in_one : l.at ≤ length l.one;
  in_other : l.at ≤ length l.other;
}

abbrev pub decreases-loop-at : goal.decreases-loop-at
decreases-loop-at l = length l.one - l.at
