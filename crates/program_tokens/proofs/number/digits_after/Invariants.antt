use Rattle.std.proofs.Common.{◌≡◌, ◌≤◌, ◌+◌, ◌-◌, ◌*◌, ◌^◌, true, length, drop}
use Rattle.std.specs.List.{list_all}
use Rattle.program_tokens.specs.Numbers.{is_digit, digits_after}
use Rattle.program_tokens.proofs.number.digits_after.Given as goal

abbrev pub invariant-loop-digit : goal.invariant-loop-digit
invariant-loop-digit l = record {
  digits : list_all is_digit (drop l.digit-index l.digits) ≡ true;
  few : (l.value + 1) * 10 ^ (length l.digits - l.digit-index) ≤ 10 ^ 19;
  later : digits_after l.value (drop l.digit-index l.digits) ≡ digits_after l.start l.digits;
}
