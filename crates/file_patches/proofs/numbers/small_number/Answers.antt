use Rattle.std.proofs.Common.{◌≤◌, ◌+◌, ◌-◌, ◌*◌, ◌^◌, drop, get_or, sym, ◌∙◌, arith, refl}
use Rattle.std.proofs.lemmas.Bool.{le-ltb}
use Rattle.std.proofs.lemmas.Str.Parse.{digit_at}
use Rattle.std.specs.Str.Parse.{digits_value}
use Rattle.file_patches.proofs.NumberDigits.{grows, next_digit}
use Rattle.file_patches.proofs.numbers.small_number.Goals as goal

pub overflow_sub-number : goal.overflow_sub-number
overflow_sub-number c = omega (arith, digit_at c.args.digits.now c.loop-digit.digit-index c.requires (omega arith))

pub returns-then-number-ge1000000000000000000 : goal.returns-then-number-ge1000000000000000000
returns-then-number-ge1000000000000000000 c =
    let ds = c.args.digits.now in
    let i = c.loop-digit.digit-index in
    let n = c.loop-digit.number in
    let value = sym (next_digit ds i n c.requires (omega arith)) ∙ c.loop-digit.invariant.value in
    let more = grows (n * 10 + (get_or ds i 0 - 48)) (drop (i + 1) ds) in
    let big : 10 ^ 18 ≤ digits_value 10 ds = omega (arith, value, more, c.if-number-ge1000000000000000000.true) in
    rw (le-ltb (digits_value 10 ds) (10 ^ 18) big) refl

pub loop-digit-preserved : goal.loop-digit-preserved
loop-digit-preserved c =
    let ds = c.args.digits.now in
    let i = c.loop-digit.digit-index in
    record {
      value = sym (next_digit ds i c.loop-digit.number c.requires (omega arith)) ∙ c.loop-digit.invariant.value;
      small = omega (arith, c.if-number-ge1000000000000000000.false);
    }
