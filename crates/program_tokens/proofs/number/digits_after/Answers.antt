use Rattle.std.proofs.Common.{arith, sym, ◌∙◌}
use Rattle.program_tokens.proofs.NumberDigits.{before_digit}
use Rattle.program_tokens.proofs.number.digits_after.Goals as goal

pub overflow_mul-value : goal.overflow_mul-value
overflow_mul-value c =
    let i = c.loop-digit.invariant in
    let b = before_digit c.loop-digit.value c.loop-digit.digit-index c.args.digits.now c.loop-digit-test.true i.digits i.few in
    let s = b.small in
    omega arith

pub overflow_add-value : goal.overflow_add-value
overflow_add-value c =
    let i = c.loop-digit.invariant in
    let b = before_digit c.loop-digit.value c.loop-digit.digit-index c.args.digits.now c.loop-digit-test.true i.digits i.few in
    let s = b.small in
    let d = b.digit in
    omega arith

pub loop-digit-preserved : goal.loop-digit-preserved
loop-digit-preserved c =
    let i = c.loop-digit.invariant in
    let b = before_digit c.loop-digit.value c.loop-digit.digit-index c.args.digits.now c.loop-digit-test.true i.digits i.few in
    record { digits = b.rest; few = b.few; later = sym b.later ∙ i.later }
