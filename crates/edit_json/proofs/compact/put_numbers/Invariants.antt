use Rattle.std.proofs.Common.{◌≡◌, ◌++◌}
use Rattle.edit_json.proofs.Tokens.{numbers_from}
use Rattle.edit_json.proofs.compact.put_numbers.Given as goal

abbrev pub invariant-loop-number : goal.invariant-loop-number
invariant-loop-number l =
    (l.out.before ≡ l.initial.out.before)
    × (l.out.tokens ++ numbers_from l.numbers l.number-index ≡ l.initial.out.tokens ++ numbers_from l.numbers 0)
