use Rattle.std.proofs.Common.{◌≡◌, ◌-◌, take, drop, length, true≢false, sym, ap, ◌∙◌, take_all, length-drop, arith}
use Rattle.file_patches.specs.Numbers.{all_zeros}
use Rattle.file_patches.proofs.NumberDigits.{not_zeros, empty_zeros}
use Rattle.file_patches.proofs.numbers.has_same_digits.Goals.{then-loop-at-test+else-at-other, else-loop-at-test}
use Rattle.file_patches.proofs.numbers.has_same_digits.Goals as goal

pub returns-else-are_zeros : goal.returns-else-are_zeros
returns-else-are_zeros c =
    let at = c.loop-at.at in
    let xs = drop at c.args.one.now in
    let ys = drop at c.args.other.now in
    let whole : take (length c.args.one.now - at) xs ≡ xs = take_all _ xs (omega (arith, length-drop at c.args.one.now)) in
    let zeros : c.are_zeros.result ≡ all_zeros xs = c.are_zeros.ensures ∙ ap all_zeros whole in
    elim c.loop-at-test.branch [
      | then-loop-at-test+else-at-other w ↦ zeros ∙ sym (not_zeros xs ys (omega (arith, length-drop at c.args.other.now, w.if-at-other.false))) ∙ c.loop-at.invariant.left
      | else-loop-at-test w ↦ absurd (true≢false (sym (empty_zeros xs (omega (arith, length-drop at c.args.one.now, w.loop-at-test.false))) ∙ sym zeros ∙ c.if-are_zeros.false))
    ]
