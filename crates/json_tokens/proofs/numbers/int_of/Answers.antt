use Rattle.std.proofs.Common.{◌≡◌, ◌==◌, Some, true, false, drop, slice_index, sym, ap, ◌∙◌, take_all, length-drop, arith}
use Rattle.fast_float.specs.Text.{scan}
use Rattle.serde_json.specs.Find.{of_integer}
use Rattle.serde_json.specs.Read.{number_of, number_from}
use Rattle.json_tokens.proofs.NumberTexts.{plain_number, number_with_minus, if_some}
use Rattle.json_tokens.proofs.numbers.int_of.Goals as goal

pub returns-then-has_minus : goal.returns-then-has_minus
returns-then-has_minus c =
    let bytes = c.as_bytes-bytes.result.now in
    let minus : (slice_index bytes 0 == 45) ≡ true = sym c.if-has_minus.ensures.value in
    let whole = take_all _ (drop 1 bytes) (omega (arith, length-drop 1 bytes)) in
    if_some c.below_zero.result (λ z e. ap number_of (sym c.as_bytes-bytes.ensures.value) ∙ number_with_minus bytes minus ∙ ap (λ s. number_from true (scan s)) (sym whole) ∙ e) c.below_zero.ensures

pub returns : goal.returns
returns c =
    let bytes = c.as_bytes-bytes.result.now in
    let plain : (slice_index bytes 0 == 45) ≡ false = sym c.if-has_minus.ensures.value in
    if_some c.to_int.result (λ z e. ap number_of (sym c.as_bytes-bytes.ensures.value) ∙ plain_number bytes plain ∙ c.in_ok-at_or_above_zero.ensures ∙ ap (λ x. Some (of_integer x)) (sym e)) c.to_int.ensures
