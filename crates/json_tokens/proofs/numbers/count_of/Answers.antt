use Rattle.std.proofs.Common.{◌≡◌, ◌==◌, false, slice_index, sym, ap, ◌∙◌}
use Rattle.serde_json.specs.Read.{number_of}
use Rattle.json_tokens.proofs.NumberTexts.{plain_number, if_some}
use Rattle.json_tokens.proofs.numbers.count_of.Goals as goal

pub returns : goal.returns
returns c =
    let bytes = c.as_bytes-bytes.result.now in
    let plain : (slice_index bytes 0 == 45) ≡ false = sym c.if-has_minus.ensures.value in
    if_some c.at_or_above_zero.result (λ n e. ap number_of (sym c.as_bytes-bytes.ensures.value) ∙ plain_number bytes plain ∙ e) c.at_or_above_zero.ensures
