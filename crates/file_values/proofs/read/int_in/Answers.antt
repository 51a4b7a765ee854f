use Rattle.std.proofs.Common.{Some, bytes_eq, ap, sym, ◌∙◌, w64}
use Rattle.std.proofs.lemmas.Int.{to_z-of_z}
use Rattle.std.specs.Fmt.{signed_decimal}
use Rattle.texts.proofs.Tests.{bytes_eq-is}
use Rattle.file_values.proofs.IntReading.{not_parsed, not_same, parsed_range, same_text}
use Rattle.file_values.proofs.read.int_in.Goals as goal

pub returns-in_default : goal.returns-in_default
returns-in_default c = not_parsed c.args.text.now c.parse.result c.in_default.field-0 c.parse.ensures.value.0 c.in_default.is

pub returns-then-eq : goal.returns-then-eq
returns-then-eq c =
    let s = c.args.text.now in
    let n = c.in-Ok.number in
    let range = parsed_range s n c.parse.result c.parse.ensures.value.0 c.in-Ok.is in
    let back = to_z-of_z w64 n range in
    let text = ap signed_decimal (sym back) ∙ sym c.format.ensures.text in
    ap Some back ∙ same_text s n range (text ∙ bytes_eq-is c.format.result.now s (sym c.eq.ensures ∙ c.if-eq.true))

pub returns-else-eq : goal.returns-else-eq
returns-else-eq c =
    let s = c.args.text.now in
    let n = c.in-Ok.number in
    let range = parsed_range s n c.parse.result c.parse.ensures.value.0 c.in-Ok.is in
    let text = ap signed_decimal (sym (to_z-of_z w64 n range)) ∙ sym c.format.ensures.text in
    not_same s n c.parse.result c.parse.ensures.value.0 c.in-Ok.is (ap (λ t. bytes_eq t s) text ∙ sym c.eq.ensures ∙ c.if-eq.false)
