use Rattle.std.proofs.Common.{◌∙◌, sym}
use Rattle.std.proofs.lemmas.Str.Parse.{parse_digits}
use Rattle.command_words.proofs.DecimalNumbers.{decimal_is_numeral, ok_number, positive}
use Rattle.editstore_main.proofs.words.read_number.Goals as goal

pub returns : goal.returns
returns c =
    let digits = sym c.if-not-all_digits.ensures in
    c.ok.ensures.value ∙ ok_number c.args.text.now c.parse.result digits (positive _ c.if-is_empty.ensures) c.if-text-gt20.false (parse_digits decimal_is_numeral 64 c.args.text.now c.parse.result c.parse.ensures.value.0 digits)
