use Rattle.std.proofs.Common.{refl, ◌-◌, ap, ◌∙◌}
use Rattle.json_tokens.specs.TreesAt.{read_at}
use Rattle.edit_json.specs.Values.{numbers_of}
use Rattle.edit_tokens.proofs.ReadingTokens.{numbers_read, if_some}
use Rattle.edit_tokens.proofs.value_tokens.take_numbers.Goals as goal

pub returns : goal.returns
returns c =
    if_some c.take_counts.result
    (λ ns e depth some. ap (read_at numbers_of depth) (c.if-not-opens_array.ensures refl) ∙ numbers_read depth c.opens_array.new.reader c.take_counts.new.reader ns.items some (e (depth - 1))) c.take_counts.ensures
