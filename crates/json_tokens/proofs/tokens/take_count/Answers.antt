use Rattle.std.proofs.Common.{◌∷◌, ap, ◌∙◌}
use Rattle.serde_json.specs.Data.{unsigned}
use Rattle.json.specs.Reads.{token_of}
use Rattle.json_tokens.specs.TreesAt.{tree_at}
use Rattle.json_tokens.proofs.NumberTexts.{if_some}
use Rattle.json_tokens.proofs.TreesAt.{number_at}
use Rattle.json_tokens.proofs.tokens.take_count.Goals as goal

pub returns-in-Some-Number : goal.returns-in-Some-Number
returns-in-Some-Number c =
    if_some c.count_of.result (λ n e depth. ap (tree_at depth) c.in-Some-Number.ensures.value ∙ ap (λ t. tree_at depth (token_of t ∷ c.next.new.self)) c.in-Some-Number.field-0-is ∙ number_at depth _ (unsigned n) _ e) c.count_of.ensures
