use Rattle.std.proofs.Common.{◌∷◌, ap, ◌∙◌}
use Rattle.json.specs.Reads.{token_of}
use Rattle.json_tokens.specs.TreesAt.{tree_at}
use Rattle.json_tokens.proofs.TreesAt.{text_at}
use Rattle.json_tokens.proofs.tokens.take_text.Goals as goal

pub returns-in-Some-String : goal.returns-in-Some-String
returns-in-Some-String c depth = ap (tree_at depth) c.in-Some-String.ensures.value ∙ ap (λ t. tree_at depth (token_of t ∷ c.next.new.self)) c.in-Some-String.field-0-is ∙ text_at depth _ _
