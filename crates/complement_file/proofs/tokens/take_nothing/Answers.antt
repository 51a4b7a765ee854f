use Rattle.std.proofs.Common.{◌∷◌, refl, ap, ◌∙◌, rules}
use Rattle.json.specs.Reads.{token_of}
use Rattle.serde_json.specs.Data.{null}
use Rattle.lens_core.specs.declared.comp.Comp.{the_lemmas}
use Rattle.json_tokens.specs.TreesAt.{tree_at}
use Rattle.complement_file.proofs.TakenParts.{null_at}
use Rattle.complement_file.proofs.tokens.take_nothing.Goals as goal

pub returns-in-Some-Null : goal.returns-in-Some-Null
returns-in-Some-Null c = (
  null,
  ap (tree_at c.args.depth) c.in-Some-Null.ensures.value ∙ ap (λ x. tree_at c.args.depth (token_of x ∷ c.next.new.self)) c.in-Some-Null.field-0-is ∙ null_at c.args.depth c.next.new.self,
  (search (rules, the_lemmas), refl),
)
