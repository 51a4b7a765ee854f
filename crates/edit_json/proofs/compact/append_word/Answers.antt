use Rattle.std.proofs.Common.{◌++◌, ap, ◌∙◌}
use Rattle.json.specs.Print.{print}
use Rattle.serde_json.proofs.Texts.{print-outline}
use Rattle.edit_module.specs.Views.{word_tree}
use Rattle.edit_json.specs.Tokens.{tokens_of}
use Rattle.edit_json.specs.WordJson.{tree_of_word}
use Rattle.edit_json.proofs.compact.append_word.Goals as goal

pub returns-clause-text : goal.returns-clause-text
returns-clause-text c =
    let tree = tree_of_word (word_tree c.args.word.now) in
    c.into_inner.ensures.items
    ∙ ap (λ b. b ++ print c.put_word.new.out.tokens) (c.put_word.ensures.before ∙ c.new-out.ensures.before)
    ∙ ap (λ ts. c.args.bytes.items ++ print ts) (c.in_ok-put_word.ensures.tokens ∙ ap (λ ts. ts ++ tokens_of tree) c.new-out.ensures.tokens)
    ∙ ap (λ b. c.args.bytes.items ++ b) (print-outline tree)
