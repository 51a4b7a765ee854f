use Rattle.std.proofs.Common.{◌≡◌, ◌++◌, length, take, ap, ◌∙◌}
use Rattle.std.proofs.Math.Seq.{take-append_seam}
use Rattle.json.specs.Print.{print}
use Rattle.serde_json.proofs.Texts.{print-outline}
use Rattle.texts.proofs.Outcomes.{on_ok}
use Rattle.edit_module.specs.Views.{word_tree}
use Rattle.edit_json.specs.Tokens.{tokens_of}
use Rattle.edit_json.specs.WordJson.{tree_of_word}
use Rattle.answer_text.proofs.answers.put_word_text.Goals as goal

pub returns-clause-added : goal.returns-clause-added
returns-clause-added c =
    let text = c.args.text.now.items in
    let tree = tree_of_word (word_tree c.args.word.now) in
    let items : c.into_inner.result.items ≡ text ++ print c.put_word-put.new.out.tokens =
    c.into_inner.ensures.items ∙ ap (λ b. b ++ print c.put_word-put.new.out.tokens) (c.put_word-put.ensures.before ∙ c.new-out.ensures.before ∙ ap (λ v. v.items) c.replace.ensures.value) in
    on_ok c.put_word-put.result _ _
    (λ tokens. items ∙ ap (λ ts. text ++ print ts) (tokens ∙ ap (λ ts. ts ++ tokens_of tree) c.new-out.ensures.tokens) ∙ ap (λ b. text ++ b) (print-outline tree))
    c.put_word-put.ensures.tokens

pub returns-clause-front : goal.returns-clause-front
returns-clause-front c =
    let text = c.args.text.now.items in
    let items : c.into_inner.result.items ≡ text ++ print c.put_word-put.new.out.tokens =
    c.into_inner.ensures.items ∙ ap (λ b. b ++ print c.put_word-put.new.out.tokens) (c.put_word-put.ensures.before ∙ c.new-out.ensures.before ∙ ap (λ v. v.items) c.replace.ensures.value) in
    ap (take (length text)) items ∙ take-append_seam text (print c.put_word-put.new.out.tokens)
