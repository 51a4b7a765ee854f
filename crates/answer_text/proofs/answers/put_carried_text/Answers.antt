use Rattle.std.proofs.Common.{◌≡◌, ◌++◌, length, take, ap, ◌∙◌}
use Rattle.std.proofs.Math.Seq.{take-append_seam}
use Rattle.json.specs.Print.{print}
use Rattle.serde_json.proofs.Texts.{print-outline}
use Rattle.texts.proofs.Outcomes.{on_ok}
use Rattle.edit_module.specs.Changes.{carried_to}
use Rattle.edit_module.specs.Views.{word_trees, entry_trees}
use Rattle.edit_json.specs.Tokens.{tokens_of}
use Rattle.edit_journal.specs.EntryJson.{tree_of_entries}
use Rattle.answer_text.proofs.answers.put_carried_text.Goals as goal

pub returns-clause-added : goal.returns-clause-added
returns-clause-added c =
    let text = c.args.text.now.items in
    let tree = tree_of_entries (carried_to (entry_trees c.args.group.now) (word_trees c.args.words.now)) in
    let items : c.into_inner.result.items ≡ text ++ print c.put_carried-put.new.out.tokens =
    c.into_inner.ensures.items ∙ ap (λ b. b ++ print c.put_carried-put.new.out.tokens) (c.put_carried-put.ensures.before ∙ c.new-out.ensures.before ∙ ap (λ v. v.items) c.replace.ensures.value) in
    on_ok c.put_carried-put.result _ _
    (λ tokens. items ∙ ap (λ ts. text ++ print ts) (tokens ∙ ap (λ ts. ts ++ tokens_of tree) c.new-out.ensures.tokens) ∙ ap (λ b. text ++ b) (print-outline tree))
    c.put_carried-put.ensures.tokens

pub returns-clause-front : goal.returns-clause-front
returns-clause-front c =
    let text = c.args.text.now.items in
    let items : c.into_inner.result.items ≡ text ++ print c.put_carried-put.new.out.tokens =
    c.into_inner.ensures.items ∙ ap (λ b. b ++ print c.put_carried-put.new.out.tokens) (c.put_carried-put.ensures.before ∙ c.new-out.ensures.before ∙ ap (λ v. v.items) c.replace.ensures.value) in
    ap (take (length text)) items ∙ take-append_seam text (print c.put_carried-put.new.out.tokens)
