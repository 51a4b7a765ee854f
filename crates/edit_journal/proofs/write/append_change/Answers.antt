use Rattle.std.proofs.Common.{◌++◌, ap, ◌∙◌}
use Rattle.json.specs.Print.{print}
use Rattle.serde_json.proofs.Texts.{print-outline}
use Rattle.edit_module.specs.Views.{change_tree}
use Rattle.edit_json.specs.Tokens.{tokens_of}
use Rattle.edit_journal.specs.EntryJson.{tree_of_change}
use Rattle.edit_journal.proofs.write.append_change.Goals as goal

pub returns-clause-text : goal.returns-clause-text
returns-clause-text c =
    let tree = tree_of_change (change_tree c.args.change.now) in
    c.into_inner.ensures.items
    ∙ ap (λ b. b ++ print c.put_change.new.out.tokens) (c.put_change.ensures.before ∙ c.new-out.ensures.before)
    ∙ ap (λ ts. c.args.bytes.items ++ print ts) (c.in_ok-put_change.ensures.tokens ∙ ap (λ ts. ts ++ tokens_of tree) c.new-out.ensures.tokens)
    ∙ ap (λ b. c.args.bytes.items ++ b) (print-outline tree)
