use Rattle.std.proofs.Common.{◌≡◌, ◌++◌, ap, subst, ◌∙◌}
use Rattle.std.specs.Str.{IsUtf8}
use Rattle.json.specs.Print.{print}
use Rattle.serde_json.proofs.Texts.{print-outline}
use Rattle.serde_json.specs.Written.{compact_text}
use Rattle.edit_json.specs.Tokens.{tokens_of}
use Rattle.edit_journal.specs.EntryJson.{tree_of_text}
use Rattle.edit_journal.proofs.Texts.{text_read}
use Rattle.hub_records.specs.HubChanges.{tree_of_hub_change}
use Rattle.hub_records.specs.Views.{hub_change_tree}
use Rattle.hub_records.proofs.EditTokens.{text_of_change}
use Rattle.hub_records.proofs.payloads.change_payload.Goals as goal

pub returns-clause-text : goal.returns-clause-text
returns-clause-text c =
    let tree = tree_of_hub_change (hub_change_tree c.args.change.now) in
    c.from_vec.ensures ∙ c.into_inner.ensures.items
    ∙ ap (λ b. b ++ print c.put_change.new.out.tokens) (c.put_change.ensures.before ∙ c.new-out.ensures.before ∙ c.in_ok-with_capacity.ensures.items)
    ∙ ap print (c.in_ok-put_change.ensures.tokens ∙ ap (λ ts. ts ++ tokens_of tree) c.new-out.ensures.tokens)
    ∙ print-outline tree

pub returns-clause-reads_back : goal.returns-clause-reads_back
returns-clause-reads_back c = λ low.
    let change = hub_change_tree c.args.change.now in
    let tree = tree_of_hub_change change in
    let printed : print c.put_change.new.out.tokens ≡ compact_text tree =
    ap print (c.in_ok-put_change.ensures.tokens ∙ ap (λ ts. ts ++ tokens_of tree) c.new-out.ensures.tokens) ∙ print-outline tree in
    let read_back = text_of_change change c.requires.counts_fit c.in_ok-put_change.ensures.numbers low in
    ap tree_of_text (returns-clause-text c) ∙ text_read (compact_text tree) tree (subst IsUtf8 printed c.into_inner.ensures.utf8, read_back)
