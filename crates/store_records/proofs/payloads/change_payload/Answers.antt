use Rattle.std.proofs.Common.{◌≡◌, ℕ, List, Some, ◌++◌, sym, ap, subst, ◌∙◌}
use Rattle.json.specs.Print.{print}
use Rattle.serde_json.specs.Read.{read}
use Rattle.serde_json.proofs.Texts.{print-outline}
use Rattle.edit_module.specs.Views.{change_tree}
use Rattle.edit_json.specs.Tokens.{tokens_of}
use Rattle.edit_journal.specs.EntryJson.{tree_of_text}
use Rattle.edit_journal.proofs.Texts.{text_read}
use Rattle.store_records.specs.RecordJson.{tree_of_change_record}
use Rattle.store_records.proofs.PayloadTrees.{text_of_record}
use Rattle.store_records.proofs.payloads.change_payload.Goals as goal

pub returns-clause-text : goal.returns-clause-text
returns-clause-text c =
    let tree = tree_of_change_record (change_tree c.args.change.now) in
    let tokens_are = c.in_ok-put_record.ensures.tokens ∙ ap (λ ts. ts ++ tokens_of tree) c.new-out.ensures.tokens in
    c.from_vec.ensures ∙ c.into_inner.ensures.items
    ∙ ap (λ b. b ++ print c.put_record.new.out.tokens) (c.put_record.ensures.before ∙ c.new-out.ensures.before ∙ c.in_ok-with_capacity.ensures.items)
    ∙ ap print tokens_are ∙ print-outline tree

pub returns-clause-reads_back : goal.returns-clause-reads_back
returns-clause-reads_back c =
    λ low.
    let change = change_tree c.args.change.now in
    let tree = tree_of_change_record change in
    let all = print c.put_record.new.out.tokens in
    let bytes_are = c.from_vec.ensures ∙ c.into_inner.ensures.items ∙ ap (λ b. b ++ all) (c.put_record.ensures.before ∙ c.new-out.ensures.before ∙ c.in_ok-with_capacity.ensures.items) in
    let tokens_are = c.in_ok-put_record.ensures.tokens ∙ ap (λ ts. ts ++ tokens_of tree) c.new-out.ensures.tokens in
    let is_read = ap read (ap print tokens_are ∙ print-outline tree) ∙ text_of_record change c.requires.counts_fit c.in_ok-put_record.ensures.numbers low in
    subst (λ (x : List ℕ). tree_of_text x ≡ Some tree) (sym bytes_are) (text_read all tree (c.into_inner.ensures.utf8, is_read))
