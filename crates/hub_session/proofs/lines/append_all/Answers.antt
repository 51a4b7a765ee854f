use Rattle.std.proofs.Common.{◌++◌, ap, map, ◌∙◌}
use Rattle.json.specs.Print.{print}
use Rattle.serde_json.specs.Data.{array}
use Rattle.serde_json.proofs.Texts.{print-outline}
use Rattle.edit_json.specs.Tokens.{tokens_of}
use Rattle.view_hub.specs.Views.{hub_carried_tree}
use Rattle.hub_session.specs.HubAnswers.{items_of_carried}
use Rattle.hub_session.proofs.lines.append_all.Goals as goal

pub returns : goal.returns
returns c =
    let tree = array (items_of_carried (map hub_carried_tree c.args.words.now)) in
    record {
      text = c.into_inner.ensures.items
          ∙ ap (λ b. b ++ print c.put_all.new.out.tokens) (c.put_all.ensures.before ∙ c.new-out.ensures.before)
          ∙ ap (λ ts. c.args.bytes.items ++ print ts) (c.in_ok-put_all.ensures.tokens ∙ ap (λ ts. ts ++ tokens_of tree) c.new-out.ensures.tokens)
          ∙ ap (λ b. c.args.bytes.items ++ b) (print-outline tree);
    }
