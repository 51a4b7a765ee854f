use Rattle.std.proofs.Common.{◌∙◌}
use Rattle.edit_module.specs.Views.{word_tree}
use Rattle.hub_undo.proofs.JoinedViews.{words_joined}
use Rattle.hub_undo.proofs.joining.join_words.Goals as goal

pub returns : goal.returns
returns c =
    c.from_vec.ensures
    ∙ words_joined c.into_vec-primitives.result.items c.into_vec-more.result.items c.append.new.self.items (word_tree c.args.first) (word_tree c.args.second)
    c.into_vec-primitives.ensures c.into_vec-more.ensures c.in_ok-append.ensures.items
