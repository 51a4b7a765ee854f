use Rattle.std.proofs.Common.{add-one, map, ap, ◌∙◌, arith}
use Rattle.edit_module.specs.Views.{primitive_tree, word_trees}
use Rattle.edit_module.specs.Words.{word_of}
use Rattle.hub_undo.specs.HubUndone.{no_view_words}
use Rattle.hub_undo.proofs.JoinedViews.{one_none_more}
use Rattle.hub_undo.proofs.joining.no_view_words.Goals as goal

pub loop-init : goal.loop-init
loop-init c = ap word_trees c.in_ok-words.ensures.items

pub loop-preserved : goal.loop-preserved
loop-preserved c =
    let l = c.loop in
    let none = c.from_vec-none.ensures ∙ ap (λ ps. word_of (map primitive_tree ps)) c.new.ensures.items in
    rw (add-one l.counter) (one_none_more l.counter l.words.items c.push.new.self.items c.from_vec-none.result none c.in_ok-push.ensures.items l.invariant)

pub returns : goal.returns
returns c =
    let l = c.loop in
    ap word_trees c.from_vec.ensures ∙ l.invariant ∙ ap no_view_words (omega (arith, c.loop-test.false, l.auto.counter-end))
