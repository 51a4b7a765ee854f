use Rattle.std.proofs.Common.{sym, ◌∙◌}
use Rattle.value_json.proofs.Counts.{left_one_more, left_refused, none_left}
use Rattle.value_json.proofs.numbers.read_counts.Goals as goal

pub loop-item-preserved : goal.loop-item-preserved
loop-item-preserved c =
    let l = c.loop-item in
    rw c.in_ok-push.ensures.items
    (l.invariant ∙ left_one_more c.args.items.now l.item-index c.item-item.result l.counts.items c.in-Some.count c.loop-item-test.true c.item-item.is c.in-Some.ensures)

pub returns-in_default : goal.returns-in_default
returns-in_default c =
    let l = c.loop-item in
    sym (l.invariant ∙ left_refused c.args.items.now l.item-index c.item-item.result l.counts.items c.loop-item-test.true c.item-item.is c.in_default.ensures)

pub returns : goal.returns
returns c =
    let l = c.loop-item in
    sym (l.invariant ∙ none_left c.args.items.now l.item-index l.counts.items c.loop-item-test.false)
