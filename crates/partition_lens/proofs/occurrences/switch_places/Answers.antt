use Rattle.edit_module.specs.Views.{word_tree}
use Rattle.partition_lens.proofs.RightSteps.{switch_kept, switch_done}
use Rattle.partition_lens.proofs.occurrences.switch_places.Goals as goal

pub loop-done-preserved : goal.loop-done-preserved
loop-done-preserved c =
    switch_kept c.args.first.now c.args.name.now c.args.from c.args.items c.loop-done.done
    (word_tree c.loop-done.word) (word_tree c.in_ok-switched.switched) (word_tree c.in_ok-word.word) _
    c.loop-done-test.true c.in_ok-switched.ensures c.in_ok-word.ensures c.loop-done.invariant

pub returns : goal.returns
returns c =
    switch_done c.args.first.now c.args.name.now c.args.from c.args.items c.loop-done.done
    (word_tree c.loop-done.word) _ c.loop-done-test.false c.loop-done.invariant
