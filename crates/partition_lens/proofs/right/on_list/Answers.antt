use Rattle.edit_module.specs.Views.{word_tree}
use Rattle.lens_core.specs.Partition.{part_occurrence}
use Rattle.partition_lens.proofs.RowSteps.{step_kept}
use Rattle.partition_lens.proofs.right.on_list.Goals as goal

pub loop-primitive-preserved : goal.loop-primitive-preserved
loop-primitive-preserved c =
    step_kept (part_occurrence c.args.first.now c.args.name.now c.args.number) c.as_slice-primitives.result.now c.loop-primitive.primitive-index c.primitive-item.result
    (word_tree c.loop-primitive.row.word) (word_tree c.in_ok-next.next.word) (word_tree c.in_ok-row-2.row.word)
    c.loop-primitive.row.tags c.in_ok-next.next.tags c.in_ok-row-2.row.tags _
    c.loop-primitive-test.true c.primitive-item.is c.in_ok-next.ensures
    c.in_ok-row-2.ensures.word c.in_ok-row-2.ensures.tags c.loop-primitive.invariant
