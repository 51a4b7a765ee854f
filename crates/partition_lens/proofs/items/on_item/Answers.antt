use Rattle.std.proofs.Common.{length, ap, ◌∙◌}
use Rattle.doc_values.specs.Types.{fields_tree}
use Rattle.edit_module.specs.Views.{word_tree}
use Rattle.lens_core.specs.Partition.{part_item}
use Rattle.partition_lens.proofs.RowSteps.{step_kept}
use Rattle.partition_lens.proofs.items.on_item.Goals as goal

pub loop-primitive-preserved : goal.loop-primitive-preserved
loop-primitive-preserved c = record {
  long = ap length c.in_ok-row-2.ensures.tags ∙ (c.in_ok-next.ensures.long ∙ c.loop-primitive.invariant.long);
  left =
      step_kept (part_item (fields_tree c.args.tags.now) c.args.place) c.as_slice-primitives.result.now c.loop-primitive.primitive-index c.primitive-item.result
      (word_tree c.loop-primitive.row.word) (word_tree c.in_ok-next.next.word) (word_tree c.in_ok-row-2.row.word)
      c.loop-primitive.row.tags c.in_ok-next.next.tags c.in_ok-row-2.row.tags _
      c.loop-primitive-test.true c.primitive-item.is c.in_ok-next.ensures.row
      c.in_ok-row-2.ensures.word c.in_ok-row-2.ensures.tags c.loop-primitive.invariant.left;
}
