use Rattle.std.proofs.Common.{drop}
use Rattle.edit_module.specs.Views.{word_tree}
use Rattle.tag_seq.specs.Tags.{count}
use Rattle.lens_core.specs.Partition.{del}
use Rattle.partition_lens.proofs.EachTag.{each_kept, each_end}
use Rattle.partition_lens.proofs.list_edits.deletions.Goals as goal

pub loop-number-preserved : goal.loop-number-preserved
loop-number-preserved c =
    each_kept c.as_slice-fields.result.now c.loop-number.number c.index-fields-number.result
    (word_tree c.loop-number.word) (word_tree c.in_ok-part.part) (word_tree c.in_ok-word.word)
    (λ t. del (count t (drop c.args.kept c.args.seq.now))) _
    c.loop-number-test.true c.index-fields-number.is c.in_ok-part.ensures c.in_ok-word.ensures c.loop-number.invariant

pub returns : goal.returns
returns c =
    each_end c.as_slice-fields.result.now c.loop-number.number (word_tree c.loop-number.word)
    (λ t. del (count t (drop c.args.kept c.args.seq.now))) _ c.loop-number-test.false c.loop-number.invariant
