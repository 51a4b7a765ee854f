use Rattle.std.proofs.Common.{◌≡◌, [], map, length, get_or, ap, sym, ◌∙◌, arith}
use Rattle.std.specs.Prelude.{vec_items}
use Rattle.edit_module.specs.Views.{word_tree}
use Rattle.lens_core.specs.Emitted.{at_word}
use Rattle.lens_core.specs.Tags.{tag_count}
use Rattle.lens_core.specs.Partition.{reorder}
use Rattle.lens_core.proofs.Tags.{tag_count-length}
use Rattle.partition_lens.proofs.EachTag.{each_kept, each_end}
use Rattle.partition_lens.proofs.TagRanks.{list_read}
use Rattle.partition_lens.proofs.orders.reorders.Goals as goal

pub loop-number-preserved : goal.loop-number-preserved
loop-number-preserved c =
    let fields = c.as_slice-fields.result.now in
    let number = c.loop-number.number in
    let long : length c.args.ranks.now ≡ length fields = c.requires.long ∙ (ap tag_count (sym c.as_slice-fields.ensures) ∙ tag_count-length fields) in
    let read = list_read c.args.ranks.now number c.index-ranks-number.result (omega (arith, long, c.loop-number-test.true)) c.index-ranks-number.is in
    each_kept fields number c.index-fields-number.result
    (word_tree c.loop-number.word) (word_tree c.in_ok-part.part) (word_tree c.in_ok-word.word)
    (λ t. reorder (get_or (map vec_items c.args.ranks.now) t [])) _
    c.loop-number-test.true c.index-fields-number.is
    (c.in_ok-part.ensures ∙ ap (λ z. at_word (get_or fields number c.index-fields-number.result).0 (reorder z)) (c.deref.ensures.value ∙ read))
    c.in_ok-word.ensures c.loop-number.invariant

pub returns : goal.returns
returns c =
    each_end c.as_slice-fields.result.now c.loop-number.number (word_tree c.loop-number.word)
    (λ t. reorder (get_or (map vec_items c.args.ranks.now) t [])) _ c.loop-number-test.false c.loop-number.invariant
