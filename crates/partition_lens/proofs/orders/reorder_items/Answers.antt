use Rattle.std.proofs.Common.{map, length, ap, sym, ◌∙◌}
use Rattle.std.specs.Prelude.{vec_items}
use Rattle.doc_values.specs.Types.{fields_tree}
use Rattle.edit_module.specs.Views.{word_tree}
use Rattle.lens_core.specs.Tags.{tag_count}
use Rattle.lens_core.proofs.Tags.{tag_count-length}
use Rattle.partition_lens.specs.TagRanks.{ranks_by_tag}
use Rattle.partition_lens.proofs.TagRanks.{ranked_row, lists_long}
use Rattle.partition_lens.proofs.orders.reorder_items.Goals as goal

pub reorders-requires-clause-long : goal.reorders-requires-clause-long
reorders-requires-clause-long c =
    ap length c.deref.ensures.value
    ∙ (lists_long c.in_ok-ranks.ranks.items (length c.as_slice.result.now) c.args.seq.now c.args.order.now c.in_ok-ranks.ensures
    ∙ (sym (tag_count-length c.as_slice.result.now) ∙ ap tag_count c.as_slice.ensures))

pub returns : goal.returns
returns c =
    ranked_row (fields_tree c.args.tags.now) c.args.seq.now c.args.order.now (map vec_items c.deref.result.now)
    (word_tree c.in_ok-word.word) c.in_ok-next.next
    (ap (map vec_items) c.deref.ensures.value
    ∙ (c.in_ok-ranks.ensures
    ∙ ap (λ n. ranks_by_tag n c.args.seq.now c.args.order.now) (sym (tag_count-length c.as_slice.result.now) ∙ ap tag_count c.as_slice.ensures)))
    c.in_ok-word.ensures c.in_ok-next.ensures
