use Rattle.std.proofs.Common.{map, ap, sym, ◌∙◌, subst}
use Rattle.std.specs.Prelude.{IsTrue}
use Rattle.doc_values.specs.Types.{fields_tree}
use Rattle.tag_seq.specs.Tags.{are_below}
use Rattle.law_images.specs.Patterns.{patterns_tree}
use Rattle.lens_check.specs.PartLists.{item_at}
use Rattle.lens_check.proofs.PartNames.{count_is}
use Rattle.lens_check.proofs.PartItems.{items_kept}
use Rattle.lens_check.proofs.image_part_right.items.Goals as goal

pub item_at-requires-clause-fit : goal.item_at-requires-clause-fit
item_at-requires-clause-fit c =
    subst (λ z. IsTrue (are_below z c.args.seq.now)) (sym (count_is c.as_slice-fields.result.now (fields_tree c.args.tags.now) c.as_slice-fields.ensures)) c.requires.fit

pub item_at-requires-clause-long : goal.item_at-requires-clause-long
item_at-requires-clause-long c = c.requires.long ∙ sym (count_is c.as_slice-fields.result.now (fields_tree c.args.tags.now) c.as_slice-fields.ensures)

pub loop-place-preserved : goal.loop-place-preserved
loop-place-preserved c =
    items_kept (item_at (fields_tree c.args.tags.now) c.args.seq.now (map patterns_tree c.args.lists.now)) c.loop-place.place c.loop-place.items.items c.push.new.list.items c.in_ok-item_at.field-0
    (c.in_ok-item_at.ensures ∙ ap (λ z. item_at z c.args.seq.now (map patterns_tree c.args.lists.now) c.loop-place.place) c.as_slice-fields.ensures)
    c.in_ok-push.ensures c.loop-place.invariant
