use Rattle.serde_json.specs.View.{view, items_view}
use Rattle.doc_values.specs.Types.{fields_tree}
use Rattle.complement_file.specs.Reading.{AreTags}
use Rattle.complement_file.proofs.ReadPlaces.{items_next, items_end}
use Rattle.complement_file.proofs.ReadTags.{next_tag, refused_tag, all_tags}
use Rattle.complement_file.proofs.numbers.tag_numbers.Goals as goal

pub returns-in_default : goal.returns-in_default
returns-in_default c =
    let l = c.loop-item in
    let tags = fields_tree c.args.tags.now in
    refused_tag (AreTags tags (items_view c.args.items.now)) tags _ (view c.item-item.result) _ l.numbers.items
    (items_next c.args.items.now l.item-index c.item-item.result c.loop-item-test.true c.item-item.is) l.invariant c.in_default.ensures

pub loop-item-preserved : goal.loop-item-preserved
loop-item-preserved c =
    let l = c.loop-item in
    let tags = fields_tree c.args.tags.now in
    rw c.in_ok-push.ensures.items
    (next_tag (AreTags tags (items_view c.args.items.now)) tags _ (view c.item-item.result) _ l.numbers.items c.in-Some.number
    (items_next c.args.items.now l.item-index c.item-item.result c.loop-item-test.true c.item-item.is) c.in-Some.ensures l.invariant)

pub returns : goal.returns
returns c =
    let l = c.loop-item in
    let tags = fields_tree c.args.tags.now in
    all_tags (AreTags tags (items_view c.args.items.now)) tags _ l.numbers.items (items_end c.args.items.now l.item-index c.loop-item-test.false) l.invariant
