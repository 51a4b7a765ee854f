use Rattle.std.proofs.Common.{map, length, ap, ◌∙◌}
use Rattle.doc_values.specs.Types.{fields_tree}
use Rattle.lens_forms.specs.Forms.{sorted, lists_of}
use Rattle.law_images.specs.Patterns.{patterns_tree}
use Rattle.lens_check.specs.PartLists.{trees_in, trees_of, list_at_tag}
use Rattle.lens_check.proofs.PartNames.{tree_of_record}
use Rattle.lens_check.proofs.PartRecords.{shared_many, fields_kept, record_made}
use Rattle.lens_check.proofs.image_part_left.record_of_lists.Goals as goal

pub list_at_tag-requires : goal.list_at_tag-requires
list_at_tag-requires c = ap length c.deref.ensures.value ∙ (shared_many c.in_ok-shared.shared.items c.args.lists.items c.in_ok-shared.ensures ∙ c.requires)

pub loop-name-preserved : goal.loop-name-preserved
loop-name-preserved c =
    let tree = fields_tree c.args.tags.now in
    fields_kept (list_at_tag tree (map trees_of c.in_ok-shared.shared.items)) c.deref-name-items.result.now c.loop-name.name-index c.name-item.result
    c.loop-name.contents.items c.push.new.list.items c.in_ok-list_at_tag.field-0 c.loop-name-test.true c.name-item.is
    (c.in_ok-list_at_tag.ensures ∙ ap (λ z. list_at_tag tree (map trees_of z) c.name-item.result) c.deref.ensures.value)
    c.in_ok-push.ensures c.loop-name.invariant

pub returns : goal.returns
returns c =
    let tree = fields_tree c.args.tags.now in
    tree_of_record c.in_ok-from_vec.field-0
    ∙ record_made tree (sorted (lists_of tree)) (map trees_in c.args.lists.items) (map trees_of c.in_ok-shared.shared.items) c.deref-name-items.result.now c.loop-name.name-index
    c.loop-name.contents.items (patterns_tree c.in_ok-from_vec.field-0)
    c.in_ok-shared.ensures (c.deref-name-items.ensures.value ∙ c.in_ok-names.ensures) c.loop-name-test.false c.loop-name.invariant c.in_ok-from_vec.ensures
