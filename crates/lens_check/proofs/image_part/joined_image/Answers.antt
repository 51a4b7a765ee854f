use Rattle.std.proofs.Common.{map, length, ap, sym, ◌∙◌}
use Rattle.std.specs.List.{range_with_len}
use Rattle.std.proofs.lemmas.List.{length-map}
use Rattle.doc_values.specs.Types.{fields_tree, names_of}
use Rattle.lens_forms.specs.Forms.{sorted, lists_of}
use Rattle.law_images.specs.Patterns.{pattern_tree, patterns_tree}
use Rattle.lens_check.specs.PartLists.{list_of, field_pattern, item_at}
use Rattle.lens_check.proofs.PartItems.{image_joined, lists_long}
use Rattle.lens_check.proofs.image_part.joined_image.Goals as goal

pub items-requires-clause-long : goal.items-requires-clause-long
items-requires-clause-long c =
    let tree = fields_tree c.args.tags.now in
    let lists = c.in-Some.lists.items in
    let told = rw c.in-Some.is at c.in_ok-lists.ensures in
    ap length c.deref.ensures.value
    ∙ (sym (length-map lists patterns_tree)
    ∙ lists_long tree 0 c.args.seq.now (field_pattern (names_of (sorted (lists_of tree))) (pattern_tree c.args.pattern.now)) (map patterns_tree lists) told)

pub returns : goal.returns
returns c =
    let tree = fields_tree c.args.tags.now in
    let seq = c.args.seq.now in
    let told = rw c.in-Some.is at c.in_ok-lists.ensures in
    image_joined tree (pattern_tree c.args.pattern.now) seq (map patterns_tree c.in-Some.lists.items) (pattern_tree c.in_ok-items.field-0) told
    (c.in_ok-items.ensures ∙ ap (λ z. list_of (map (item_at tree seq (map patterns_tree z)) (range_with_len 0 (length seq)))) c.deref.ensures.value)
