use Rattle.std.proofs.Common.{◌≡◌, ◌<◌, length, map, arith}
use Rattle.std.proofs.lemmas.Result.{IfOk-weaker}
use Rattle.doc_values.specs.Types.{fields_tree}
use Rattle.law_images.specs.Patterns.{pattern_tree}
use Rattle.lens_check.specs.PartLists.{trees_of, list_of, list_at_tag}
use Rattle.lens_check.proofs.PartRecords.{list_read}
use Rattle.lens_check.proofs.image_part_left.list_at_tag.Goals as goal

pub returns-in-Some : goal.returns-in-Some
returns-in-Some c =
    let low : c.in-Some.number < length c.args.lists.now = omega (arith, c.in-Some.ensures.below, c.requires) in
    IfOk-weaker c.copied_list.result (λ p. pattern_tree p ≡ list_of (trees_of c.index-lists-number.result))
    (λ p. pattern_tree p ≡ list_at_tag (fields_tree c.args.tags.now) (map trees_of c.args.lists.now) c.args.name.now)
    (λ p made. list_read (fields_tree c.args.tags.now) c.args.lists.now c.args.name.now c.in-Some.number c.index-lists-number.result (pattern_tree p)
    c.in-Some.ensures.is low c.index-lists-number.is made)
    c.copied_list.ensures
