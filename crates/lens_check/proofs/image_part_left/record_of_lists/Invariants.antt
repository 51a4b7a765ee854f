use Rattle.std.proofs.Common.{◌≡◌, map, take}
use Rattle.doc_values.specs.Types.{fields_tree}
use Rattle.law_images.specs.Patterns.{pattern_tree}
use Rattle.lens_check.specs.PartLists.{trees_of, list_at_tag}
use Rattle.lens_check.proofs.image_part_left.record_of_lists.Given as goal

abbrev pub invariant-loop-name : goal.invariant-loop-name
invariant-loop-name l = map pattern_tree l.contents.items ≡ map (list_at_tag (fields_tree l.tags) (map trees_of l.shared.items)) (take l.name-index l.name-items)
