use Rattle.std.proofs.Common.{◌≡◌, map}
use Rattle.std.specs.List.{range_with_len}
use Rattle.doc_values.specs.Types.{fields_tree}
use Rattle.law_images.specs.Patterns.{pattern_tree, patterns_tree}
use Rattle.lens_check.specs.PartLists.{item_at}
use Rattle.lens_check.proofs.image_part_right.items.Given as goal

abbrev pub invariant-loop-place : goal.invariant-loop-place
invariant-loop-place l = map pattern_tree l.items.items ≡ map (item_at (fields_tree l.tags) l.seq (map patterns_tree l.lists)) (range_with_len 0 l.place)
