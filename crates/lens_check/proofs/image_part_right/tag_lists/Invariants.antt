use Rattle.std.proofs.Common.{◌≡◌, map, drop}
use Rattle.doc_values.specs.Types.{fields_tree, names_of}
use Rattle.lens_forms.specs.Forms.{sorted, lists_of}
use Rattle.law_images.specs.Patterns.{pattern_tree, patterns_tree}
use Rattle.lens_check.specs.PartLists.{field_pattern, tag_lists}
use Rattle.lens_check.proofs.PartItems.{left_tags}
use Rattle.lens_check.proofs.image_part_right.tag_lists.Given as goal

abbrev pub invariant-loop-number : goal.invariant-loop-number
invariant-loop-number l =
    left_tags (map patterns_tree l.lists.items) (drop l.number l.fields) l.number l.seq (field_pattern (names_of (sorted (lists_of (fields_tree l.tags)))) (pattern_tree l.pattern))
    ≡ tag_lists (fields_tree l.tags) 0 l.seq (field_pattern (names_of (sorted (lists_of (fields_tree l.tags)))) (pattern_tree l.pattern))
