use Rattle.std.proofs.Common.{◌≡◌, map, length, drop, option_map}
use Rattle.doc_values.specs.Types.{fields_tree}
use Rattle.lens_core.specs.Tags.{tag_count}
use Rattle.law_images.specs.Patterns.{pattern_list, patterns_tree}
use Rattle.law_images.specs.PartImage.{content_patterns}
use Rattle.lens_check.specs.PartLists.{trees_in, lists_by_tag}
use Rattle.lens_check.proofs.PartContents.{left_items}
use Rattle.lens_check.proofs.image_part_left.contents_by_tag.Given as goal

abbrev pub invariant-loop-place : goal.invariant-loop-place
invariant-loop-place l = record {
  long : length l.lists.items ≡ length l.fields;
  done : left_items (fields_tree l.tags) (map trees_in l.lists.items) (drop l.place l.seq) (drop l.place (pattern_list (patterns_tree l.items)))
      ≡ option_map (lists_by_tag (tag_count (fields_tree l.tags)) l.seq) (content_patterns (fields_tree l.tags) l.seq (patterns_tree l.items));
}
