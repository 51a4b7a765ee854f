use Rattle.std.proofs.Common.{◌≡◌, ◌∙◌, rules}
use Rattle.hold_shapes.specs.declared.shape.Shape.TheVariants.{List as ListOf}
use Rattle.law_images.specs.declared.pattern.Pattern.{Hold, the_lemmas as pattern_lemmas}
use Rattle.law_images.specs.Patterns.{pattern_tree, patterns_tree}
use Rattle.law_images.specs.PartImage.{list_pattern}
use Rattle.lens_check.proofs.PartRecords.{copied_is}
use Rattle.lens_check.proofs.image_part_left.copied_list.Goals as goal

pub returns : goal.returns
returns c =
    let made : pattern_tree (Hold (ListOf (record { count = c.len-count.result })) c.in_ok-twin.field-0) ≡ list_pattern c.len-count.result (patterns_tree c.in_ok-twin.field-0) =
    search (rules, pattern_lemmas) in
    made ∙ copied_is (patterns_tree c.args.patterns.now) (patterns_tree c.in_ok-twin.field-0) c.len-count.result c.len-count.ensures c.in_ok-twin.ensures
