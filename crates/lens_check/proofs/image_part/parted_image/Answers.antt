use Rattle.std.proofs.Common.{map, option_map, ap, sym, ◌∙◌}
use Rattle.doc_values.specs.Types.{fields_tree}
use Rattle.lens_forms.specs.Forms.{sorted, lists_of}
use Rattle.law_images.specs.Patterns.{pattern_tree, patterns_tree}
use Rattle.law_images.specs.PartImage.{patterns_in_list}
use Rattle.lens_check.specs.PartLists.{trees_in}
use Rattle.lens_check.proofs.PartContents.{image_made}
use Rattle.lens_check.proofs.image_part.parted_image.Goals as goal

pub returns : goal.returns
returns c =
    let tree = fields_tree c.args.tags.now in
    let told = rw c.in-Some-2.is at c.in_ok-lists.ensures in
    image_made tree (sorted (lists_of tree)) c.args.seq.now (pattern_tree c.args.pattern.now) (patterns_tree c.in-Some.items) (map trees_in c.in-Some-2.lists.items)
    (pattern_tree c.in_ok-record_of_lists.field-0)
    (sym (ap (option_map patterns_tree) c.in-Some.is) ∙ (c.in_ok-items.ensures ∙ ap (λ n. patterns_in_list n (pattern_tree c.args.pattern.now)) c.len.ensures))
    told c.in_ok-record_of_lists.ensures
