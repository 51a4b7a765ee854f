use Rattle.std.proofs.Common.{◌≡◌, ◌<◌, length, ap, ◌∙◌, arith, rules}
use Rattle.law_images.specs.declared.pattern.Pattern.{Alt, the_lemmas as pattern_lemmas}
use Rattle.law_images.specs.Patterns.{alt_pattern, pattern_tree}
use Rattle.lens_check.proofs.PartCounts.{below_at}
use Rattle.lens_check.proofs.PartItems.{item_made}
use Rattle.lens_check.proofs.image_part_right.item_at.Goals as goal

pub returns : goal.returns
returns c =
    let low : c.tag_at-tag.result < length c.args.fields.now = omega (arith, c.tag_at-tag.ensures, below_at (length c.args.fields.now) c.args.seq.now c.args.place c.requires.fit c.requires.within) in
    let made : pattern_tree (Alt c.in_ok-name.name c.in_ok-content.content) ≡ alt_pattern c.in_ok-name.name (pattern_tree c.in_ok-content.content.value) = search (rules, pattern_lemmas) in
    let boxed : pattern_tree c.in_ok-content.content.value ≡ pattern_tree c.in_ok-pattern_at.field-0 = ap pattern_tree c.in_ok-content.ensures in
    made
    ∙ (ap (alt_pattern c.in_ok-name.name) boxed
    ∙ item_made c.args.fields.now c.args.seq.now c.args.lists.now c.args.place c.tag_at-tag.result c.rank-occurrence.result c.index-fields-number.result c.index-lists-number.result
    c.in_ok-name.name (pattern_tree c.in_ok-pattern_at.field-0)
    c.tag_at-tag.ensures c.rank-occurrence.ensures low (omega (arith, low, c.requires.long)) c.index-fields-number.is c.index-lists-number.is c.in_ok-name.ensures c.in_ok-pattern_at.ensures)
