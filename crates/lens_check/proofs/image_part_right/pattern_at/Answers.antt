use Rattle.std.proofs.Common.{◌≡◌, sym, ◌∙◌, arith, rules}
use Rattle.law_images.specs.declared.pattern.Pattern.{Hole, the_lemmas as pattern_lemmas}
use Rattle.law_images.specs.Patterns.{hole, pattern_tree, patterns_tree}
use Rattle.lens_check.proofs.PartNames.{past_end}
use Rattle.lens_check.proofs.image_part_right.pattern_at.Goals as goal

pub returns-else-place-len : goal.returns-else-place-len
returns-else-place-len c =
    let made : pattern_tree Hole ≡ hole = search (rules, pattern_lemmas) in
    made ∙ sym (past_end (patterns_tree c.args.patterns.now) c.args.place (omega (arith, c.len.ensures, c.if-place-len.false)))
