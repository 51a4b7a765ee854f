use Rattle.std.proofs.Common.{◌+◌, ◌-◌, ◌/◌, map, sym, ap, ◌∙◌}
use Rattle.edit_module.specs.Words.{word_of, joined}
use Rattle.edit_module.specs.Views.{primitive_tree}
use Rattle.hold_shapes.specs.declared.lists.TheConstants.{MOST_ITEMS}
use Rattle.edit_inverse.specs.Construct.{full_insertions}
use Rattle.edit_inverse.proofs.Building.{full-more}
use Rattle.edit_between.proofs.words.inserted.Goals as goal

pub loop-piece-preserved : goal.loop-piece-preserved
loop-piece-preserved c = λ rest.
    let l = c.loop-piece in
    let full = c.args.count / MOST_ITEMS in
    c.in_ok-push_shape.ensures (full_insertions (full - (l.piece + 1)) rest)
    ∙ (ap (joined (word_of (map primitive_tree l.out.items))) (sym (full-more full l.piece rest c.loop-piece-test.true)) ∙ l.invariant rest)
