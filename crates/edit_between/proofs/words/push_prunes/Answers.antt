use Rattle.std.proofs.Common.{ℕ, ◌+◌, ◌-◌, List, map, sym, ap, ◌∙◌}
use Rattle.hold_shapes.specs.declared.edit.ShapeEdit.TheVariants.{Prune}
use Rattle.edit_module.specs.Words.{word_of, joined}
use Rattle.edit_module.specs.Views.{primitive_tree}
use Rattle.edit_inverse.specs.Construct.{reshape}
use Rattle.edit_between.specs.Between.{prunes}
use Rattle.edit_between.proofs.NodeSteps.{prunes-more}
use Rattle.edit_between.proofs.words.push_prunes.Goals as goal

pub loop-child-preserved : goal.loop-child-preserved
loop-child-preserved c = λ rest.
    let l = c.loop-child in
    let before = joined (word_of (map primitive_tree l.out.items)) in
    let left = prunes (c.args.count - (l.child + 1)) rest in
    c.in_ok-push_shape.ensures left
    ∙ (ap (λ (q : List ℕ). before (reshape (Prune q) left)) (c.from_vec.ensures ∙ c.new.ensures.items)
    ∙ (ap before (sym (prunes-more c.args.count l.child rest c.loop-child-test.true)) ∙ l.invariant rest))
