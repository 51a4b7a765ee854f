use Rattle.std.proofs.Common.{◌≡◌, List, [], ◌++◌, Bool, Some, ap, subst, ◌∙◌}
use Rattle.edit_session.specs.Views.{triple_tree}
use Rattle.edit_undo.specs.Stepping.{joined_all, Stepping}
use Rattle.edit_undo.specs.Undone.{BothTrees, entries_of_all}
use Rattle.edit_undo.specs.UndoneViews.{both_trees, change_trees}
use Rattle.edit_undo.specs.declared.both.BothWords.{BothWords}
use Rattle.edit_undo.proofs.Steps.{all_over, all_fail}
use Rattle.edit_undo.proofs.undo.undo_changes.Goals as goal

pub returns-then-not-branch-clause-undone : goal.returns-then-not-branch-clause-undone
returns-then-not-branch-clause-undone g c =
    let of = g.L.EditLens in
    let lens = c.args.session.now.lens in
    let es = entries_of_all (change_trees c.args.changes.now) in
    let t = triple_tree c.args.session.now.triple in
    let u = triple_tree c.undo_each.new.session.triple in
    all_fail (of.left_type lens) (of.right_type lens) (of.carried lens) t es
    (subst (λ (b : Bool). Stepping (of.left_type lens) (of.right_type lens) (of.carried lens) b t es (both_trees c.new-parts.result.items) (both_trees c.undo_each.new.parts.items) u) c.if-not-branch.true c.in_ok-undo_each.ensures.words)

pub returns-clause-undone : goal.returns-clause-undone
returns-clause-undone g c =
    let of = g.L.EditLens in
    let lens = c.args.session.now.lens in
    let es = entries_of_all (change_trees c.args.changes.now) in
    let t = triple_tree c.args.session.now.triple in
    let u = triple_tree c.undo_each.new.session.triple in
    let all = subst (λ (b : Bool). Stepping (of.left_type lens) (of.right_type lens) (of.carried lens) b t es (both_trees c.new-parts.result.items) (both_trees c.undo_each.new.parts.items) u) c.if-not-branch.false c.in_ok-undo_each.ensures.words in
    let none : both_trees c.new-parts.result.items ≡ [] = ap (λ (bs : List BothWords). both_trees bs) c.new-parts.ensures.items in
    let parts : both_trees c.undo_each.new.parts.items ≡ all.0 = all.1 ∙ ap (λ (bs : List BothTrees). bs ++ all.0) none in
    ap (λ (b : BothTrees). Some (u, b)) (c.in_ok-join_all.ensures ∙ ap joined_all parts)
    ∙ all_over (of.left_type lens) (of.right_type lens) (of.carried lens) t es all.0 u all.2
