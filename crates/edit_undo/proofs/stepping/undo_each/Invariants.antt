use Rattle.std.proofs.Common.{◌≡◌, take, true}
use Rattle.edit_session.specs.Views.{triple_tree}
use Rattle.edit_undo.specs.Stepping.{Stepping}
use Rattle.edit_undo.specs.Undone.{entries_of_all}
use Rattle.edit_undo.specs.UndoneViews.{both_trees, change_trees}
use Rattle.edit_undo.proofs.stepping.undo_each.Given as goal

-- the first changes are stepped over
abbrev pub invariant-loop-i : goal.invariant-loop-i
invariant-loop-i g l =
    let of = g.L.EditLens in
    let lens = l.fn.session.lens in
    record {
      same : l.session.lens ≡ lens;
      steps : Stepping (of.left_type lens) (of.right_type lens) (of.carried lens) true (triple_tree l.fn.session.triple)
          (entries_of_all (change_trees (take l.i l.changes))) (both_trees l.fn.parts.items) (both_trees l.parts.items) (triple_tree l.session.triple);
    }
