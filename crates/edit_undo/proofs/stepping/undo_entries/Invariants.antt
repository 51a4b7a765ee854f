use Rattle.std.proofs.Common.{◌≡◌, take, true}
use Rattle.edit_module.specs.Views.{entry_trees}
use Rattle.edit_session.specs.Views.{triple_tree}
use Rattle.edit_undo.specs.Stepping.{Stepping}
use Rattle.edit_undo.specs.UndoneViews.{both_trees}
use Rattle.edit_undo.proofs.stepping.undo_entries.Given as goal

-- the first entries are stepped over
abbrev pub invariant-loop-i : goal.invariant-loop-i
invariant-loop-i g l =
    let of = g.L.EditLens in
    let lens = l.fn.session.lens in
    record {
      same : l.session.lens ≡ lens;
      steps : Stepping (of.left_type lens) (of.right_type lens) (of.carried lens) true (triple_tree l.fn.session.triple)
          (entry_trees (take l.i l.entries)) (both_trees l.fn.parts.items) (both_trees l.parts.items) (triple_tree l.session.triple);
    }
