use Rattle.std.proofs.Common.{◌<◌, ◌≤◌, Bool, true, false, length, refl, subst, ◌∙◌, arith}
use Rattle.edit_module.specs.Views.{entry_trees}
use Rattle.edit_session.specs.Views.{triple_tree}
use Rattle.edit_undo.specs.Stepping.{Stepping}
use Rattle.edit_undo.specs.UndoneViews.{both_trees}
use Rattle.edit_undo.proofs.Entries.{stepping_none, change_over, change_fails, changes_end}
use Rattle.edit_undo.proofs.stepping.undo_each.Goals as goal

pub loop-i-init : goal.loop-i-init
loop-i-init g c =
    let of = g.L.EditLens in
    let lens = c.args.session.now.lens in
    record { same = refl; steps = stepping_none (of.left_type lens) (of.right_type lens) (of.carried lens) (triple_tree c.args.session.now.triple) (both_trees c.args.parts.now.items) }

pub loop-i-preserved : goal.loop-i-preserved
loop-i-preserved g c =
    let l = c.loop-i in
    let of = g.L.EditLens in
    let lens = c.args.session.now.lens in
    let cs = c.args.changes.now in
    let es = c.entries.result.now in
    let u = triple_tree l.session.triple in
    let v = triple_tree c.undo_entries.new.session.triple in
    let before = both_trees l.parts.items in
    let after = both_trees c.undo_entries.new.parts.items in
    let within : l.i < length cs = omega (arith, c.loop-i-test.true) in
    let all = subst (λ (b : Bool). Stepping (of.left_type l.session.lens) (of.right_type l.session.lens) (of.carried l.session.lens) b u (entry_trees es) before after v) c.if-not-branch.false c.in_ok-undo_entries.ensures.words in
    let here = subst (λ x. Stepping (of.left_type x) (of.right_type x) (of.carried x) true u (entry_trees es) before after v) l.invariant.same all in
    record {
      same = c.in_ok-undo_entries.ensures.lens ∙ l.invariant.same;
      steps = change_over (of.left_type lens) (of.right_type lens) (of.carried lens) cs l.i c.index-changes-i.result es (triple_tree c.args.session.now.triple) u v (both_trees c.args.parts.now.items) before after
          within c.index-changes-i.is c.entries.ensures l.invariant.steps here;
    }

pub returns-then-not-branch-clause-words : goal.returns-then-not-branch-clause-words
returns-then-not-branch-clause-words g c =
    let l = c.loop-i in
    let of = g.L.EditLens in
    let lens = c.args.session.now.lens in
    let cs = c.args.changes.now in
    let es = c.entries.result.now in
    let u = triple_tree l.session.triple in
    let v = triple_tree c.undo_entries.new.session.triple in
    let before = both_trees l.parts.items in
    let after = both_trees c.undo_entries.new.parts.items in
    let within : l.i < length cs = omega (arith, c.loop-i-test.true) in
    let fails = subst (λ (b : Bool). Stepping (of.left_type l.session.lens) (of.right_type l.session.lens) (of.carried l.session.lens) b u (entry_trees es) before after v) c.if-not-branch.true c.in_ok-undo_entries.ensures.words in
    let here = subst (λ x. Stepping (of.left_type x) (of.right_type x) (of.carried x) false u (entry_trees es) before after v) l.invariant.same fails in
    change_fails (of.left_type lens) (of.right_type lens) (of.carried lens) cs l.i c.index-changes-i.result es (triple_tree c.args.session.now.triple) u (both_trees c.args.parts.now.items) before
    within c.index-changes-i.is c.entries.ensures l.invariant.steps here

pub returns-clause-words : goal.returns-clause-words
returns-clause-words g c =
    let l = c.loop-i in
    let of = g.L.EditLens in
    let lens = c.args.session.now.lens in
    let past : length c.args.changes.now ≤ l.i = omega (arith, c.loop-i-test.false) in
    changes_end (of.left_type lens) (of.right_type lens) (of.carried lens) c.args.changes.now l.i (triple_tree c.args.session.now.triple) (triple_tree l.session.triple)
    (both_trees c.args.parts.now.items) (both_trees l.parts.items) past l.invariant.steps
