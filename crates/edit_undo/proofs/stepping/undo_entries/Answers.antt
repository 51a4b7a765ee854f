use Rattle.std.proofs.Common.{◌<◌, ◌≤◌, Option, Some, None, length, refl, subst, ◌∙◌, arith}
use Rattle.std.specs.Prelude.{option_map}
use Rattle.edit_module.specs.Views.{entry_tree}
use Rattle.edit_session.specs.Views.{triple_tree}
use Rattle.edit_undo.specs.Stepping.{UndoesEntry}
use Rattle.edit_undo.specs.UndoneViews.{both_tree, both_trees}
use Rattle.edit_undo.specs.declared.both.BothWords.{BothWords}
use Rattle.edit_undo.proofs.Entries.{stepping_none, entry_over, entry_fails, entries_end}
use Rattle.edit_undo.proofs.stepping.undo_entries.Goals as goal

pub loop-i-init : goal.loop-i-init
loop-i-init g c =
    let of = g.L.EditLens in
    let lens = c.args.session.now.lens in
    record { same = refl; steps = stepping_none (of.left_type lens) (of.right_type lens) (of.carried lens) (triple_tree c.args.session.now.triple) (both_trees c.args.parts.now.items) }

pub loop-i-preserved : goal.loop-i-preserved
loop-i-preserved g c =
    let l = c.loop-i in
    let of = g.L.EditLens in
    let lens = c.args.session.now.lens in
    let es = c.args.entries.now in
    let e = c.index-entries-i.result in
    let u = triple_tree l.session.triple in
    let v = triple_tree c.undo_entry.new.session.triple in
    let within : l.i < length es = omega (arith, c.loop-i-test.true) in
    let some = subst (λ (o : Option BothWords). UndoesEntry (of.left_type l.session.lens) (of.right_type l.session.lens) (of.carried l.session.lens) u (entry_tree e) v (option_map both_tree o)) c.in-Some.is c.in_ok-words.ensures.words in
    let here = subst (λ x. UndoesEntry (of.left_type x) (of.right_type x) (of.carried x) u (entry_tree e) v (option_map both_tree (Some c.in-Some.words))) l.invariant.same some in
    record {
      same = c.in_ok-words.ensures.lens ∙ l.invariant.same;
      steps = entry_over (of.left_type lens) (of.right_type lens) (of.carried lens) es l.i e (triple_tree c.args.session.now.triple) u v (both_trees c.args.parts.now.items) l.parts.items c.push.new.self.items c.in-Some.words
          within c.index-entries-i.is l.invariant.steps here c.in_ok-push.ensures.items;
    }

pub returns-in_default-clause-words : goal.returns-in_default-clause-words
returns-in_default-clause-words g c =
    let l = c.loop-i in
    let of = g.L.EditLens in
    let lens = c.args.session.now.lens in
    let es = c.args.entries.now in
    let e = c.index-entries-i.result in
    let u = triple_tree l.session.triple in
    let v = triple_tree c.undo_entry.new.session.triple in
    let within : l.i < length es = omega (arith, c.loop-i-test.true) in
    let none = subst (λ (o : Option BothWords). UndoesEntry (of.left_type l.session.lens) (of.right_type l.session.lens) (of.carried l.session.lens) u (entry_tree e) v (option_map both_tree o)) c.in_default.is c.in_ok-words.ensures.words in
    let here = subst (λ x. UndoesEntry (of.left_type x) (of.right_type x) (of.carried x) u (entry_tree e) v None) l.invariant.same none in
    entry_fails (of.left_type lens) (of.right_type lens) (of.carried lens) es l.i e (triple_tree c.args.session.now.triple) u (both_trees c.args.parts.now.items) (both_trees l.parts.items) here.0
    within c.index-entries-i.is l.invariant.steps here.1

pub returns-clause-words : goal.returns-clause-words
returns-clause-words g c =
    let l = c.loop-i in
    let of = g.L.EditLens in
    let lens = c.args.session.now.lens in
    let past : length c.args.entries.now ≤ l.i = omega (arith, c.loop-i-test.false) in
    entries_end (of.left_type lens) (of.right_type lens) (of.carried lens) c.args.entries.now l.i (triple_tree c.args.session.now.triple) (triple_tree l.session.triple)
    (both_trees c.args.parts.now.items) (both_trees l.parts.items) past l.invariant.steps
