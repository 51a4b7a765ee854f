use Rattle.std.proofs.Common.{◌≡◌, ◌≤◌, List, Some, Ok, ap, subst}
use Rattle.std.proofs.lemmas.Result.{IfOk-weaker}
use Rattle.doc_values.specs.Types.{height}
use Rattle.edit_module.specs.Changes.{ChangeTree}
use Rattle.edit_module.specs.Words.{WordTree}
use Rattle.edit_module.specs.Views.{change_tree, entry_trees, word_trees}
use Rattle.edit_session.specs.Step.{TripleTree, step_all}
use Rattle.edit_session.specs.Views.{triple_tree}
use Rattle.run_answers.proofs.AnswersHaveLines.{words_counted}
use Rattle.run_answers.proofs.StepCounts.{each_counted}
use Rattle.lens_core.specs.Translation.{translate}
use Rattle.lens_flat.specs.declared.flat.ReadyForm.{ReadyForm}
use Rattle.lens_forms.specs.Forms.{form_tree, left_type, right_type}
use Rattle.lens_forms.specs.declared.limits.TheConstants.{GREATEST_HEIGHT}
use Rattle.store_session.proofs.AcceptedDepths.{accepted_low}
use Rattle.store_session.proofs.answering.answer_group.Goals as goal

pub group_line-requires-clause-one_for_each : goal.group_line-requires-clause-one_for_each
group_line-requires-clause-one_for_each c =
    let l = form_tree c.args.session.now.lens.typed in
    let t = triple_tree c.args.session.now.triple in
    let es = c.in-Group.entries in
    let ws = c.in-Ok.words in
    let made : TripleTree × List WordTree = (triple_tree c.step_all.new.self.triple, word_trees ws) in
    let steps = subst (λ (x : ChangeTree). step_all (left_type l) (right_type l) (translate l) t x ≡ Some (Ok made)) (ap change_tree c.in-Group.is) c.in-Ok.ensures.steps in
    (words_counted es ws (each_counted (left_type l) (right_type l) (translate l) (entry_trees es) t made steps)).0

pub group_line-requires-clause-counts_fit : goal.group_line-requires-clause-counts_fit
group_line-requires-clause-counts_fit c =
    let l = form_tree c.args.session.now.lens.typed in
    let t = triple_tree c.args.session.now.triple in
    let es = c.in-Group.entries in
    let ws = c.in-Ok.words in
    let made : TripleTree × List WordTree = (triple_tree c.step_all.new.self.triple, word_trees ws) in
    let steps = subst (λ (x : ChangeTree). step_all (left_type l) (right_type l) (translate l) t x ≡ Some (Ok made)) (ap change_tree c.in-Group.is) c.in-Ok.ensures.steps in
    (words_counted es ws (each_counted (left_type l) (right_type l) (translate l) (entry_trees es) t made steps)).1

pub returns-in_ok-line-in-Ok-clause-reads : goal.returns-in_ok-line-in-Ok-clause-reads
returns-in_ok-line-in-Ok-clause-reads c =
    let l = form_tree c.args.session.now.lens.typed in
    let low_left = subst (λ (x : ReadyForm). height (left_type (form_tree x.typed)) ≤ GREATEST_HEIGHT) c.lens.ensures c.types_are_low.ensures.left in
    let low_right = subst (λ (x : ReadyForm). height (right_type (form_tree x.typed)) ≤ GREATEST_HEIGHT) c.lens.ensures c.types_are_low.ensures.right in
    let low = accepted_low l (triple_tree c.args.session.now.triple) (triple_tree c.step_all.new.self.triple) (change_tree c.args.change.now) (word_trees c.in-Ok.words) low_left low_right c.in-Ok.ensures.steps in
    IfOk-weaker c.accepted.result _ _ (λ a h. h low) c.accepted.ensures.reads
