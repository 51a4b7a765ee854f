use Rattle.std.proofs.Common.{◌≤◌, subst}
use Rattle.std.proofs.lemmas.Result.{IfOk-weaker}
use Rattle.doc_values.specs.Types.{height}
use Rattle.edit_module.specs.Views.{word_tree, entry_tree}
use Rattle.edit_session.specs.Views.{triple_tree}
use Rattle.run_answers.proofs.StepCounts.{carried_fits}
use Rattle.lens_core.specs.Translation.{translate}
use Rattle.lens_flat.specs.declared.flat.ReadyForm.{ReadyForm}
use Rattle.lens_forms.specs.Forms.{form_tree, left_type, right_type}
use Rattle.lens_forms.specs.declared.limits.TheConstants.{GREATEST_HEIGHT}
use Rattle.store_session.proofs.AnswersMade.{entry_low}
use Rattle.store_session.proofs.answering.answer_entry.Goals as goal

pub ok_line-requires : goal.ok_line-requires
ok_line-requires c =
    let l = form_tree c.args.session.now.lens.typed in
    record {
      counts_fit =
          carried_fits (left_type l) (right_type l) (translate l) (triple_tree c.args.session.now.triple) (entry_tree c.args.entry)
          (triple_tree c.step.new.self.triple, word_tree c.in-Ok.word) c.in-Ok.ensures.steps;
    }

pub returns-in-Ok-clause-reads : goal.returns-in-Ok-clause-reads
returns-in-Ok-clause-reads c =
    let l = form_tree c.args.session.now.lens.typed in
    let low_left = subst (λ (x : ReadyForm). height (left_type (form_tree x.typed)) ≤ GREATEST_HEIGHT) c.lens.ensures c.types_are_low.ensures.left in
    let low_right = subst (λ (x : ReadyForm). height (right_type (form_tree x.typed)) ≤ GREATEST_HEIGHT) c.lens.ensures c.types_are_low.ensures.right in
    let low = entry_low l (triple_tree c.args.session.now.triple) c.args.number (entry_tree c.args.entry) (triple_tree c.step.new.self.triple) (word_tree c.in-Ok.word) low_left low_right c.in-Ok.ensures.steps in
    IfOk-weaker c.accepted.result _ _ (λ a h. h low) c.accepted.ensures.reads
