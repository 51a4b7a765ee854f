use Rattle.std.proofs.Common.{sym, subst}
use Rattle.doc_values.specs.Documents.{doc_tree}
use Rattle.edit_module.specs.Views.{entry_tree, word_tree}
use Rattle.edit_session.specs.Step.{IsInStep}
use Rattle.edit_session.specs.Views.{triple_tree}
use Rattle.lens_core.specs.LensOf.{IsLensOf}
use Rattle.lens_forms.specs.Forms.{form_tree}
use Rattle.run_answers.proofs.StepCounts.{carried_fits}
use Rattle.store_new.proofs.FirstSteps.{entry_applies, entry_counts, entry_made}
use Rattle.store_new.proofs.importing.text_of_step.Goals as goal

pub step_applied-requires : goal.step_applied-requires
step_applied-requires g c =
    let lens = g.L.EditLens in
    let old = c.args.session.now in
    record {
      applies = entry_applies (lens.left_type old.lens) (lens.right_type old.lens) (form_tree c.args.lens.now) (triple_tree old.triple) (doc_tree c.args.doc) (entry_tree c.in_ok-entry.entry)
          c.requires.of_form.left_is c.requires.first c.in_ok-entry.ensures;
    }

pub lines_after-requires-clause-of_form : goal.lines_after-requires-clause-of_form
lines_after-requires-clause-of_form g c =
    let lens = g.L.EditLens in
    subst (λ k. IsLensOf (lens.left_type k) (lens.right_type k) (lens.start k) (lens.holds k) (lens.carried k) (form_tree c.args.lens.now)) (sym c.step_applied.ensures.lens) c.requires.of_form

pub lines_after-requires-clause-counts : goal.lines_after-requires-clause-counts
lines_after-requires-clause-counts g c =
    let lens = g.L.EditLens in
    let old = c.args.session.now in
    carried_fits (lens.left_type old.lens) (lens.right_type old.lens) (lens.carried old.lens) (triple_tree old.triple) (entry_tree c.in_ok-entry.entry)
    (triple_tree c.step_applied.new.session.triple, word_tree c.in_ok-word.word) c.in_ok-word.ensures.steps

pub change_payload-requires : goal.change_payload-requires
change_payload-requires g c = record { counts_fit = entry_counts (form_tree c.args.lens.now) (doc_tree c.args.doc) (entry_tree c.in_ok-entry.entry) c.in_ok-entry.ensures }

pub returns : goal.returns
returns g c =
    let lens = g.L.EditLens in
    let old = c.args.session.now in
    let after = triple_tree c.step_applied.new.session.triple in
    let in_step = subst (λ k. IsInStep (lens.holds k) after) c.in_ok-word.ensures.lens c.in_ok-word.ensures.consistent in
    entry_made (lens.left_type old.lens) (lens.right_type old.lens) (lens.start old.lens) (lens.holds old.lens) (lens.carried old.lens) (form_tree c.args.lens.now) (doc_tree c.args.doc)
    (entry_tree c.in_ok-entry.entry) (triple_tree old.triple) after (word_tree c.in_ok-word.word) c.in_ok-payload.payload c.in_ok-lines.lines.items c.requires.of_form
    c.types_are_low.ensures.left c.types_are_low.ensures.right c.in_ok-entry.ensures c.requires.first c.in_ok-word.ensures.steps in_step
    c.in_ok-payload.ensures.text c.in_ok-payload.ensures.reads_back c.in_ok-payload.ensures.numbers c.in_ok-lines.ensures
