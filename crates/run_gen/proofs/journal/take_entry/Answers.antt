use Rattle.std.proofs.Common.{◌≡◌, ◌+◌, ◌<◌, sym, subst, arith}
use Rattle.lens_forms.specs.Forms.{form_tree}
use Rattle.lens_core.specs.Consistency.{IsConsistent}
use Rattle.edit_module.specs.Views.{word_tree, entry_tree}
use Rattle.edit_session.specs.Step.{IsInStep}
use Rattle.edit_session.specs.Views.{triple_tree}
use Rattle.lens_flat.specs.declared.flat.ReadyForm.{ReadyForm}
use Rattle.run_gen.specs.Journal.{drawn_from}
use Rattle.run_gen.specs.Invariant.{IsPossible}
use Rattle.run_gen.specs.declared.choice.Choice.{Choice}
use Rattle.run_gen.proofs.Choices.{choice_possible, never_refused, taken}
use Rattle.run_gen.proofs.journal.take_entry.Goals as goal

pub unreachable-requires : goal.unreachable-requires
unreachable-requires c =
    let k = c.args.before in
    let p = c.args.progress.names in
    let o = c.args.progress.nums in
    let P : Choice → Type 0 = λ z. IsPossible z (k + 1) p o in
    let possible = subst P (sym c.choose-choice.ensures) (choice_possible (k + 1) p o (drawn_from c.next_seed-seed.result)) in
    let none = never_refused (form_tree c.args.session.now.lens.typed) c.requires.lens c.choose-choice.result k p o (triple_tree c.args.session.now.triple)
    c.in_ok-entry.entry.side (word_tree c.in_ok-entry.entry.word) _ c.requires.bounded possible c.requires.generated c.in_ok-entry.ensures c.in-Err-NoApply.ensures.applies in
    cc

pub returns-in-Ok-clause-generated : goal.returns-in-Ok-clause-generated
returns-in-Ok-clause-generated c =
    let k = c.args.before in
    let p = c.args.progress.names in
    let o = c.args.progress.nums in
    let lens = c.args.session.now.lens in
    let next = triple_tree c.step.new.self.triple in
    let P : Choice → Type 0 = λ z. IsPossible z (k + 1) p o in
    let Q : ReadyForm → Type 0 = λ l. IsInStep (IsConsistent (form_tree l.typed)) next in
    let possible = subst P (sym c.choose-choice.ensures) (choice_possible (k + 1) p o (drawn_from c.next_seed-seed.result)) in
    let made = taken (form_tree lens.typed) c.requires.lens c.choose-choice.result k p o c.args.progress.seed (triple_tree c.args.session.now.triple) next
    (entry_tree c.in_ok-entry.entry) (word_tree c.in-Ok.field-0) c.requires.bounded possible c.requires.generated c.in_ok-entry.ensures c.in-Ok.ensures.steps
    (subst Q c.in-Ok.ensures.lens c.in-Ok.ensures.consistent) in
    rw (c.names_after.ensures, c.nums_after.ensures) made.generated
