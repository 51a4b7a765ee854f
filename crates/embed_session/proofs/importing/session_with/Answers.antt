use Rattle.std.proofs.Common.{◌≡◌, true, sym, subst}
use Rattle.doc_values.specs.Documents.{doc_tree}
use Rattle.doc_values.specs.Types.{ty_tree}
use Rattle.doc_values.specs.Typing.{has}
use Rattle.edit_module.specs.Views.{word_tree}
use Rattle.edit_session.specs.Views.{triple_tree}
use Rattle.run_answers.specs.ItemRuns.{IsInStepFor}
use Rattle.lens_flat.specs.declared.flat.ReadyForm.{ReadyForm}
use Rattle.lens_forms.specs.Forms.{form_tree}
use Rattle.embed_session.proofs.ImportSteps.{made_first, brought}
use Rattle.embed_session.proofs.importing.session_with.Goals as goal

pub construct-requires : goal.construct-requires
construct-requires c = subst (λ ty. has ty (doc_tree c.args.doc.now) ≡ true) (sym c.side_type.ensures.is) c.requires.typed

pub unreachable-requires : goal.unreachable-requires
unreachable-requires c =
    let doc = doc_tree c.args.doc.now in let word = word_tree c.in_ok-word.word in
    let s = c.in_ok-session.session in
    let acts = made_first (form_tree c.args.typed.now) (form_tree s.lens.typed) c.args.side doc (ty_tree c.side_type.result.now) word (triple_tree s.triple)
    c.in_ok-session.ensures.form c.in_ok-session.ensures.first c.side_type.ensures.is (c.in_ok-word.ensures.makes c.side_type.ensures.well_formed) in
    let none = c.in-Err-NoApply.ensures.applies doc acts in
    cc

pub returns-in-Ok-clause-brings : goal.returns-in-Ok-clause-brings
returns-in-Ok-clause-brings c =
    let s = c.in_ok-session.session in
    brought (form_tree c.args.typed.now) (form_tree s.lens.typed) c.args.side (doc_tree c.args.doc.now) (ty_tree c.side_type.result.now) (word_tree c.in_ok-word.word)
    (triple_tree s.triple) (triple_tree c.step.new.self.triple) (word_tree c.in-Ok.word)
    c.in_ok-session.ensures.form c.in_ok-session.ensures.first c.side_type.ensures.is c.in_ok-word.ensures.exact (c.in_ok-word.ensures.makes c.side_type.ensures.well_formed)
    c.in-Ok.ensures.steps
    (subst (λ (l : ReadyForm). IsInStepFor (form_tree l.typed) (triple_tree c.step.new.self.triple)) c.in-Ok.ensures.lens c.in-Ok.ensures.consistent)
