use Rattle.std.proofs.Common.{ℕ, List, Option, Ok, sym, subst}
use Rattle.std.specs.Prelude.{IfSome}
use Rattle.std.proofs.lemmas.Result.{IfOk-weaker}
use Rattle.edit_module.specs.Changes.{one}
use Rattle.edit_module.specs.Views.{change_tree, entry_tree}
use Rattle.edit_journal.specs.EntryJson.{change_of_line}
use Rattle.edit_session.specs.Views.{triple_tree}
use Rattle.lens_forms.specs.Forms.{form_tree}
use Rattle.store_session.specs.StoredStates.{ReadsAsChange}
use Rattle.store_session.specs.SessionStates.{session_state}
use Rattle.store_session.proofs.AnswerLines.{item_is_answer}
use Rattle.store_session.proofs.answering.answer_item.Goals as goal

pub returns-in-Ok-One-clause-is_answer : goal.returns-in-Ok-One-clause-is_answer
returns-in-Ok-One-clause-is_answer c =
    IfOk-weaker c.answer_entry.result _ _
    (λ a h. item_is_answer (session_state c.args.session.now) (session_state c.answer_entry.new.session) c.args.number (Ok (one (entry_tree c.in-Ok-One.entry))) a h)
    c.answer_entry.ensures.answer

pub returns-in-Ok-clause-is_answer : goal.returns-in-Ok-clause-is_answer
returns-in-Ok-clause-is_answer c =
    IfOk-weaker c.answer_group.result _ _
    (λ a h. item_is_answer (session_state c.args.session.now) (session_state c.answer_group.new.session) c.args.number (Ok (change_tree c.in-Ok.group)) a h)
    c.answer_group.ensures.answer

pub returns-in-Err-clause-answer : goal.returns-in-Err-clause-answer
returns-in-Err-clause-answer c =
    IfOk-weaker c.answer_fault.result _ _
    (λ a h. h (form_tree c.args.session.now.lens.typed) (triple_tree c.args.session.now.triple) (change_of_line c.args.line.now) c.in-Err.ensures.change)
    c.answer_fault.ensures.answer

pub returns-in-Err-clause-step : goal.returns-in-Err-clause-step
returns-in-Err-clause-step c =
    IfOk-weaker c.answer_fault.result _ _
    (λ a h. subst (λ (o : Option (List ℕ)). IfSome o (ReadsAsChange (change_of_line c.args.line.now))) (sym h) tt)
    c.answer_fault.ensures.none

pub returns-in-Err-clause-is_answer : goal.returns-in-Err-clause-is_answer
returns-in-Err-clause-is_answer c =
    let s = session_state c.args.session.now in
    let item = change_of_line c.args.line.now in
    IfOk-weaker c.answer_fault.result _ _
    (λ a h. item_is_answer s s c.args.number item a (h (form_tree c.args.session.now.lens.typed) (triple_tree c.args.session.now.triple) item c.in-Err.ensures.change))
    c.answer_fault.ensures.answer
