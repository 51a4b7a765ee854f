-- An answer that has a line has a tree, and what a fault of a line says of both.
use Rattle.std.proofs.Common.{◌≡◌, ℕ, List, Option, None, Some, option_map, Result, Ok, Err, refl, sym, subst}
use Rattle.std.specs.Prelude.{IfOk, IfSome}
use Rattle.edit_journal.specs.EntryJson.{LineFault}
use Rattle.edit_journal.specs.Reading.{cause_of}
use Rattle.edit_journal.specs.declared.fault.EntryFault.{EntryFault}
use Rattle.edit_journal.specs.declared.fault.EntryFault.TheVariants.{LineTooLong, NotJson, NotAnEntry, NotAnEdit, NoMemory}
use Rattle.answer_text.specs.Lines.{fault_line}
use Rattle.hub_run.specs.AnswerLines.{HasAnswerLine}
use Rattle.hub_run.specs.Answers.{HubAnswerTree, no_edit, hub_answer_line}
use Rattle.hub_run.specs.Views.{answer_tree}
use Rattle.hub_run.specs.declared.answers.HubAnswer.{HubAnswer}
use Rattle.hub_run.specs.declared.answers.HubAnswer.TheVariants.{Carried, NoView, NoApply, NoEdit}

pub has_tree : (answer : HubAnswer) → HasAnswerLine answer → (a : HubAnswerTree) × (answer_tree answer ≡ Some a)
has_tree (Carried words) h = (_, refl)
has_tree NoView h = (_, refl)
has_tree (NoApply at cause) h = (_, refl)
has_tree (NoEdit LineTooLong) h = (_, refl)
has_tree (NoEdit NotJson) h = (_, refl)
has_tree (NoEdit NotAnEntry) h = (_, refl)
has_tree (NoEdit NotAnEdit) h = (_, refl)
has_tree (NoEdit NoMemory) h = absurd h

pub is_so : (P : HubAnswerTree → Type 0) (o : Option HubAnswerTree) (a : HubAnswerTree) → o ≡ Some a → IfSome o P → P a
is_so P None a e h = cc
is_so P (Some b) a e h = let same : b ≡ a = cc in subst P same h

-- and its line is that of the cause
pub fault_has_line : (o : Option LineFault) (number : ℕ) (line : List ℕ) → ((cause : LineFault) → o ≡ Some cause → line ≡ fault_line number cause)
    → IfSome (option_map no_edit o) (λ (a : HubAnswerTree). line ≡ hub_answer_line number a)
fault_has_line None number line h = tt
fault_has_line (Some cause) number line h = h cause refl

pub fault_line_is : {E : Type 0} (r : Result (List ℕ) E) (answer : HubAnswer) (fault : EntryFault) (number : ℕ) → answer ≡ NoEdit fault
    → IfOk r (λ line. (cause : LineFault) → cause_of fault ≡ Some cause → line ≡ fault_line number cause)
    → IfOk r (λ line. IfSome (answer_tree answer) (λ a. line ≡ hub_answer_line number a))
fault_line_is (Ok line) answer fault number is h = subst (λ x. IfSome (answer_tree x) (λ a. line ≡ hub_answer_line number a)) (sym is) (fault_has_line (cause_of fault) number line h)
fault_line_is (Err e) answer fault number is h = tt
