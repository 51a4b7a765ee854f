-- An answer that has a line has a tree, and what a fault of a line says of both.
use Rattle.std.proofs.Common.{◌≡◌, ℕ, List, ◌++◌, true, Option, None, Some, option_map, Result, length, refl, sym, subst, ◌∙◌}
use Rattle.std.specs.Prelude.{IfSome, OnOk}
use Rattle.texts.proofs.Outcomes.{on_ok}
use Rattle.std.specs.List.{list_all}
use Rattle.std.proofs.lemmas.List.{length-map}
use Rattle.edit_module.specs.Views.{word_tree, entry_tree, word_trees, entry_trees}
use Rattle.edit_module.specs.declared.entry.Entry.{Entry}
use Rattle.edit_module.specs.declared.word.Word.{Word}
use Rattle.edit_json.specs.WordJson.{counts_fit}
use Rattle.run_answers.proofs.StepCounts.{Counted}
use Rattle.edit_journal.specs.EntryJson.{LineFault}
use Rattle.edit_journal.specs.Reading.{cause_of}
use Rattle.edit_journal.specs.declared.fault.EntryFault.{EntryFault}
use Rattle.edit_journal.specs.declared.fault.EntryFault.TheVariants.{LineTooLong, NotJson, NotAnEntry, NotAnEdit, NoMemory}
use Rattle.edit_session.specs.Run.{no_entry}
use Rattle.answer_text.specs.Lines.{fault_line}
use Rattle.run_answers.specs.AnswerLines.{HasAnswerLine}
use Rattle.run_answers.specs.Answers.{answer_line}
use Rattle.run_answers.specs.ItemRuns.{JournalAnswer}
use Rattle.run_answers.specs.ItemViews.{answer_tree}
use Rattle.run_answers.specs.declared.answers.PairAnswer.{PairAnswer}
use Rattle.run_answers.specs.declared.answers.PairAnswer.TheVariants.{Carried, NoApply, GroupCarried, GroupNoApply, NoEntry}

pub has_tree : (answer : PairAnswer) → HasAnswerLine answer → (a : JournalAnswer) × (answer_tree answer ≡ Some a)
has_tree (Carried side w) h = (_, refl)
has_tree (NoApply at cause) h = (_, refl)
has_tree (GroupCarried group words) h = (_, refl)
has_tree (GroupNoApply part at cause) h = (_, refl)
has_tree (NoEntry LineTooLong) h = (_, refl)
has_tree (NoEntry NotJson) h = (_, refl)
has_tree (NoEntry NotAnEntry) h = (_, refl)
has_tree (NoEntry NotAnEdit) h = (_, refl)
has_tree (NoEntry NoMemory) h = absurd h

pub is_so : (P : JournalAnswer → Type 0) (o : Option JournalAnswer) (a : JournalAnswer) → o ≡ Some a → IfSome o P → P a
is_so P None a e h = cc
is_so P (Some b) a e h = let same : b ≡ a = cc in subst P same h

-- and its line is that of the cause
fault_added : (o : Option LineFault) (number : ℕ) (old new : List ℕ) → ((cause : LineFault) → o ≡ Some cause → new ≡ old ++ fault_line number cause)
    → IfSome (option_map no_entry o) (λ (a : JournalAnswer). new ≡ old ++ answer_line number a)
fault_added None number old new h = tt
fault_added (Some cause) number old new h = h cause refl

pub fault_line_added : {E : Type 0} (r : Result (Unit {0}) E) (answer : PairAnswer) (fault : EntryFault) (number : ℕ) (old new : List ℕ) → answer ≡ NoEntry fault
    → OnOk r ((cause : LineFault) → cause_of fault ≡ Some cause → new ≡ old ++ fault_line number cause)
    → OnOk r (IfSome (answer_tree answer) (λ a. new ≡ old ++ answer_line number a))
fault_line_added r answer fault number old new is h =
    on_ok r _ _ (λ f. subst (λ x. IfSome (answer_tree x) (λ a. new ≡ old ++ answer_line number a)) (sym is) (fault_added (cause_of fault) number old new f)) h

-- a group that was accepted has a line
pub words_counted : (es : List Entry) (ws : List Word) → Counted (entry_trees es) (word_trees ws) → (length ws ≡ length es) × (list_all counts_fit (word_trees ws) ≡ true)
words_counted es ws c = (sym (length-map ws word_tree) ∙ c.0 ∙ length-map es entry_tree, c.1)
