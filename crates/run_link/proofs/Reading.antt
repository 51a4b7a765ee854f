-- What is read has the tree of the line, and if a line is refused no event has its tree. The refusals of a text and of a word are those of
-- edit_journal.
use Rattle.std.proofs.Common.{◌≡◌, true, Option, Some, None, Result, Ok, Err, IfOk, refl, sym, ap, subst, ◌∙◌}
use Rattle.std.specs.Prelude.{IfErr, ◌≢◌, ok_or, option_map}
use Rattle.serde_json.specs.Data.{Data}
use Rattle.texts.specs.declared.side.Side.{Side}
use Rattle.edit_module.specs.Words.{WordTree}
use Rattle.edit_journal.specs.EntryJson as entries
use Rattle.edit_journal.specs.EntryJson.{tree_of_text, tree_of_line}
use Rattle.edit_journal.specs.Reading as of_entries
use Rattle.edit_journal.specs.declared.fault.EntryFault.{EntryFault}
use Rattle.edit_journal.specs.declared.fault.EntryFault.TheVariants as entry
use Rattle.edit_journal.specs.declared.line.Line.{Line}
use Rattle.edit_journal.specs.declared.line.Line.TheVariants.{Text, TooLong}
use Rattle.turn_link.specs.declared.event.Event.{Event}
use Rattle.turn_link.specs.Links.{EventTree, edit}
use Rattle.turn_link.specs.Views.{event_tree}
use Rattle.run_link.specs.EventJson.{EventCause, not_an_edit, tree_of_event, event_counts_fit, event_numbers_fit, event_if_json, event_of_line}
use Rattle.run_link.specs.Reading.{event_fault, cause_of, IsRefused, Gives}
use Rattle.run_link.specs.declared.fault.EventFault.{EventFault}
use Rattle.run_link.specs.declared.fault.EventFault.TheVariants.{LineTooLong, NotJson, NotAnEvent, NotAnEdit, NoMemory}
use Rattle.run_link.proofs.Events.{writes_back, reads_back}

-- ---- the refusals of edit_journal

text_fault : (o : Option Data) (f : EntryFault) → of_entries.IsRefused (of_entries.cause_of f) (ok_or o entries.not_json) → IsRefused (cause_of (event_fault f)) (event_if_json o)
text_fault o entry.NoMemory h = tt
text_fault None entry.NotJson h = refl
text_fault None entry.LineTooLong h = cc
text_fault None entry.NotAnEntry h = cc
text_fault None entry.NotAnEdit h = cc
text_fault (Some d) entry.NotJson h = cc
text_fault (Some d) entry.LineTooLong h = cc
text_fault (Some d) entry.NotAnEntry h = cc
text_fault (Some d) entry.NotAnEdit h = cc

word_fault : (side : Side) (o : Option WordTree) (f : EntryFault) → of_entries.IsRefused (of_entries.cause_of f) (ok_or o entries.not_an_edit)
    → IsRefused (cause_of (event_fault f)) (ok_or (option_map (edit side) o) not_an_edit)
word_fault side o entry.NoMemory h = tt
word_fault side None entry.NotAnEdit h = refl
word_fault side None entry.LineTooLong h = cc
word_fault side None entry.NotJson h = cc
word_fault side None entry.NotAnEntry h = cc
word_fault side (Some w) entry.NotAnEdit h = cc
word_fault side (Some w) entry.LineTooLong h = cc
word_fault side (Some w) entry.NotJson h = cc
word_fault side (Some w) entry.NotAnEntry h = cc

-- a text that is refused is no event
pub text_refused : (o : Option Data) (f : EntryFault) (fault : EventFault) → fault ≡ event_fault f → of_entries.IsRefused (of_entries.cause_of f) (ok_or o entries.not_json)
    → IsRefused (cause_of fault) (event_if_json o)
text_refused o f fault is h = subst (λ v. IsRefused (cause_of v) (event_if_json o)) (sym is) (text_fault o f h)

-- an edit whose word is refused is no event
pub word_refused : (side : Side) (o : Option WordTree) (f : EntryFault) (fault : EventFault) → fault ≡ event_fault f
    → of_entries.IsRefused (of_entries.cause_of f) (ok_or o entries.not_an_edit) → IsRefused (cause_of fault) (ok_or (option_map (edit side) o) not_an_edit)
word_refused side o f fault is h = subst (λ v. IsRefused (cause_of v) (ok_or (option_map (edit side) o) not_an_edit)) (sym is) (word_fault side o f h)

-- ---- lines

if_json_tree : (o : Option Data) (e : EventTree) → event_if_json o ≡ Ok e → (event_counts_fit e ≡ true) × (o ≡ Some (tree_of_event e))
if_json_tree None e h = cc
if_json_tree (Some d) e h = let w = writes_back d e h in (w.0, ap Some (sym w.2))

line_tree : (line : Line) (e : EventTree) → event_of_line line ≡ Ok e → (event_counts_fit e ≡ true) × (tree_of_line line ≡ Some (tree_of_event e))
line_tree (Text bytes) e h = if_json_tree (tree_of_text bytes) e h
line_tree TooLong e h = cc

line_reads_back : (line : Line) (e : EventTree) → event_counts_fit e ≡ true → event_numbers_fit e ≡ true → tree_of_line line ≡ Some (tree_of_event e) → event_of_line line ≡ Ok e
line_reads_back (Text bytes) e counts numbers h = ap event_if_json h ∙ reads_back e counts numbers
line_reads_back TooLong e counts numbers h = cc

-- a definition that gives an event does not refuse
no_refusal : (answer : Result EventTree EventCause) (e : EventTree) (fault : EventFault) → fault ≢ NoMemory → Gives event_tree (Err fault) answer → answer ≡ Ok e → ⊥
no_refusal answer e NoMemory not_memory gives ok = not_memory refl
no_refusal answer e LineTooLong not_memory gives ok = cc
no_refusal answer e NotJson not_memory gives ok = cc
no_refusal answer e NotAnEvent not_memory gives ok = cc
no_refusal answer e NotAnEdit not_memory gives ok = cc

pub line_counts : (r : Result Event EventFault) (line : Line) → Gives event_tree r (event_of_line line) → IfOk r (λ e. event_counts_fit (event_tree e) ≡ true)
line_counts (Ok e) line h = (line_tree line (event_tree e) h).0
line_counts (Err fault) line h = tt

pub line_given : (r : Result Event EventFault) (line : Line) → Gives event_tree r (event_of_line line) → IfOk r (λ e. tree_of_line line ≡ Some (tree_of_event (event_tree e)))
line_given (Ok e) line h = (line_tree line (event_tree e) h).1
line_given (Err fault) line h = tt

pub line_refused : (r : Result Event EventFault) (line : Line) → Gives event_tree r (event_of_line line)
    → IfErr r (λ fault. fault ≢ NoMemory → (e : EventTree) → event_counts_fit e ≡ true → event_numbers_fit e ≡ true → tree_of_line line ≡ Some (tree_of_event e) → ⊥)
line_refused (Ok e) line h = tt
line_refused (Err fault) line h = λ not_memory e counts numbers tree. no_refusal (event_of_line line) e fault not_memory h (line_reads_back line e counts numbers tree)
