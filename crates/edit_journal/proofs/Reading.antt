-- What is read has the tree of the line, and where a line is refused no change has its tree.
use Rattle.std.proofs.Common.{◌≡◌, true, Option, Some, None, Result, Ok, Err, IfOk, refl, sym, ap, ◌∙◌}
use Rattle.std.specs.Prelude.{IfErr, ◌≢◌}
use Rattle.serde_json.specs.Data.{Data}
use Rattle.edit_module.specs.Changes.{ChangeTree}
use Rattle.edit_module.specs.Views.{change_tree}
use Rattle.edit_module.specs.declared.change.Change.{Change}
use Rattle.edit_journal.specs.EntryJson.{LineFault, change_counts_fit, change_numbers_fit, tree_of_text, tree_of_line, tree_of_change, change_of_tree, change_if_json, change_of_line}
use Rattle.edit_journal.specs.Reading.{Gives}
use Rattle.edit_journal.specs.declared.fault.EntryFault.{EntryFault}
use Rattle.edit_journal.specs.declared.fault.EntryFault.TheVariants.{LineTooLong, NotJson, NotAnEntry, NotAnEdit, NoMemory}
use Rattle.edit_journal.specs.declared.line.Line.{Line}
use Rattle.edit_journal.specs.declared.line.Line.TheVariants.{Text, TooLong}
use Rattle.edit_journal.proofs.Groups.{change_reads_back, change_writes_back}

-- ---- lines

if_json_tree : (o : Option Data) (c : ChangeTree) → change_if_json o ≡ Ok c → (change_counts_fit c ≡ true) × (o ≡ Some (tree_of_change c))
if_json_tree None c h = cc
if_json_tree (Some d) c h = let w = change_writes_back d c h in (w.0, ap Some (sym w.2))

line_tree : (line : Line) (c : ChangeTree) → change_of_line line ≡ Ok c → (change_counts_fit c ≡ true) × (tree_of_line line ≡ Some (tree_of_change c))
line_tree (Text bytes) c h = if_json_tree (tree_of_text bytes) c h
line_tree TooLong c h = cc

line_reads_back : (line : Line) (c : ChangeTree) → change_counts_fit c ≡ true → change_numbers_fit c ≡ true → tree_of_line line ≡ Some (tree_of_change c) → change_of_line line ≡ Ok c
line_reads_back (Text bytes) c counts numbers h = ap change_if_json h ∙ change_reads_back c counts numbers
line_reads_back TooLong c counts numbers h = cc

-- ---- what is given, and what is refused

-- a definition that gives a change does not refuse
no_refusal : (answer : Result ChangeTree LineFault) (c : ChangeTree) (fault : EntryFault) → fault ≢ NoMemory → Gives change_tree (Err fault) answer → answer ≡ Ok c → ⊥
no_refusal answer c NoMemory not_memory gives ok = not_memory refl
no_refusal answer c LineTooLong not_memory gives ok = cc
no_refusal answer c NotJson not_memory gives ok = cc
no_refusal answer c NotAnEntry not_memory gives ok = cc
no_refusal answer c NotAnEdit not_memory gives ok = cc

pub line_counts : (r : Result Change EntryFault) (line : Line) → Gives change_tree r (change_of_line line) → IfOk r (λ c. change_counts_fit (change_tree c) ≡ true)
line_counts (Ok c) line h = (line_tree line (change_tree c) h).0
line_counts (Err fault) line h = tt

pub line_given : (r : Result Change EntryFault) (line : Line) → Gives change_tree r (change_of_line line) → IfOk r (λ c. tree_of_line line ≡ Some (tree_of_change (change_tree c)))
line_given (Ok c) line h = (line_tree line (change_tree c) h).1
line_given (Err fault) line h = tt

pub line_refused : (r : Result Change EntryFault) (line : Line) → Gives change_tree r (change_of_line line)
    → IfErr r (λ fault. fault ≢ NoMemory → (c : ChangeTree) → change_counts_fit c ≡ true → change_numbers_fit c ≡ true → tree_of_line line ≡ Some (tree_of_change c) → ⊥)
line_refused (Ok c) line h = tt
line_refused (Err fault) line h = λ not_memory c counts numbers tree. no_refusal (change_of_line line) c fault not_memory h (line_reads_back line c counts numbers tree)

pub tree_counts : (r : Result Change EntryFault) (d : Data) → Gives change_tree r (change_of_tree d) → IfOk r (λ c. change_counts_fit (change_tree c) ≡ true)
tree_counts (Ok c) d h = (change_writes_back d (change_tree c) h).0
tree_counts (Err fault) d h = tt

pub tree_given : (r : Result Change EntryFault) (d : Data) → Gives change_tree r (change_of_tree d) → IfOk r (λ c. tree_of_change (change_tree c) ≡ d)
tree_given (Ok c) d h = (change_writes_back d (change_tree c) h).2
tree_given (Err fault) d h = tt

pub tree_refused : (r : Result Change EntryFault) (d : Data) → Gives change_tree r (change_of_tree d)
    → IfErr r (λ fault. fault ≢ NoMemory → (c : ChangeTree) → change_counts_fit c ≡ true → change_numbers_fit c ≡ true → tree_of_change c ≡ d → ⊥)
tree_refused (Ok c) d h = tt
tree_refused (Err fault) d h = λ not_memory c counts numbers tree. no_refusal (change_of_tree d) c fault not_memory h (ap change_of_tree (sym tree) ∙ change_reads_back c counts numbers)
