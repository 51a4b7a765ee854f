-- The run of the lens of a form over the items of a journal. Read it from the end: `triples_of`, `run_of`, `run_from`,
-- then `items_of`.
use Rattle.std.specs.Prelude.{List, [], ◌∷◌, Option, if◌then◌else◌}
use Rattle.edit_journal.specs.Lines.{is_blank}
use Rattle.edit_journal.specs.EntryJson.{LineFault, change_of_line}
use Rattle.edit_journal.specs.declared.line.Line.{Line}
use Rattle.lens_forms.specs.Forms.{FormTree, left_type, right_type}
use Rattle.lens_core.specs.Complements.{missing}
use Rattle.lens_core.specs.Consistency.{IsConsistent}
use Rattle.lens_core.specs.Translation.{translate}
use Rattle.edit_session.specs.Step.{TripleTree, IsInStep, first}
use Rattle.edit_session.specs.Run.{Item, AnswerTree, run, triples}

-- an item of a journal is a change, or the fault of a line that is not a change
abbrev pub JournalItem : Type 0
JournalItem = Item LineFault

abbrev pub JournalAnswer : Type 0
JournalAnswer = AnswerTree LineFault

-- the items among the lines of a journal: each line that is not blank
abbrev pub items_of : List Line → List JournalItem
items_of [] = []
items_of (line ∷ lines) = if is_blank line then items_of lines else change_of_line line ∷ items_of lines

-- the first triple of a form: the initial documents of its two types, and its missing complement
abbrev pub triple_at_first : FormTree → TripleTree
triple_at_first form = first (left_type form) (right_type form) (missing form)

-- the triple is in the form's consistency relation
abbrev pub IsInStepFor : FormTree → TripleTree → Type 0
IsInStepFor form t = IsInStep (IsConsistent form) t

-- for each item in order, from this triple on, the triple after it and the answer to it
abbrev pub run_from : FormTree → TripleTree → List JournalItem → Option (List (TripleTree × JournalAnswer))
run_from form t items = run (left_type form) (right_type form) (translate form) t items

-- every triple of the run from this one on: it, and the one after each item, those after refused items included
abbrev pub triples_from : FormTree → TripleTree → List JournalItem → Option (List TripleTree)
triples_from form t items = triples (left_type form) (right_type form) (translate form) t items

-- the run from the first triple on
abbrev pub run_of : FormTree → List JournalItem → Option (List (TripleTree × JournalAnswer))
run_of form items = run_from form (triple_at_first form) items

-- every triple of the run, the first one included
abbrev pub triples_of : FormTree → List JournalItem → Option (List TripleTree)
triples_of form items = triples_from form (triple_at_first form) items
