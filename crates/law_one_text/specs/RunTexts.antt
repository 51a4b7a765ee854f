-- What `run` writes for a script, in the words of the library. Read it from the end: `IsSessionRefused`,
-- `IsRefusalText`, then `IsRunText`.
use Rattle.std.specs.Prelude.{◌≡◌, ℕ, List, Some, Ok, Err}
use Rattle.program_accepted.specs.Program.{Refusal, lens_of}
use Rattle.answer_text.specs.RefusalLines.{refused_part_line}
use Rattle.command_ends.specs.Statuses.{status_at_end}
use Rattle.command_ends.specs.declared.status.Status.{Status}
use Rattle.command_ends.specs.declared.status.Status.TheVariants.{ProgramRefused}
use Rattle.edit_session.specs.Run.{any_refused}
use Rattle.edit_session.specs.Step.{TripleTree}
use Rattle.embed_session.specs.Embedded.{IsRefusedWith}
use Rattle.embed_session.specs.declared.embedded.EmbeddedSession.{EmbeddedSession}
use Rattle.embed_session.specs.declared.embedded.EmbeddedSession.TheVariants as embedded
use Rattle.lens_forms.specs.Forms.{FormTree}
use Rattle.run_answers.specs.Answers.{text_from}
use Rattle.run_answers.specs.ItemRuns.{JournalAnswer, triple_at_first, items_of, run_of}
use Rattle.script_input.specs.Lines.{program_part, journal}

-- The program part of the script is accepted. The text is the answer lines of the run of its lens over the items of the
-- journal, and then the state lines of the last triple. The status says whether an item was refused.
pub record IsRunText (script text : List ℕ) (status : Status) : Type 0 where
  pub form : FormTree
  pub lens : lens_of (program_part script) ≡ Ok form
  pub steps : List (TripleTree × JournalAnswer)
  pub is_run : run_of form (items_of (journal script)) ≡ Some steps
  pub is_text : text ≡ text_from form (triple_at_first form) steps
  pub is_status : status ≡ status_at_end (any_refused steps)

-- The program part of the script is refused, and the text is the line of the refusal.
pub record IsRefusalText (script text : List ℕ) (status : Status) : Type 0 where
  pub refusal : Refusal
  pub refused : lens_of (program_part script) ≡ Err refusal
  pub is_text : text ≡ refused_part_line refusal
  pub is_status : status ≡ ProgramRefused

-- the library has no session for this program, since the program is refused
abbrev pub IsSessionRefused : List ℕ → EmbeddedSession → Type 0
IsSessionRefused program (embedded.Refused refused line) = IsRefusedWith program refused line.items
IsSessionRefused program (embedded.Open session) = ⊥
IsSessionRefused program (embedded.StateRefused why) = ⊥
IsSessionRefused program (embedded.RecordsRefused why) = ⊥
IsSessionRefused program embedded.NoMemory = ⊥
