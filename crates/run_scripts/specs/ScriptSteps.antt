-- For the parts of a call over a script: what is known of its end, of a program part that was opened, and of an input
-- without a journal.
use Rattle.std.specs.Prelude.{◌≡◌, ◌⊎◌, ℕ, List, [], ◌++◌, Some, Result, Ok, Err, IfOk, MatchResult, option_to_list}
use Rattle.std.specs.declared.alloc.AllocError.{AllocError}
use Rattle.lens_io.specs.Calls.{Gave, GaveFront}
use Rattle.lens_io.specs.declared.sink.Sink as OfSink
use Rattle.edit_journal.specs.Pieces.{last_line}
use Rattle.edit_journal.specs.declared.line.Line.{Line}
use Rattle.run_scripts.specs.LineRuns.{GoesOver}
use Rattle.run_scripts.specs.declared.progress.Progress.{Progress}
use Rattle.run_scripts.specs.Report.{report_with}
use Rattle.command_ends.specs.Statuses.{IsFinished, status_at_end}
use Rattle.run_scripts.specs.declared.report.Report.{Report}
use Rattle.run_scripts.specs.declared.script_state.NotOpened.{NotOpened}
use Rattle.run_scripts.specs.declared.script_state.NotOpened.TheVariants as opening
use Rattle.run_scripts.specs.declared.script_state.ScriptState as OfScript
use Rattle.command_ends.specs.declared.status.Status.{Status}
use Rattle.command_ends.specs.declared.status.Status.TheVariants.{ProgramRefused, SinkFault, NoMemory}

-- ---- a report

-- The report was written, with its status; or the sink failed at it. If memory ran out before it was made, nothing was
-- written.
module _ {K : Type 0} (sink : OfSink.Ghosts K) (old new : K) where
  abbrev pub Gives : Result Report AllocError → Status → Type 0
  Gives (Ok report) status =
      (status ≡ report.status) × Gave sink old new report.text.items
      ⊎ (status ≡ SinkFault) × GaveFront sink old new report.text.items
  Gives (Err fault) status = (status ≡ NoMemory) × Gave sink old new []

-- the status of a report: nothing but a refusal of the program part has stopped the call
abbrev pub IsEnd : Status → Type 0
IsEnd status = IsFinished status ⊎ (status ≡ ProgramRefused)

abbrev pub HasEnd : Result Report AllocError → Type 0
HasEnd report = IfOk report (λ r. IsEnd r.status)

module _ {H : Type 0} (script : OfScript.Ghosts H) where
  -- What is written at the end of a run, with its status. The run goes over the line that is begun, and the text has
  -- the answers that are not written yet and the state lines.
  pub record EndsReport (t : script.State) (p : Progress) (begun : Line) (r : Report) : Type 0 where
    pub state : script.State
    pub progress : Progress
    pub goes : GoesOver script.answer t p (option_to_list (last_line begun)) state progress
    pub text : r.text.items ≡ progress.text.items ++ script.state_text state
    pub status : r.status ≡ status_at_end progress.refused

  -- ---- a program part that is opened. What it means, or why it is refused, is given.

  module _ (accepted : Result script.Accepted script.Refusal) where
    -- the program part is accepted, and this is the state before the first line of the journal
    pub record IsOpened (t : script.State) : Type 0 where
      pub program : script.Accepted
      pub is : accepted ≡ Ok program
      pub first : t ≡ script.start program

    -- the program part is refused with this line
    pub record IsRefusedWith (line : List ℕ) : Type 0 where
      pub refusal : script.Refusal
      pub is : accepted ≡ Err refusal
      pub is_line : line ≡ script.refusal_line refusal

    -- why a program part was not opened; running out of memory says nothing
    abbrev pub IsNotOpened : NotOpened → Type 0
    IsNotOpened (opening.Refused line) = IsRefusedWith line
    IsNotOpened opening.NoMemory = Unit {0}

    -- the state that was opened, or why none was
    abbrev pub Opens : Result H NotOpened → Type 0
    Opens result = MatchResult result (λ h. IsOpened (script.state h)) IsNotOpened

  -- ---- a script without a journal

  -- The report of a program part alone was written, with its status; or the sink failed at it, or memory ran out before
  -- it was made.
  pub record GivesAlone {K : Type 0} (sink : OfSink.Ghosts K) (old new : K)
      (accepted : Result script.Accepted script.Refusal)
      (status : Status) : Type 0 where
    -- the report, unless memory ran out
    pub made : Result Report AllocError
    pub is_report : IfOk made (λ r. report_with script accepted [] ≡ Some (r.text.items, r.status))
    -- what was written of it
    pub gives : Gives sink old new made status
