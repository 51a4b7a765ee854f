-- The report of a whole input: all that a command writes for it, and how it ends. What a script means is given. Read it
-- from the end: `report`, then `report_with` and `run_report`.
use Rattle.std.specs.Prelude.{ℕ, List, ◌++◌, Option, Some, option_map, Result, Ok, Err}
use Rattle.edit_journal.specs.declared.line.Line.{Line}
use Rattle.run_scripts.specs.LineRuns.{Written, written}
use Rattle.script_input.specs.Lines.{program_part, journal}
use Rattle.command_ends.specs.Statuses.{status_at_end}
use Rattle.run_scripts.specs.declared.script_state.ScriptState as OfScript
use Rattle.command_ends.specs.declared.status.Status.{Status}
use Rattle.command_ends.specs.declared.status.Status.TheVariants.{ProgramRefused}

module _ {H : Type 0} (script : OfScript.Ghosts H) where
  -- the answer lines of a run and the state lines of its last state, and its status
  abbrev pub with_state : Written script.State → List ℕ × Status
  with_state w = (w.0 ++ script.state_text w.2, status_at_end w.1)

  -- the report of the run over these lines
  abbrev pub run_report : script.State → List Line → Option (List ℕ × Status)
  run_report t lines = option_map with_state (written script.answer t lines)

  -- what is written and the status, from what the program part means or its refusal, and the lines of the journal
  abbrev pub report_with : Result script.Accepted script.Refusal → List Line → Option (List ℕ × Status)
  report_with (Ok program) lines = run_report (script.start program) lines
  report_with (Err refusal) lines = Some (script.refusal_line refusal, ProgramRefused)

  -- what a command writes for these bytes, and the status
  abbrev pub report : List ℕ → Option (List ℕ × Status)
  report bytes = report_with (script.accepted (program_part bytes)) (journal bytes)
