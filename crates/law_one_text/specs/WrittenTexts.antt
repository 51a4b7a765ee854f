-- A text that is all that a command writes for a script.
use Rattle.std.specs.Prelude.{◌≡◌, ℕ, List, Some}
use Rattle.command_ends.specs.Statuses.{IsFinished}
use Rattle.command_ends.specs.declared.status.Status.{Status}
use Rattle.run_scripts.specs.Report.{report}
use Rattle.run_scripts.specs.declared.script_state.ScriptState as OfScript

-- the text is the report of the script, and the run came to its end
pub record IsReportText {H : Type 0} (means : OfScript.Ghosts H) (script text : List ℕ) : Type 0 where
  pub status : Status
  pub finished : IsFinished status
  pub is_report : report means script ≡ Some (text, status)
