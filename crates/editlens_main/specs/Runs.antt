-- What `run`, `check`, `hub` and `link` promise: the same, of scripts that mean different things. What a script means
-- to each is said by an `impl`: of `PairRun` and of `TypesShown` in run_pair, of `HubRun` in hub_run, and of `LinkRun`
-- in run_link. What the report of a script is, and what holds at each status, is defined in run_scripts. Read it from
-- the end: `Runs` and the other three, then `RunsScript`.
use Rattle.command_ends.specs.Statuses.{IsFinished}
use Rattle.std.specs.Prelude.{◌≤◌, length, IfSome}
use Rattle.hub_run.specs.HubScript.{hub_script}
use Rattle.script_input.specs.declared.limits.TheConstants.{MOST_BYTES}
use Rattle.lens_io.specs.Calls.{SourceFailed, SinkFailed}
use Rattle.lens_io.specs.declared.sink.Sink as OfSink
use Rattle.lens_io.specs.declared.source.Source as OfSource
use Rattle.run_link.specs.LinkScript.{link_script}
use Rattle.run_pair.specs.Scripts.{pair_script, types_script}
use Rattle.run_scripts.specs.ScriptEnds.{IsComplete, Reports, Stops}
use Rattle.run_scripts.specs.declared.script_state.ScriptState as OfScript
use Rattle.command_ends.specs.declared.status.Status.{Status}

-- What is said of a script, of its states and of what answers a line is given by `script`.
pub record RunsScript {H S K : Type 0} (script : OfScript.Ghosts H) (source : OfSource.Ghosts S)
    (sink : OfSink.Ghosts K) (old new : S × K) (status : Status) : Type 0 where
  -- At its end the source was read to its end and its report was written. Every state of the run is in step: for `run`
  -- the documents and the complement are in the lens's consistency relation, for `hub` each view is with the hub, and
  -- for `link` the link is in turns.
  pub reports : IsFinished status → Reports script source sink old new status
  -- What was taken, at most 2^30 + 1 bytes, and written at every other status. What was answered is in step; behind the
  -- end of the source the law of the script's runs says so.
  -- ProgramRefused comes as soon as the program part is whole: with the call of the source that ended its separator, or
  -- at the end of the source. After SourceFault and InputTooLong the answers to exactly the lines of the journal that
  -- have ended were written. After SinkFault and NoMemory every line that had ended when the source was called last was
  -- answered, and its answer written.
  pub stops : Stops script source sink old new status
  -- over at most 2^30 bytes, if no device fails, it comes to its end, or refuses the program part, or memory runs out
  pub completes : IfSome (source.left old.0) (λ bytes. length bytes ≤ MOST_BYTES
      → (SourceFailed source old.0 new.0 → ⊥) → (SinkFailed sink old.1 new.1 → ⊥) → IsComplete script bytes status)

module _ {S K : Type 0} (source : OfSource.Ghosts S) (sink : OfSink.Ghosts K) (old new : S × K) (status : Status) where
  abbrev pub Runs : Type 0
  Runs = RunsScript pair_script source sink old new status

  abbrev pub Checks : Type 0
  Checks = RunsScript types_script source sink old new status

  abbrev pub RunsHub : Type 0
  RunsHub = RunsScript hub_script source sink old new status

  abbrev pub RunsLink : Type 0
  RunsLink = RunsScript link_script source sink old new status
