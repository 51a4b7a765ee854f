-- Calls over a store that write what the program writes without a store, and store what it comes to.
-- Read it from the end: `AnswersAsHub`, then `AnswersAsRun`.
use Rattle.std.specs.Prelude.{◌≡◌, ℕ, List, ◌++◌, IfSome, None, Some, Ok}
use Rattle.program_accepted.specs.Program.{lens_of}
use Rattle.command_ends.specs.declared.status.Status.{Status}
use Rattle.edit_journal.specs.Pieces.{lines_of}
use Rattle.edit_session.specs.Run as journals
use Rattle.edit_session.specs.Step.{TripleTree}
use Rattle.gate_log.specs.LogOnDisk.{HoldsPayloads}
use Rattle.hub_run.specs.HubScript.{hub_script}
use Rattle.hub_run.specs.Runs.{HubState, hub_state_text}
use Rattle.hub_session.specs.HubStates as hubs
use Rattle.lens_forms.specs.Forms.{FormTree}
use Rattle.lens_io.specs.Calls.{Took, IsRead, Gave}
use Rattle.lens_io.specs.declared.disk.Disk as OfDisk
use Rattle.lens_io.specs.declared.sink.Sink as OfSink
use Rattle.lens_io.specs.declared.source.Source as OfSource
use Rattle.run_answers.specs.ItemRuns.{JournalAnswer, triple_at_first, items_of, run_of}
use Rattle.run_pair.specs.Scripts.{pair_script}
use Rattle.script_input.specs.Lines.{journal, program_part}
use Rattle.run_scripts.specs.Report.{report}
use Rattle.store_session.specs.StoredStates.{stands_for, state_with}
use Rattle.law_store_text.specs.HubsAlike.{HasNoGroup}
use Rattle.store_run.specs.Devices.{Devices}

module _ {S K D : Type 0} (source : OfSource.Ghosts S) (sink : OfSink.Ghosts K) (disk : OfDisk.Ghosts D)
    (old new : Devices S K D) where
  -- The call read its source to the end. It wrote what `run` writes for every script that has this program part, and as
  -- its journal the lines of the source; the status is the same. The store represents the last triple of that run.
  pub record AnswersAsRun (status : Status) (part : List ℕ) : Type 0 where
    -- the bytes that the call took: all that the source had
    pub bytes : List ℕ
    pub took : Took source old.source new.source bytes
    pub read : IsRead source old.source new.source
    -- what it wrote
    pub text : List ℕ
    pub gave : Gave sink old.sink new.sink text
    pub is_report : (script : List ℕ) → program_part script ≡ part → journal script ≡ lines_of bytes
        → report pair_script script ≡ Some (text, status)
    -- the lens of the program part, and its run over the items of these lines
    pub form : FormTree
    pub lens : lens_of part ≡ Ok form
    pub steps : List (TripleTree × JournalAnswer)
    pub is_run : run_of form (items_of (lines_of bytes)) ≡ Some steps
    -- the disk holds payloads that stand for the last triple of the run
    pub payloads : List (List ℕ)
    pub holds : IfSome (disk.content new.disk) (HoldsPayloads payloads)
    pub stands : stands_for payloads ≡ Ok (state_with form (journals.last (triple_at_first form) steps), None)

  -- The call read its source to the end. If none of its lines is a group, it wrote what `hub` writes for every script that
  -- has this program part, and as its journal the lines of the source; the status is the same.
  pub record AnswersAsHub (status : Status) (part : List ℕ) : Type 0 where
    -- the bytes that the call took: all that the source had
    pub bytes : List ℕ
    pub took : Took source old.source new.source bytes
    pub read : IsRead source old.source new.source
    -- what it wrote
    pub text : List ℕ
    pub gave : Gave sink old.sink new.sink text
    pub is_report : HasNoGroup (lines_of bytes) → (script : List ℕ) → program_part script ≡ part
        → journal script ≡ lines_of bytes → report hub_script script ≡ Some (text, status)
    -- the disk holds payloads that stand for a hub, and the state lines of that hub are the last lines that it wrote
    pub payloads : List (List ℕ)
    pub state : HubState
    pub answers : List ℕ
    pub is_text : text ≡ answers ++ hub_state_text state
    pub holds : IfSome (disk.content new.disk) (HoldsPayloads payloads)
    pub stands : hubs.hub_stands_for payloads ≡ Ok (state, None)
