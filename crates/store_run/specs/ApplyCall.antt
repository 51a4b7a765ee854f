-- The whole command `apply`: what it comes to, and what a crash leaves of it.
-- Read it from the end: `EndsCall` for each status, `IsSafeCall`, then `ContinuesCall`.
use Rattle.command_ends.specs.Statuses.{status_at_end}
use Rattle.std.specs.Prelude.{◌≡◌, ◌⊎◌, ℕ, ◌+◌, ◌≤◌, List, [], ◌++◌, length, Option, Some, None, Ok, option_to_list}
use Rattle.std.specs.Prelude.{IfSome}
use Rattle.lens_io.specs.Calls.{Took, IsRead, IsUnasked, Gave}
use Rattle.lens_io.specs.DiskRuns.{LeavesOnly}
use Rattle.lens_io.specs.declared.source.Source as OfSource
use Rattle.lens_io.specs.declared.sink.Sink as OfSink
use Rattle.lens_io.specs.declared.disk.Disk as OfDisk
use Rattle.gate_log.specs.LogOnDisk.{LogState, HoldsPayloads}
use Rattle.edit_journal.specs.Pieces.{lines_of}
use Rattle.edit_journal.specs.declared.line.Line.{Line}
use Rattle.script_input.specs.declared.limits.TheConstants.{MOST_BYTES}
use Rattle.store_run.specs.Devices.{Devices}
use Rattle.store_run.specs.Crash.{IsAcknowledged}
use Rattle.store_run.specs.Effects.{HoldsFirst, StandsOn}
use Rattle.store_run.specs.ApplyEnds.{ExitsApply}
use Rattle.store_run.specs.OkLines.{ok_lines}
use Rattle.store_run.specs.Refusals.{IsUnwritten, IsOpening, FailsUnopened}
use Rattle.store_run.specs.StoreRuns.{run_in_store, AreSteps, last_stored, any_line_refused, text_of, kept_of}
use Rattle.store_run.specs.declared.session.StoredAnswer.{StoredAnswer}
use Rattle.store_run.specs.declared.session.StoredSession as OfSession
use Rattle.command_ends.specs.declared.status.Status.{Status}

-- The payloads from before, with the first of those that these steps store or with all of them, stand for a state of
-- the run: the one behind the steps that stored these first ones. If there are any, the version record is not still to
-- be stored.
abbrev pub EachStands : {A : Type 0} → (session : OfSession.Ghosts A) → List (List ℕ) → session.State
    → Option (List ℕ) → List (session.State × StoredAnswer) → Type 0
EachStands session before t version steps = (front rest : List (List ℕ))
    → option_to_list version ++ kept_of steps ≡ front ++ rest
    → (xs : List (session.State × StoredAnswer)) × (ys : List (session.State × StoredAnswer)) × (v : Option (List ℕ))
    × (steps ≡ xs ++ ys) × (session.stands_for (before ++ front) ≡ Ok (last_stored t xs, v))
    × (front ++ option_to_list v ≡ option_to_list version ++ kept_of xs) × ((front ≡ []) ⊎ (v ≡ None))

-- The sync of the opening failed. Nothing was taken or written, and there is no image that was not possible before.
pub record IsUnopened {S K D : Type 0} (source : OfSource.Ghosts S) (sink : OfSink.Ghosts K) (disk : OfDisk.Ghosts D)
    (old new : Devices S K D) : Type 0 where
  pub unasked : IsUnasked source old.source new.source
  pub given : Gave sink old.sink new.sink []
  pub only : (c : List ℕ) → disk.images new.disk c → disk.images old.disk c
  pub moments : LeavesOnly disk old.disk new.disk (disk.images old.disk)

-- A source, a sink and a disk, before the call and after it. The payloads held before the call stand for the state t,
-- with a version record if it is still to be stored.
module _ {S K D A : Type 0} (source : OfSource.Ghosts S) (sink : OfSink.Ghosts K) (disk : OfDisk.Ghosts D)
    (session : OfSession.Ghosts A) (old : S × K) (new : Devices S K D) where
  -- The source was read to its end, and gave these bytes. The answer lines of the run over their lines, and then the
  -- state lines of its last state, were written. The payloads held are those from before, the version record if it
  -- was to be stored, and those of the changes that were accepted, in order. They stand for the last state, and have
  -- so many changes more.
  pub record ContinuesCall (before : List (List ℕ)) (t : session.State) (version : Option (List ℕ))
      (status : Status) : Type 0 where
    pub bytes : List ℕ
    pub consumes : Took source old.0 new.source bytes
    pub at_end : IsRead source old.0 new.source
    pub within : length bytes ≤ MOST_BYTES
    pub steps : List (session.State × StoredAnswer)
    pub is_run : run_in_store session t 0 (lines_of bytes) ≡ Some steps
    pub given : Gave sink old.1 new.sink (text_of steps ++ session.state_text (last_stored t steps))
    pub kept : IfSome (disk.content new.disk) (HoldsPayloads ((before ++ option_to_list version) ++ kept_of steps))
    pub stand : session.stands_for ((before ++ option_to_list version) ++ kept_of steps)
        ≡ Ok (last_stored t steps, None)
    pub count : session.count_of ((before ++ option_to_list version) ++ kept_of steps)
        ≡ session.count_of before + length (kept_of steps)
    pub ended : status ≡ status_at_end (any_line_refused steps)

module _ {S K D A : Type 0} (source : OfSource.Ghosts S) (sink : OfSink.Ghosts K) (disk : OfDisk.Ghosts D)
    (session : OfSession.Ghosts A) (old new : Devices S K D) where
  -- These bytes were taken, and these were written. Of the lines taken the first ones were handled, by these steps of
  -- the run. An image that a crash now may leave holds the payloads of the changes whose `ok` lines were written, and
  -- at most one more; or, if no `ok` line was written, the payloads from before. An image of a moment since the start
  -- of the call is one that was possible then, or holds the payloads from before and the first of those that follow:
  -- the version record, and then those of the changes. Each of these lists of payloads stands for a state of the run.
  pub record IsSafeCall (past : List ℕ → Type 0) (before : List (List ℕ)) (t : session.State)
      (version : Option (List ℕ)) : Type 0 where
    pub bytes : List ℕ
    pub consumes : Took source old.source new.source bytes
    pub lines : List Line
    pub rest : List Line
    pub parts : lines_of bytes ≡ lines ++ rest
    pub steps : List (session.State × StoredAnswer)
    pub is_run : run_in_store session t 0 lines ≡ Some steps
    pub given : List ℕ
    pub appends : Gave sink old.sink new.sink given
    pub now : (c : List ℕ) → disk.images new.disk c
        → (ok_lines given ≡ 0) × HoldsPayloads before c
        ⊎ IsAcknowledged (before ++ option_to_list version) (kept_of steps) given c
    pub moments : LeavesOnly disk old.disk new.disk (λ c. past c ⊎ HoldsFirst before
        (option_to_list version ++ kept_of steps) c)
    pub stand : EachStands session before t version steps

  -- ---- how the call ends, by its status

  -- The session was opened with the payloads from before, and from there the call ended by one of the exits. The disk
  -- was d1 then, and the log stood on it with these payloads. Whatever steps were made, the payloads that they store
  -- stand for states of the run: all of them for the last one.
  pub record EndsOpened (before : List (List ℕ)) (t : session.State) (version : Option (List ℕ))
      (status : Status) : Type 0 where
    pub d1 : D
    pub log : LogState
    pub log' : LogState
    pub t' : session.State
    pub opens : IsOpening disk old.disk d1
    pub stands : StandsOn disk d1 log before
    pub exits : ExitsApply source sink disk session (old.source, old.sink, d1, log)
        (new.source, new.sink, new.disk, log')
        (option_to_list version) t t' status
    pub stand : (steps : List (session.State × StoredAnswer)) → AreSteps session t steps
        → session.stands_for ((before ++ option_to_list version) ++ kept_of steps) ≡ Ok (last_stored t steps, None)
    pub each : (steps : List (session.State × StoredAnswer)) → AreSteps session t steps
        → EachStands session before t version steps

  -- the call ended so, or failed before: then the source was not called, and nothing was written to the disk or the
  -- sink
  abbrev pub EndsCall : List (List ℕ) → session.State → Option (List ℕ) → Status → Type 0
  EndsCall before t version status =
      EndsOpened before t version status
      ⊎ IsUnwritten disk old.disk new.disk × IsUnasked source old.source new.source
      × FailsUnopened sink disk (old.sink, old.disk) (new.sink, new.disk) status
