-- Calls of `apply` over a store, whatever session it has, and what a second call makes of what the first one left.
-- Read it from the end: `GoesOnFrom`, `FinishesLines`, `LeavesFirstLines`, then `AppliesOver`.
use Rattle.command_ends.specs.Statuses.{IsFinished}
use Rattle.std.specs.Prelude.{◌≡◌, ◌⊎◌, ℕ, ◌+◌, ◌≤◌, List, ◌++◌, length, None, IfSome}
use Rattle.edit_journal.specs.Pieces.{lines_of}
use Rattle.edit_journal.specs.declared.line.Line.{Line}
use Rattle.gate_log.specs.LogOnDisk.{HoldsPayloads}
use Rattle.lens_io.specs.Calls.{Took, IsRead, Gave}
use Rattle.lens_io.specs.declared.disk.Disk as OfDisk
use Rattle.lens_io.specs.declared.sink.Sink as OfSink
use Rattle.lens_io.specs.declared.source.Source as OfSource
use Rattle.store_run.specs.Devices.{Devices}
use Rattle.store_run.specs.ApplyCall.{ContinuesCall, IsUnopened, IsSafeCall}
use Rattle.store_run.specs.OkLines.{ok_lines}
use Rattle.store_run.specs.StoreRuns.{kept_of, last_stored, text_of}
use Rattle.store_run.specs.Stores.{Store}
use Rattle.store_run.specs.declared.session.StoredSession as OfSession
use Rattle.command_ends.specs.declared.status.Status.{Status}
use Rattle.command_ends.specs.declared.status.Status.TheVariants.{DiskFault}
use Rattle.law_stores.specs.StoresOfSessions.{HeldStore, AddsRun, IsOneRun}

-- the store on a disk
abbrev pub held_on : {D A : Type 0} (disk : OfDisk.Ghosts D) (session : OfSession.Ghosts A) (d : D)
    → Store disk session d → HeldStore session
held_on disk session d store = record {
  payloads = store.payloads;
  state = store.state;
  version = store.version;
  stands = store.stands;
}

module _ {S K D A : Type 0} (source : OfSource.Ghosts S) (sink : OfSink.Ghosts K) (disk : OfDisk.Ghosts D)
    (session : OfSession.Ghosts A) where
  -- A call of `apply` over a store, as far as the laws need it: what it comes to at its end, and what a crash leaves of
  -- it. For a hub these are clauses of the contract of the call. A call for a pair may also run out of memory before it
  -- calls a device; law_apply has the same laws with that case.
  pub record AppliesOver (old new : Devices S K D) (status : Status) (store : Store disk session old.disk) : Type 0
    where
      pub continues : IsFinished status → ContinuesCall source sink disk session (old.source, old.sink) new store.payloads
          store.state store.version status
      pub survives : (status ≡ DiskFault) × IsUnopened source sink disk old new
          ⊎ IsSafeCall source sink disk session old new (disk.images old.disk) store.payloads store.state store.version

  -- A call over the store `before` leaves this image, which is a store again.
  pub record LeavesFirstLines (old new : Devices S K D) (before : HeldStore session) (image : List ℕ) : Type 0 where
    -- the bytes that the call took, and those that it wrote
    pub bytes : List ℕ
    pub took : Took source old.source new.source bytes
    pub given : List ℕ
    pub gave : Gave sink old.sink new.sink given
    -- the first lines of the bytes, and those that follow
    pub lines : List Line
    pub rest : List Line
    pub parts : lines_of bytes ≡ lines ++ rest
    -- the image holds the payloads of a store, which is the store `before` and the run over the first lines
    pub after : HeldStore session
    pub holds : HoldsPayloads after.payloads image
    pub run : AddsRun session before lines after
    -- it has each change whose `ok` line was written, and at most one more
    pub least : ok_lines given ≤ length (kept_of run.steps)
    pub most : length (kept_of run.steps) ≤ ok_lines given + 1

  -- A call over the store `before` came to its end.
  pub record FinishesLines (old new : Devices S K D) (before : HeldStore session) : Type 0 where
    -- the bytes that the call took: all that the source had
    pub bytes : List ℕ
    pub took : Took source old.source new.source bytes
    pub read : IsRead source old.source new.source
    -- the disk holds the payloads of a store, which is the store `before` and the run over all lines
    pub after : HeldStore session
    pub holds : IfSome (disk.content new.disk) (HoldsPayloads after.payloads)
    pub run : AddsRun session before (lines_of bytes) after
    -- the version record is stored
    pub version : after.version ≡ None
    -- the answers of the run were written, numbered from 1 on, and then its last state
    pub gave : Gave sink old.sink new.sink (text_of run.steps
        ++ session.state_text (last_stored before.state run.steps))

  -- A call failed to open the store. The image that it left was possible before it, and nothing was taken or written.
  pub record StaysClosed (old new : Devices S K D) (status : Status) (image : List ℕ) : Type 0 where
    pub failed : status ≡ DiskFault
    pub unopened : IsUnopened source sink disk old new
    pub was : disk.images old.disk image

  -- A first call made this run, over these lines from the store `before` to the store `between`. A second call over
  -- `between` goes on from there: the two are one run.
  pub record GoesOnFrom {before between : HeldStore session} {lines : List Line} (old new : Devices S K D)
      (status : Status) (first : AddsRun session before lines between) : Type 0 where
    -- An image that the second call may leave is a store, which one run over the accepted lines of both makes of the
    -- store `before`. Or it was possible before the second call, which could not open the store.
    pub leaves : (image : List ℕ) → disk.images new.disk image → StaysClosed old new status image
        ⊎ ((second : LeavesFirstLines old new between image)
        × IsOneRun session before lines first.steps second.lines second.run.steps second.after)
    -- if the second call came to its end, its answers and its last state are those of that one run
    pub finishes : IsFinished status → (second : FinishesLines old new between)
        × IsOneRun session before lines first.steps (lines_of second.bytes) second.run.steps second.after
