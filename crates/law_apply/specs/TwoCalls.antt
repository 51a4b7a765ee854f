-- Calls of `apply` over a store, and what a second call makes of what the first one left.
-- Read it from the end: `ContinuesRun`, then `FinishesRun` and `LeavesRun`.
use Rattle.command_ends.specs.Statuses.{IsFinished}
use Rattle.std.specs.Prelude.{◌≡◌, ◌⊎◌, ℕ, ◌+◌, ◌≤◌, List, ◌++◌, length, None, IfSome}
use Rattle.edit_journal.specs.Pieces.{lines_of}
use Rattle.edit_journal.specs.declared.line.Line.{Line}
use Rattle.gate_log.specs.LogOnDisk.{HoldsPayloads}
use Rattle.run_answers.specs.Answers.{text_from}
use Rattle.run_answers.specs.ItemRuns.{JournalItem, items_of}
use Rattle.lens_io.specs.Calls.{Took, IsRead, Gave}
use Rattle.lens_io.specs.declared.disk.Disk as OfDisk
use Rattle.lens_io.specs.declared.sink.Sink as OfSink
use Rattle.lens_io.specs.declared.source.Source as OfSource
use Rattle.store_session.specs.Journals.{accepted_changes}
use Rattle.store_run.specs.Applies.{UnopenedApply}
use Rattle.store_run.specs.Devices.{Devices}
use Rattle.store_run.specs.OkLines.{ok_lines}
use Rattle.editlens_main.specs.Stores.{PairStore, RunsOutAtWords}
use Rattle.command_ends.specs.declared.status.Status.{Status}
use Rattle.law_apply.specs.StoreRuns.{StoreParts, HoldsRun, AreOneRun}

-- the parts of the store on a disk
abbrev pub parts_of : {D : Type 0} (disk : OfDisk.Ghosts D) (d : D) → PairStore disk d → StoreParts
parts_of disk d store = record {
  payloads = store.payloads;
  state = store.state;
  version = store.version;
  stands = store.stands;
}

module _ {S K D : Type 0} (source : OfSource.Ghosts S) (sink : OfSink.Ghosts K) (disk : OfDisk.Ghosts D) where
  -- A call over the store `before` leaves this image, which is a store again.
  pub record LeavesRun (old new : Devices S K D) (before : StoreParts) (image : List ℕ) : Type 0 where
    -- the bytes that the call took, and those that it wrote
    pub bytes : List ℕ
    pub took : Took source old.source new.source bytes
    pub given : List ℕ
    pub gave : Gave sink old.sink new.sink given
    -- the first lines of the bytes, and those that follow
    pub lines : List Line
    pub rest : List Line
    pub parts : lines_of bytes ≡ lines ++ rest
    -- the image holds the payloads of a store, which is the store `before` and the run over the first lines
    pub after : StoreParts
    pub holds : HoldsPayloads after.payloads image
    pub run : HoldsRun before (items_of lines) after
    -- it has each change whose `ok` line was written, and at most one more
    pub least : ok_lines given ≤ length (accepted_changes (items_of lines) run.journal)
    pub most : length (accepted_changes (items_of lines) run.journal) ≤ ok_lines given + 1

  -- A call over the store `before` came to its end.
  pub record FinishesRun (old new : Devices S K D) (before : StoreParts) : Type 0 where
    -- the bytes that the call took: all that the source had
    pub bytes : List ℕ
    pub took : Took source old.source new.source bytes
    pub read : IsRead source old.source new.source
    -- the disk holds the payloads of a store, which is the store `before` and the run over all lines
    pub after : StoreParts
    pub holds : IfSome (disk.content new.disk) (HoldsPayloads after.payloads)
    pub run : HoldsRun before (items_of (lines_of bytes)) after
    -- the version record is stored
    pub version : after.version ≡ None
    -- the answers of the run were written, numbered from 1 on, and then its last state
    pub gave : Gave sink old.sink new.sink (text_from before.state.form before.state.triple run.journal)

  -- A call failed to open the store. The image that it left was possible before it, and nothing was taken or written.
  pub record StaysUnopened (old new : Devices S K D) (status : Status) (image : List ℕ) : Type 0 where
    pub unopened : UnopenedApply source sink disk (RunsOutAtWords old new status) old new status
    pub was : disk.images old.disk image

  -- A first call made this run, over these items from the store `before` to the store `between`. A second call over
  -- `between` goes on from there: the two are one run.
  pub record ContinuesRun {before between : StoreParts} {items : List JournalItem} (old new : Devices S K D)
      (status : Status) (first : HoldsRun before items between) : Type 0 where
    -- An image that the second call may leave is a store, which one run over the accepted changes of both makes of the
    -- store `before`. Or it was possible before the second call, which could not open the store.
    pub leaves : (image : List ℕ) → disk.images new.disk image → StaysUnopened old new status image
        ⊎ ((second : LeavesRun old new between image)
        × AreOneRun before items first.journal (items_of second.lines) second.run.journal second.after)
    -- if the second call came to its end, its answers and its last state are those of that one run
    pub finishes : IsFinished status → (second : FinishesRun old new between)
        × AreOneRun before items first.journal (items_of (lines_of second.bytes)) second.run.journal second.after
