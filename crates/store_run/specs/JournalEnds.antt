-- How the answering of a whole journal ends: `EndsJournal` or `StopsJournal`.
use Rattle.std.specs.Prelude.{◌⊎◌, ℕ, ◌≤◌, List, length}
use Rattle.lens_io.specs.Calls.{Took, IsRead}
use Rattle.lens_io.specs.declared.source.Source as OfSource
use Rattle.lens_io.specs.declared.sink.Sink as OfSink
use Rattle.lens_io.specs.declared.disk.Disk as OfDisk
use Rattle.edit_journal.specs.Pieces.{lines_of}
use Rattle.script_input.specs.declared.limits.TheConstants.{MOST_BYTES}
use Rattle.store_run.specs.Answered.{Answers, StopsAmong, StopsPieces}
use Rattle.script_input.specs.Coming.{ended_lines}
use Rattle.store_run.specs.StoreRuns.{AreAnsweredIn, text_of}
use Rattle.store_run.specs.Stopping.{IsOwnStop}
use Rattle.store_run.specs.declared.session.StoredSession as OfSession
use Rattle.store_run.specs.declared.journal.StoreProgress.{StoreProgress}
use Rattle.gate_log.specs.LogOnDisk.{LogState}
use Rattle.store_run.specs.declared.stop.Stop.{Stop}

module _ {S K D A : Type 0} (source : OfSource.Ghosts S) (sink : OfSink.Ghosts K) (disk : OfDisk.Ghosts D)
    (session : OfSession.Ghosts A) (old new : S × K × D × LogState) where
  -- The source was read to its end, and gave these bytes. All their lines are answered.
  pub record EndsJournal (t : session.State) (p : StoreProgress) (t' : session.State)
      (p' : StoreProgress) : Type 0 where
    pub bytes : List ℕ
    pub consumes : Took source old.0 new.0 bytes
    pub at_end : IsRead source old.0 new.0
    pub within : length bytes ≤ MOST_BYTES
    pub answers : Answers sink disk session (old.1, old.2, old.3) (new.1, new.2, new.3) t p (lines_of bytes) t' p'

  -- The source was read to its end, and the answering stopped at the last line, which no LF ends. All others are
  -- answered.
  pub record StopsLast (t : session.State) (n : ℕ) (stop : Stop) : Type 0 where
    pub bytes : List ℕ
    pub consumes : Took source old.0 new.0 bytes
    pub at_end : IsRead source old.0 new.0
    pub within : length bytes ≤ MOST_BYTES
    pub own : IsOwnStop stop
    pub among : StopsAmong sink disk session (old.1, old.2, old.3) (new.1, new.2, new.3) t n (lines_of bytes) stop
    pub first : AreAnsweredIn session t n (ended_lines bytes) (text_of among.done)

  -- the answering stopped at a line that has ended or at a piece, or at the last line
  abbrev pub StopsJournal : session.State → ℕ → Stop → Type 0
  StopsJournal t n stop =
      StopsPieces source sink disk session old new t n stop ⊎ StopsLast t n stop
