-- That a line is answered before more is asked for. The main definition is `StoreAnswersInTime`.
use Rattle.std.specs.Prelude.{◌≡◌, ◌⊎◌, ℕ, List}
use Rattle.lens_io.specs.Calls.{Took, Gave}
use Rattle.lens_io.specs.declared.source.Source as OfSource
use Rattle.lens_io.specs.declared.sink.Sink as OfSink
use Rattle.script_input.specs.Taking.{GaveFew}
use Rattle.script_input.specs.declared.limits.TheConstants.{PIECE_BYTES}
use Rattle.store_run.specs.Answered.{AnswersEndedLines}
use Rattle.script_input.specs.Coming.{ended_lines}
use Rattle.store_run.specs.StoreRuns.{AreAnsweredIn}
use Rattle.store_run.specs.declared.session.StoredSession as OfSession
use Rattle.command_ends.specs.declared.status.Status.{Status}
use Rattle.command_ends.specs.declared.status.Status.TheVariants as ending

-- these statuses come from the source: it failed, or had too many bytes
abbrev pub EndsAtSource : Status → Type 0
EndsAtSource status = (status ≡ ending.SourceFault) ⊎ (status ≡ ending.InputTooLong)

-- A source and a sink, before a call that answers a journal from the state t on, and after it.
module _ {S K A : Type 0} (source : OfSource.Ghosts S) (sink : OfSink.Ghosts K) (session : OfSession.Ghosts A)
    (old new : S × K) where
  -- These bytes were taken, and this text was written. When the source was called last, every line that had ended was
  -- answered, and its answer was written; or the source was not called. That call gave no more than a piece, so no
  -- more than a piece is ahead of the answers. After a fault of the source and after too many bytes, every line that
  -- has ended is answered.
  pub record StoreAnswersInTime (t : session.State) (status : Status) : Type 0 where
    pub bytes : List ℕ
    pub took : Took source old.0 new.0 bytes
    pub few : GaveFew source old.0 new.0 PIECE_BYTES
    pub given : List ℕ
    pub gave : Gave sink old.1 new.1 given
    pub first : AnswersEndedLines source session old.0 new.0 t 0 bytes given
    pub all : EndsAtSource status → AreAnsweredIn session t 0 (ended_lines bytes) given
