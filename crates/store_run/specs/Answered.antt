-- What answering some lines of a journal comes to: for the source, the sink, the disk and the log, and for the
-- session. Read it from the end: `EndsPieces` and `StopsPieces`, `AnswersEndedLines`, then `StopsAmong` and `Answers`;
-- `ComesOn` is for the loop.
use Rattle.std.specs.Prelude.{◌≡◌, ◌⊎◌, ℕ, ◌+◌, ◌<◌, ◌≤◌, List, [], ◌++◌, length, Bool, ◌||◌, Result, Err}
use Rattle.lens_io.specs.Calls.{Took, IsRead, IsUnasked, before_last}
use Rattle.lens_io.specs.declared.source.Source as OfSource
use Rattle.lens_io.specs.declared.sink.Sink as OfSink
use Rattle.lens_io.specs.declared.disk.Disk as OfDisk
use Rattle.edit_journal.specs.Pieces.{nothing_fed, fed}
use Rattle.edit_journal.specs.declared.line.Line.{Line}
use Rattle.lens_io.specs.declared.failed.TakeFault.{TakeFault}
use Rattle.script_input.specs.Coming.{ended_lines}
use Rattle.script_input.specs.Taking.{TakenInput, TakesMore}
use Rattle.script_input.specs.declared.limits.TheConstants.{MOST_BYTES}
use Rattle.store_run.specs.Effects.{Adds, StopsStoring}
use Rattle.store_run.specs.StoreRuns.{StoreGoesOver, AreSteps, AreAnswers, AreAnsweredIn, last_stored, any_line_refused}
use Rattle.store_run.specs.StoreRuns.{text_of}
use Rattle.store_run.specs.StoreRuns.{kept_of}
use Rattle.store_run.specs.Stopping.{stop_of_input, IsOwnStop}
use Rattle.store_run.specs.declared.session.StoredAnswer.{StoredAnswer}
use Rattle.store_run.specs.declared.session.StoredSession as OfSession
use Rattle.store_run.specs.declared.journal.StoreProgress.{StoreProgress}
use Rattle.store_run.specs.declared.stop.Stop.{Stop}
use Rattle.gate_log.specs.LogOnDisk.{LogState}
use Rattle.store_run.specs.declared.stop.Stop.TheVariants.{SourceFault, TooLong}

module _ {K D A : Type 0} (sink : OfSink.Ghosts K) (disk : OfDisk.Ghosts D) (session : OfSession.Ghosts A)
    (old new : K × D × LogState) where
  -- These lines were answered, by these steps of the run. Their answer lines were written in order, and the payloads
  -- of the changes that were accepted are stored behind those from before.
  pub record Answers (t : session.State) (p : StoreProgress) (lines : List Line) (t' : session.State)
      (p' : StoreProgress) : Type 0 where
    pub steps : List (session.State × StoredAnswer)
    pub goes : StoreGoesOver session t p.number lines steps t' p'.number
    pub at_last : last_stored t steps ≡ t'
    pub chain : AreSteps session t steps
    pub are : AreAnswers steps
    pub refused : p'.refused ≡ (p.refused || any_line_refused steps)
    pub adds : Adds sink disk old new (text_of steps) (kept_of steps)

  -- The answering of these lines stopped. The first ones were handled: of their steps all are done but the last one,
  -- which may be begun.
  pub record StopsAmong (t : session.State) (n : ℕ) (among : List Line) (stop : Stop) : Type 0 where
    pub lines : List Line
    pub rest : List Line
    pub parts : among ≡ lines ++ rest
    pub done : List (session.State × StoredAnswer)
    pub begun : List (session.State × StoredAnswer)
    pub t' : session.State
    pub n' : ℕ
    pub goes : StoreGoesOver session t n lines (done ++ begun) t' n'
    pub chain : AreSteps session t (done ++ begun)
    pub few : length begun ≤ 1
    pub are_done : AreAnswers done
    pub are_begun : AreAnswers begun
    pub stops : StopsStoring sink disk old new stop (text_of done) (text_of begun) (kept_of done) (kept_of begun)

-- ---- a journal that comes in pieces

-- after a fault of the source, and too many bytes, all lines that have ended are answered
abbrev pub AllAt : Stop → ℕ → List Line → Type 0 → Type 0
AllAt SourceFault taken rest all_answered = (rest ≡ []) × (taken ≤ MOST_BYTES) × all_answered
AllAt TooLong taken rest all_answered = (rest ≡ []) × (MOST_BYTES < taken) × all_answered
AllAt stop taken rest all_answered = Unit {0}

module _ {S A : Type 0} (source : OfSource.Ghosts S) (session : OfSession.Ghosts A) (old new : S) where
  -- These bytes were taken. When the source was called last, all lines that had ended were answered, and their
  -- answers are the beginning of this text. Or the source was not called.
  abbrev pub AnswersEndedLines : session.State → ℕ → List ℕ → List ℕ → Type 0
  AnswersEndedLines t n bytes text =
      IsUnasked source old new ⊎ AreAnsweredIn session t n (ended_lines (before_last source old new bytes)) text

module _ {S K D A : Type 0} (source : OfSource.Ghosts S) (sink : OfSink.Ghosts K) (disk : OfDisk.Ghosts D)
    (session : OfSession.Ghosts A) (old new : S × K × D × LogState) where
  -- The answering of a journal that comes in pieces stopped, among the lines that have ended in these bytes. Whatever
  -- stopped it, when the source was called last, all lines that had ended were answered.
  pub record StopsPieces (t : session.State) (n : ℕ) (stop : Stop) : Type 0 where
    pub bytes : List ℕ
    pub consumes : Took source old.0 new.0 bytes
    pub at_most : length bytes ≤ MOST_BYTES + 1
    pub among : StopsAmong sink disk session (old.1, old.2, old.3) (new.1, new.2, new.3) t n (ended_lines bytes) stop
    pub all : AllAt stop (length bytes) among.rest (AreAnsweredIn session t n (ended_lines bytes) (text_of among.done))
    pub first : AnswersEndedLines source session old.0 new.0 t n bytes (text_of among.done)

  -- A journal that comes in pieces came to its end. All lines that have ended are answered, and the input has the
  -- last one.
  pub record EndsPieces (input : TakenInput) (t : session.State) (p : StoreProgress) (t' : session.State)
      (p' : StoreProgress) : Type 0 where
    pub bytes : List ℕ
    pub consumes : Took source old.0 new.0 bytes
    pub at_end : IsRead source old.0 new.0
    pub within : length bytes ≤ MOST_BYTES
    pub none : input.lines.ended ≡ []
    pub begun : (fed nothing_fed bytes).begun ≡ input.lines.begun
    pub answers : Answers sink disk session (old.1, old.2, old.3) (new.1, new.2, new.3) t p (ended_lines bytes) t' p'

  -- The answering as it goes on. These bytes were taken, some of the lines that have ended in them are answered, and
  -- the input has the others. Those that had ended when the source was called last are the first of the lines that
  -- are answered.
  pub record ComesOn (input : TakenInput) (t : session.State) (p : StoreProgress) (t' : session.State)
      (p' : StoreProgress) : Type 0 where
    pub bytes : List ℕ
    pub consumes : Took source old.0 new.0 bytes
    pub count : input.taken ≡ length bytes
    pub lines : List Line
    pub ended : ended_lines bytes ≡ lines ++ input.lines.ended
    pub begun : (fed nothing_fed bytes).begun ≡ input.lines.begun
    pub answers : Answers sink disk session (old.1, old.2, old.3) (new.1, new.2, new.3) t p lines t' p'
    pub first : IsUnasked source old.0 new.0
        ⊎ (later : List Line) × (lines ≡ ended_lines (before_last source old.0 new.0 bytes) ++ later)

-- ---- one turn of the loop

-- A source, a sink, a disk and the log on it, an input, and a state with its progress, before the turn and after it.
module _ {S K D A : Type 0} (source : OfSource.Ghosts S) (sink : OfSink.Ghosts K) (disk : OfDisk.Ghosts D)
    (session : OfSession.Ghosts A) (old new : S × K × D × LogState) (input input' : TakenInput) (t : session.State)
    (p : StoreProgress) where
  -- All lines that had ended were answered, and then the source was asked for the next piece.
  pub record AnswersThenTakes (t' : session.State) (p' : StoreProgress) (result : Result Bool TakeFault) : Type 0 where
    pub mid : TakenInput
    pub lines : mid.lines ≡ record { ended = []; begun = input.lines.begun }
    pub taken : mid.taken ≡ input.taken
    pub answers : Answers sink disk session (old.1, old.2, old.3) (new.1, new.2, new.3) t p input.lines.ended t' p'
    pub takes : TakesMore source old.0 new.0 mid input' result

  -- The answering stopped at a line that had ended, and the source was not asked for more.
  pub record StopsUnasked (stop : Stop) : Type 0 where
    pub own : IsOwnStop stop
    pub unasked : IsUnasked source old.0 new.0
    pub among : StopsAmong sink disk session (old.1, old.2, old.3)
        (new.1, new.2, new.3) t p.number input.lines.ended stop

  -- the turn stopped so, or at the piece
  abbrev pub StopsTurn : session.State → StoreProgress → Stop → Type 0
  StopsTurn t' p' stop =
      StopsUnasked stop ⊎ (fault : TakeFault) × (stop ≡ stop_of_input fault) × AnswersThenTakes t' p' (Err fault)
