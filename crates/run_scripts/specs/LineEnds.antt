-- How far a run has come over an input that comes in pieces. Read it from the end: `AnswersPieces`, `StopsRun`,
-- `EndsRun`, then `AnswersPiece`, which is one turn.
use Rattle.std.specs.Prelude.{◌≡◌, ◌⊎◌, ℕ, ◌+◌, ◌<◌, ◌≤◌, List, [], ◌++◌, length, take, Bool, true, false, Some, Result}
use Rattle.std.specs.Prelude.{Ok, Err}
use Rattle.std.specs.declared.option.Option.{Option}
use Rattle.std.specs.Io.KnownBytes.{Appends}
use Rattle.lens_io.specs.Calls.{Took, IsRead, IsUnasked, Gave}
use Rattle.lens_io.specs.Content.{AppendsFront}
use Rattle.lens_io.specs.declared.sink.Sink as OfSink
use Rattle.lens_io.specs.declared.source.Source as OfSource
use Rattle.edit_journal.specs.Pieces.{fed}
use Rattle.edit_journal.specs.declared.line.Line.{Line}
use Rattle.run_scripts.specs.Answers.{Answer}
use Rattle.run_scripts.specs.LineRuns.{come, written, written_after}
use Rattle.run_scripts.specs.declared.progress.Progress.{Progress}
use Rattle.script_input.specs.Taking.{TakenInput}
use Rattle.script_input.specs.declared.limits.TheConstants.{MOST_BYTES}
use Rattle.run_scripts.specs.declared.stopped.Stopped.{Stopped}
use Rattle.run_scripts.specs.declared.stopped.Stopped.TheVariants.{SourceFault, TooLong, SinkFault, NoMemory}

-- ---- the answers that are kept

-- Some of the answers that were kept are written, and the others are still kept.
pub record GivesAnswers (old new : Progress) (held held' : Option (List ℕ)) : Type 0 where
  pub number : new.number ≡ old.number
  pub refused : new.refused ≡ old.refused
  pub given : List ℕ
  pub kept : old.text.items ≡ given ++ new.text.items
  pub appends : Appends held held' given

-- what was written of a text when a sink failed or memory ran out: a prefix of it, and not all, or all of it
abbrev pub WritesPart : Option (List ℕ) → Option (List ℕ) → List ℕ → Stopped → Type 0
WritesPart held held' text SinkFault = AppendsFront held held' text
WritesPart held held' text NoMemory = Appends held held' text
WritesPart held held' text stopped = ⊥

-- This many bytes of the text were written when a run stopped: not all of them after a fault of the sink, else all.
abbrev pub WritesStopped : List ℕ → ℕ → Option (List ℕ) → Option (List ℕ) → Stopped → Type 0
WritesStopped text count held held' SinkFault = (count < length text) × Appends held held' (take count text)
WritesStopped text count held held' stopped = (count ≡ length text) × Appends held held' text

-- These lines had ended and were not answered when a run stopped, over this many bytes. A fault of the source, and too
-- many bytes, leave none.
abbrev pub LeavesLines : ℕ → List Line → Stopped → Type 0
LeavesLines taken rest SourceFault = (rest ≡ []) × (taken ≤ MOST_BYTES)
LeavesLines taken rest TooLong = (rest ≡ []) × (MOST_BYTES < taken)
LeavesLines taken rest stopped = Unit {0}

-- The source is called once, and gives so many bytes. After too many bytes it is not called.
abbrev pub CallsOnce : {S : Type 0} → OfSource.Ghosts S → S → S → ℕ → Result Bool Stopped → Type 0
CallsOnce source s s' count (Err TooLong) = s' ≡ s
CallsOnce source s s' count result = source.last s' ≡ count

-- these leave lines that have ended unanswered
abbrev pub CutsShort : Stopped → Type 0
CutsShort SinkFault = Unit {0}
CutsShort NoMemory = Unit {0}
CutsShort stopped = ⊥

-- A run of a state that answers lines so.
module _ {T : Type 0} (answer : T → ℕ → Line → Option (T × Answer)) where
  -- The run goes over these lines, and these answers are written on the way: from the old state and progress it comes
  -- to the new, whatever was written before and whatever lines follow.
  pub record AnswersLines (old : T × Progress) (lines : List Line) (held held' : Option (List ℕ))
      (new : T × Progress) : Type 0 where
    pub text : List ℕ
    pub appends : Appends held held' text
    pub goes : (given : List ℕ) (more : List Line) → written_after answer old.0 (come given old.1) (lines ++ more)
        ≡ written_after answer new.0 (come (given ++ text) new.1) more

  -- The run was stopped at these lines: of all but the rest the answers were made, and these were written, or a prefix
  -- of them.
  pub record StopsLines (old : T × Progress) (ended : List Line) (held held' : Option (List ℕ))
      (stopped : Stopped) : Type 0 where
    pub lines : List Line
    pub rest : List Line
    pub parts : ended ≡ lines ++ rest
    pub text : List ℕ
    pub number : ℕ
    pub refused : Bool
    pub state : T
    pub goes : (given : List ℕ) (more : List Line) → written_after answer old.0 (come given old.1) (lines ++ more)
        ≡ written_after answer state (record { number = number; refused = refused; text = given ++ text }) more
    pub writes : WritesPart held held' text stopped

  -- ---- from a state on

  module _ (start : T) where
    -- the answer lines to these lines are this text
    pub record AreAnswered (lines : List Line) (text : List ℕ) : Type 0 where
      pub refused : Bool
      pub state : T
      pub is : written answer start lines ≡ Some (text, refused, state)

    -- The run has come to this state over these lines, with this progress behind the text that was given, and whatever
    -- lines follow it goes on from there.
    abbrev pub ComesTo : List Line → List ℕ → T → Progress → Type 0
    ComesTo lines given t p =
        (rest : List Line) → written answer start (lines ++ rest) ≡ written_after answer t (come given p) rest

    -- When the source was called last, which gave so many bytes, all lines that had ended were answered, and their
    -- answers written, as the first of so many bytes.
    pub record AnswersBefore (before : TakenInput) (last : ℕ) (more : List ℕ) (count : ℕ) : Type 0 where
      pub earlier : List ℕ
      pub piece : List ℕ
      pub pieces : more ≡ earlier ++ piece
      pub by_last : last ≡ length piece
      pub text : List ℕ
      pub answered : AreAnswered (fed before.lines earlier).ended text
      pub written : length text ≤ count

-- What the loop finds before a piece, and leaves after it: its devices, the input as far as it was taken, and the state
-- that answers its lines.
pub record Stage (S K T : Type 0) : Type 0 where
  pub source : S
  pub sink : K
  pub input : TakenInput
  pub state : T

-- The loop came from the old stage to the new one.
module _ {S K T : Type 0} (answer : T → ℕ → Line → Option (T × Answer)) (source : OfSource.Ghosts S)
    (sink : OfSink.Ghosts K) (old new : Stage S K T) where
  -- ---- one turn

  -- All lines that the piece has ended are answered, and their answers are written. An empty piece is the end, and then
  -- there were not too many bytes.
  pub record PieceAnswered (bytes : List ℕ) (p p' : Progress) (more : Bool) : Type 0 where
    pub lines : new.input.lines ≡ record { ended = []; begun = (fed old.input.lines bytes).begun }
    pub answers : AnswersLines answer (old.state, p) (fed old.input.lines bytes).ended
        (sink.held old.sink) (sink.held new.sink) (new.state, p')
    pub written : p'.text.items ≡ []
    pub some : more ≡ true → 0 < length bytes
    pub at_end : more ≡ false → (bytes ≡ []) × IsRead source old.source new.source × (old.input.taken ≤ MOST_BYTES)

  -- A fault of the source, and too many bytes, take nothing and write nothing.
  abbrev pub StopsPiece : List ℕ → Progress → Stopped → Type 0
  StopsPiece bytes p SourceFault = (bytes ≡ []) × Gave sink old.sink new.sink [] × (new.input.taken ≤ MOST_BYTES)
  StopsPiece bytes p TooLong = (bytes ≡ []) × Gave sink old.sink new.sink [] × (MOST_BYTES < new.input.taken)
  StopsPiece bytes p stopped =
      StopsLines answer (old.state, p) (fed old.input.lines bytes).ended
      (sink.held old.sink) (sink.held new.sink) stopped

  abbrev pub PieceEnds : List ℕ → Progress → Progress → Result Bool Stopped → Type 0
  PieceEnds bytes p p' (Ok more) = PieceAnswered bytes p p' more
  PieceEnds bytes p p' (Err stopped) = StopsPiece bytes p stopped

  -- These bytes were taken by one call of the source, and what they have ended was answered.
  pub record AnswersPiece (p p' : Progress) (result : Result Bool Stopped) : Type 0 where
    pub bytes : List ℕ
    pub consumes : Took source old.source new.source bytes
    pub once : CallsOnce source old.source new.source (length bytes) result
    pub taken : new.input.taken ≡ old.input.taken + length bytes
    pub at_most : new.input.taken ≤ MOST_BYTES + 1
    pub ends : PieceEnds bytes p p' result

  -- ---- the loop, which took these bytes more

  -- the source was not called, and nothing was taken; or all lines that had ended before its last call are answered
  abbrev pub AnswersFirst : List ℕ → ℕ → Type 0
  AnswersFirst more count =
      IsUnasked source old.source new.source × (more ≡ [])
      ⊎ AnswersBefore answer old.state old.input (source.last new.source) more count

  -- It stopped after these bytes. Of the lines that have ended all but the rest are answered, and this many bytes of
  -- the answers were written.
  pub record StopsRun (more : List ℕ) (stopped : Stopped) : Type 0 where
    pub lines : List Line
    pub rest : List Line
    pub ended : (fed old.input.lines more).ended ≡ lines ++ rest
    pub text : List ℕ
    pub answered : AreAnswered answer old.state lines text
    pub count : ℕ
    pub writes : WritesStopped text count (sink.held old.sink) (sink.held new.sink) stopped
    pub leaves : LeavesLines (old.input.taken + length more) rest stopped
    pub answers_first : CutsShort stopped → AnswersFirst more count

  -- It came to the end of its input, where the source gave nothing more: the answers to all lines that have ended were
  -- written.
  pub record EndsRun (more : List ℕ) (p : Progress) : Type 0 where
    pub at_end : IsRead source old.source new.source
    pub gave_nothing : source.last new.source ≡ 0
    pub within : old.input.taken + length more ≤ MOST_BYTES
    pub given : List ℕ
    pub gave : Gave sink old.sink new.sink given
    pub nothing_left : p.text.items ≡ []
    pub none : new.input.lines.ended ≡ []
    pub begun : (fed old.input.lines more).begun ≡ new.input.lines.begun
    pub comes : ComesTo answer old.state (fed old.input.lines more).ended given new.state p

  abbrev pub HasEnded : List ℕ → Result Progress Stopped → Type 0
  HasEnded more (Ok p) = EndsRun more p
  HasEnded more (Err stopped) = StopsRun more stopped

  -- Answering the lines of an input took these bytes more.
  pub record AnswersPieces (result : Result Progress Stopped) : Type 0 where
    pub more : List ℕ
    pub consumes : Took source old.source new.source more
    pub at_most : old.input.taken + length more ≤ MOST_BYTES + 1
    pub has_ended : HasEnded more result

  -- The loop as it goes on: these bytes were taken, all lines that have ended are answered, and their answers are
  -- written.
  pub record ComesOn (p : Progress) : Type 0 where
    pub more : List ℕ
    pub consumes : Took source old.source new.source more
    pub count : new.input.taken ≡ old.input.taken + length more
    pub given : List ℕ
    pub gave : Gave sink old.sink new.sink given
    pub lines : new.input.lines ≡ record { ended = []; begun = (fed old.input.lines more).begun }
    pub written : p.text.items ≡ []
    pub comes : ComesTo answer old.state (fed old.input.lines more).ended given new.state p
