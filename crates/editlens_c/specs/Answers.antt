-- What an answer says: a status with its numbers, and the length of the text. Read it from the end: `IsWritten`,
-- `part_of`, `IsNotOpen`, `IsAnswer`.
use Rattle.std.specs.Prelude.{◌≡◌, ◌<◌, ◌==◌, ℕ, List, ◌++◌, length, drop, Bool, true, false, Option, None, Some}
use Rattle.std.specs.Prelude.{if◌then◌else◌}
use Rattle.embed_session.specs.Embedded.{text_of}
use Rattle.embed_session.specs.declared.embedded.EmbeddedSession.{EmbeddedSession}
use Rattle.embed_session.specs.declared.embedded.EmbeddedSession.TheVariants as embedded
use Rattle.embed_session.specs.declared.outcome.Outcome.{Outcome}
use Rattle.embed_session.specs.declared.outcome.Outcome.TheVariants as outcome
use Rattle.embed_session.specs.declared.outcome.Part.{Part}
use Rattle.embed_session.specs.declared.outcome.Part.TheVariants.{State, Left, Complement, Right, LeftType, RightType}
use Rattle.embed_session.specs.declared.outcome.Part.TheVariants.{Snapshot, Change, UndoLeft, UndoRight}
use Rattle.editlens_c.specs.declared.answer.Answer.{Answer}
use Rattle.editlens_c.specs.declared.codes.TheConstants as code
use Rattle.editlens_c.specs.declared.reasons.Reason.{Reason}

-- why there is no session, or that there is one
abbrev pub closed_status : EmbeddedSession → ℕ
closed_status (embedded.Open r) = code.DONE
closed_status (embedded.Refused refused line) = code.PROGRAM_REFUSED
closed_status (embedded.StateRefused fault) = code.STATE_REFUSED
closed_status (embedded.RecordsRefused fault) = code.RECORDS_REFUSED
closed_status embedded.NoMemory = code.NO_SESSION

abbrev pub status_of : Outcome → EmbeddedSession → ℕ
status_of outcome.Done k = code.DONE
status_of outcome.Blank k = code.BLANK
status_of (outcome.NoApply part at cause) k = code.REFUSED
status_of (outcome.NotAChange fault) k = code.REFUSED
status_of outcome.LineFeed k = code.LINE_FEED
status_of outcome.Full k = code.FULL
status_of outcome.NoChange k = code.NO_CHANGE
status_of outcome.NoMemory k = code.NO_MEMORY
status_of outcome.NoSession k = closed_status k

-- how many items were given
abbrev pub number_of : EmbeddedSession → ℕ
number_of (embedded.Open r) = r.number
number_of (embedded.Refused refused line) = 0
number_of (embedded.StateRefused fault) = 0
number_of (embedded.RecordsRefused fault) = 0
number_of embedded.NoMemory = 0

-- the answer has this status and this reason, the number of items of what is held, and the length of its text
pub record IsAnswer (status : ℕ) (reason : Reason) (k : EmbeddedSession) (answer : Answer) : Type 0 where
  pub status_is : answer.status ≡ status
  pub cause_is : answer.cause ≡ reason.cause
  pub part_is : answer.part ≡ reason.part
  pub at_is : answer.at ≡ reason.at
  pub number_is : answer.number ≡ number_of k
  pub len_is : answer.len ≡ length (text_of k)
  pub size_is : answer.size ≡ code.ANSWER_SIZE
  pub spare_1_is : answer.spare_1 ≡ 0
  pub spare_2_is : answer.spare_2 ≡ 0

-- nothing is open, and nothing else is said
pub record IsNotOpen (answer : Answer) : Type 0 where
  pub status_is : answer.status ≡ code.NOT_OPEN
  pub cause_is : answer.cause ≡ code.NO_CAUSE
  pub part_is : answer.part ≡ 0
  pub at_is : answer.at ≡ 0
  pub number_is : answer.number ≡ 0
  pub len_is : answer.len ≡ 0
  pub size_is : answer.size ≡ code.ANSWER_SIZE
  pub spare_1_is : answer.spare_1 ≡ 0
  pub spare_2_is : answer.spare_2 ≡ 0

-- the same, and the buffer is as it was
abbrev pub IsUntouched : Answer → List ℕ → List ℕ → Type 0
IsUntouched answer old new = (new ≡ old) × IsNotOpen answer

-- the part of a state that has this number
abbrev pub part_of : ℕ → Option Part
part_of n = if n == code.STATE then Some State
    else if n == code.LEFT then Some Left
    else if n == code.COMPLEMENT then Some Complement
    else if n == code.RIGHT then Some Right
    else if n == code.LEFT_TYPE then Some LeftType
    else if n == code.RIGHT_TYPE then Some RightType
    else if n == code.SNAPSHOT then Some Snapshot
    else if n == code.CHANGE then Some Change
    else if n == code.UNDO_LEFT then Some UndoLeft
    else if n == code.UNDO_RIGHT then Some UndoRight
    else None

-- a text has room: it is at the head of the buffer, and the rest is as it was; or the buffer is too small, and as it
-- was
abbrev pub IsWritten : List ℕ → List ℕ → Bool → List ℕ → Type 0
IsWritten text old true new = new ≡ text ++ drop (length text) old
IsWritten text old false new = (length old < length text) × (new ≡ old)
