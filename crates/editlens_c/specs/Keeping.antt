-- What a caller keeps by a pointer, in memory of its own: what lies there before and after a call.
use Rattle.std.specs.Prelude.{◌≡◌, ℕ, List, Bool, true, false, Option, None, Some}
use base.Fml.{Fml, ftrue, fsep, fex}
use base.Fraction.{full_share}
use denote.RawPtr.{Ptr, block_ptr, null_ptr, lies_at}
use Rattle.core.specs.Mem.{type_size}
use Rattle.core.specs.Ptr.{if_non_null}
use Rattle.edit_journal.specs.Pieces.{texts_of}
use Rattle.texts.specs.declared.side.Side.{Side}
use Rattle.texts.specs.declared.side.Side.TheVariants.{Left, Right}
use Rattle.embed_session.specs.Embedded.{IsOpened, IsImported, IsResumed, IsReopened, IsStepped, IsShown, text_of}
use Rattle.embed_session.specs.declared.embedded.EmbeddedSession.{EmbeddedSession}
use Rattle.embed_session.specs.declared.outcome.Outcome.{Outcome}
use Rattle.embed_session.specs.declared.outcome.Part.{Part}
use Rattle.editlens_c.specs.Answers.{closed_status, status_of, IsAnswer, IsNotOpen, IsUntouched, part_of, IsWritten}
use Rattle.editlens_c.specs.Slots.{held_in, IsEnded}
use Rattle.editlens_c.specs.contracts.slot.Slot.{the_row}
use Rattle.editlens_c.specs.declared.slot.Slot.{Slot}
use Rattle.editlens_c.specs.Reasons.{no_place, closed_reason, reason_of}
use Rattle.editlens_c.specs.declared.answer.Answer.{Answer}
use Rattle.editlens_c.specs.declared.codes.TheConstants as code

-- what lies at an address that is not null
abbrev pub slot_type : Type 0
slot_type = Slot

-- how many bytes that is
abbrev pub slot_size : ℕ
slot_size = type_size the_row

-- this lies there, unless the address is null
abbrev pub slot_at : Ptr → Slot → Fml
slot_at at slot = if_non_null at (lies_at the_row full_share at slot)

-- something for which the first fact holds lies there; or the address is null, and the other holds
abbrev pub some_slot_at : Ptr → (Slot → Type 0) → Type 0 → Fml
some_slot_at (block_ptr b o) Fact AtNull =
    fex Slot (λ s. fsep (fex (Fact s) (λ _. ftrue)) (lies_at the_row full_share (block_ptr b o) s))
some_slot_at null_ptr Fact AtNull = fex AtNull (λ _. ftrue)

-- something is open for which the fact holds
pub record Open (Fact : EmbeddedSession → Type 0) (slot : Slot) : Type 0 where
  pub embedded : EmbeddedSession
  pub is_open : held_in slot ≡ Some embedded
  pub fact : Fact embedded

-- what was opened, and the status that says whether it is a session
pub record Opened (Fact : EmbeddedSession → Type 0) (status : ℕ) (slot : Slot) : Type 0 where
  pub embedded : EmbeddedSession
  pub is_open : held_in slot ≡ Some embedded
  pub fact : Fact embedded
  pub status_is : status ≡ closed_status embedded

-- opened, where nothing was open; where something was, it stays as it is
abbrev pub opens : Option EmbeddedSession → (EmbeddedSession → Type 0) → Slot → ℕ → Slot → Type 0
opens None Fact before status after = Opened Fact status after
opens (Some embedded) Fact before status after = (status ≡ code.NOT_OPEN) × (after ≡ before)

-- a program was opened
abbrev pub Opens : Slot → List ℕ → ℕ → Slot → Type 0
Opens before program status after = opens (held_in before) (IsOpened program) before status after

abbrev pub opened_at : Ptr → Slot → List ℕ → ℕ → Fml
opened_at at before program status = some_slot_at at (Opens before program status) (status ≡ code.NOT_OPEN)

-- a program was opened with this left document
abbrev pub ImportsLeft : Slot → List ℕ → List ℕ → ℕ → Slot → Type 0
ImportsLeft before program document status after =
    opens (held_in before) (IsImported program Left document) before status after

abbrev pub imported_left_at : Ptr → Slot → List ℕ → List ℕ → ℕ → Fml
imported_left_at at before program document status =
    some_slot_at at (ImportsLeft before program document status) (status ≡ code.NOT_OPEN)

-- a program was opened with this right document
abbrev pub ImportsRight : Slot → List ℕ → List ℕ → ℕ → Slot → Type 0
ImportsRight before program document status after =
    opens (held_in before) (IsImported program Right document) before status after

abbrev pub imported_right_at : Ptr → Slot → List ℕ → List ℕ → ℕ → Fml
imported_right_at at before program document status =
    some_slot_at at (ImportsRight before program document status) (status ≡ code.NOT_OPEN)

-- a program was opened to go on from a state
abbrev pub Resumes : Slot → List ℕ → List ℕ → List ℕ → List ℕ → ℕ → Slot → Type 0
Resumes before program left complement right status after =
    opens (held_in before) (IsResumed program left complement right) before status after

abbrev pub resumed_at : Ptr → Slot → List ℕ → List ℕ → List ℕ → List ℕ → ℕ → Fml
resumed_at at before program left complement right status =
    some_slot_at at (Resumes before program left complement right status) (status ≡ code.NOT_OPEN)

-- the records of a log were opened, each of which an LF ends
abbrev pub Reopens : Slot → List ℕ → ℕ → Slot → Type 0
Reopens before records status after = opens (held_in before) (IsReopened (texts_of records)) before status after

abbrev pub reopened_at : Ptr → Slot → List ℕ → ℕ → Fml
reopened_at at before records status = some_slot_at at (Reopens before records status) (status ≡ code.NOT_OPEN)

-- nothing changes, and the answer says what is open
abbrev pub told_by : Option EmbeddedSession → Slot → Answer → Slot → Type 0
told_by (Some embedded) before answer after =
    (after ≡ before) × IsAnswer (closed_status embedded) (closed_reason embedded) embedded answer
told_by None before answer after = (after ≡ before) × IsNotOpen answer

abbrev pub Tells : Slot → Answer → Slot → Type 0
Tells before answer after = told_by (held_in before) before answer after

abbrev pub told_at : Ptr → Slot → Answer → Fml
told_at at before answer = some_slot_at at (Tells before answer) (IsNotOpen answer)

-- a step by a line that ends so
pub record StepsTo (before : EmbeddedSession) (line : List ℕ) (answer : Answer) (after : EmbeddedSession) : Type 0 where
  pub outcome : Outcome
  pub answer_is : IsAnswer (status_of outcome after) (reason_of outcome after) after answer
  pub stepped : IsStepped before line outcome after

-- the same for what is open
abbrev pub stepped_by : Option EmbeddedSession → Slot → List ℕ → Answer → Slot → Type 0
stepped_by (Some embedded) before line answer after = Open (StepsTo embedded line answer) after
stepped_by None before line answer after = (after ≡ before) × IsNotOpen answer

abbrev pub Steps : Slot → List ℕ → Answer → Slot → Type 0
Steps before line answer after = stepped_by (held_in before) before line answer after

abbrev pub stepped_at : Ptr → Slot → List ℕ → Answer → Fml
stepped_at at before line answer = some_slot_at at (Steps before line answer) (IsNotOpen answer)

-- a part that was asked for and shown, or not, as this outcome says
pub record ShowsPart (before : EmbeddedSession) (part : Part) (answer : Answer) (after : EmbeddedSession) : Type 0 where
  pub outcome : Outcome
  pub answer_is : IsAnswer (status_of outcome after) (reason_of outcome after) after answer
  pub shown : IsShown before part outcome after

-- a part of the state; or the number is of none, and what is held stays as it is
abbrev pub shows : EmbeddedSession → Option Part → Answer → EmbeddedSession → Type 0
shows before (Some part) answer after = ShowsPart before part answer after
shows before None answer after = (after ≡ before) × IsAnswer code.UNKNOWN_PART (no_place code.NO_CAUSE) before answer

abbrev pub ShowsTo : EmbeddedSession → ℕ → Answer → EmbeddedSession → Type 0
ShowsTo before number answer after = shows before (part_of number) answer after

-- the same for what is open
abbrev pub shown_by : Option EmbeddedSession → Slot → ℕ → Answer → Slot → Type 0
shown_by (Some embedded) before number answer after = Open (ShowsTo embedded number answer) after
shown_by None before number answer after = (after ≡ before) × IsNotOpen answer

abbrev pub Shows : Slot → ℕ → Answer → Slot → Type 0
Shows before number answer after = shown_by (held_in before) before number answer after

abbrev pub shown_at : Ptr → Slot → ℕ → Answer → Fml
shown_at at before number answer = some_slot_at at (Shows before number answer) (IsNotOpen answer)

abbrev pub text_status : Bool → ℕ
text_status true = code.DONE
text_status false = code.SMALL_BUFFER

-- the text was written to the buffer if there was room, and the status says which
pub record WritesTo (embedded : EmbeddedSession) (answer : Answer) (old new : List ℕ) : Type 0 where
  pub fitted : Bool
  pub written : IsWritten (text_of embedded) old fitted new
  pub answer_is : IsAnswer (text_status fitted) (no_place code.NO_CAUSE) embedded answer

-- what is held stays as it is, and its text is written
abbrev pub WritesEmbedded : EmbeddedSession → Answer → List ℕ → List ℕ → EmbeddedSession → Type 0
WritesEmbedded before answer old new after = (after ≡ before) × WritesTo before answer old new

-- the same for what is open; or the buffer stays as it is, too
abbrev pub written_by : Option EmbeddedSession → Slot → Answer → List ℕ → List ℕ → Slot → Type 0
written_by (Some embedded) before answer old new after = Open (WritesEmbedded embedded answer old new) after
written_by None before answer old new after = (after ≡ before) × IsUntouched answer old new

abbrev pub Writes : Slot → Answer → List ℕ → List ℕ → Slot → Type 0
Writes before answer old new after = written_by (held_in before) before answer old new after

abbrev pub written_at : Ptr → Slot → Answer → List ℕ → List ℕ → Fml
written_at at before answer old new = some_slot_at at (Writes before answer old new) (IsUntouched answer old new)

-- what was open is no more
abbrev pub Ends : Slot → ℕ → Slot → Type 0
Ends before status after = IsEnded before status after

abbrev pub ended_at : Ptr → Slot → ℕ → Fml
ended_at at before status = some_slot_at at (Ends before status) (status ≡ code.NOT_OPEN)
