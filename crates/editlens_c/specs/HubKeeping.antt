-- A hub that a caller keeps by a pointer, in memory of its own: what lies there before and after a call.
use Rattle.std.specs.Prelude.{◌≡◌, ℕ, List, Bool, Option, None, Some}
use base.Fml.{Fml, ftrue, fsep, fex}
use base.Fraction.{full_share}
use denote.RawPtr.{Ptr, block_ptr, null_ptr, lies_at}
use Rattle.core.specs.Mem.{type_size}
use Rattle.core.specs.Ptr.{if_non_null}
use Rattle.embed_hub.specs.Embedded.{IsOpened, IsResumed, IsStepped, IsShown, text_of}
use Rattle.embed_hub.specs.declared.embedded.EmbeddedHub.{EmbeddedHub}
use Rattle.embed_hub.specs.declared.outcome.HubOutcome.{HubOutcome}
use Rattle.embed_hub.specs.declared.outcome.HubPart.{HubPart}
use Rattle.editlens_c.specs.Answers.{IsNotOpen, IsUntouched, IsWritten}
use Rattle.editlens_c.specs.HubAnswers.{hub_closed_status, hub_status_of, hub_closed_reason, hub_reason_of}
use Rattle.editlens_c.specs.HubAnswers.{IsHubAnswer, hub_part_of}
use Rattle.editlens_c.specs.Keeping.{text_status}
use Rattle.editlens_c.specs.HubSlots.{hub_held_in, IsHubEnded}
use Rattle.editlens_c.specs.contracts.hub_slot.HubSlot.{the_row}
use Rattle.editlens_c.specs.declared.hub_slot.HubSlot.{HubSlot}
use Rattle.editlens_c.specs.Reasons.{no_place}
use Rattle.editlens_c.specs.declared.answer.Answer.{Answer}
use Rattle.editlens_c.specs.declared.codes.TheConstants as code

-- what lies at an address that is not null
abbrev pub hub_slot_type : Type 0
hub_slot_type = HubSlot

-- how many bytes that is
abbrev pub hub_slot_size : ℕ
hub_slot_size = type_size the_row

-- this lies there, unless the address is null
abbrev pub hub_slot_at : Ptr → HubSlot → Fml
hub_slot_at at slot = if_non_null at (lies_at the_row full_share at slot)

-- something for which the first fact holds lies there; or the address is null, and the other holds
abbrev pub some_hub_slot_at : Ptr → (HubSlot → Type 0) → Type 0 → Fml
some_hub_slot_at (block_ptr b o) Fact AtNull =
    fex HubSlot (λ s. fsep (fex (Fact s) (λ _. ftrue)) (lies_at the_row full_share (block_ptr b o) s))
some_hub_slot_at null_ptr Fact AtNull = fex AtNull (λ _. ftrue)

-- something is open for which the fact holds
pub record HubOpen (Fact : EmbeddedHub → Type 0) (slot : HubSlot) : Type 0 where
  pub embedded : EmbeddedHub
  pub is_open : hub_held_in slot ≡ Some embedded
  pub fact : Fact embedded

-- what was opened, and the status that says whether it is a hub
pub record HubOpened (Fact : EmbeddedHub → Type 0) (status : ℕ) (slot : HubSlot) : Type 0 where
  pub embedded : EmbeddedHub
  pub is_open : hub_held_in slot ≡ Some embedded
  pub fact : Fact embedded
  pub status_is : status ≡ hub_closed_status embedded

-- opened, where nothing was open; where something was, it stays as it is
abbrev pub hub_opens : Option EmbeddedHub → (EmbeddedHub → Type 0) → HubSlot → ℕ → HubSlot → Type 0
hub_opens None Fact before status after = HubOpened Fact status after
hub_opens (Some embedded) Fact before status after = (status ≡ code.NOT_OPEN) × (after ≡ before)

-- a program part was opened
abbrev pub HubOpens : HubSlot → List ℕ → ℕ → HubSlot → Type 0
HubOpens before part status after = hub_opens (hub_held_in before) (IsOpened part) before status after

abbrev pub hub_opened_at : Ptr → HubSlot → List ℕ → ℕ → Fml
hub_opened_at at before part status = some_hub_slot_at at (HubOpens before part status) (status ≡ code.NOT_OPEN)

-- a program part was opened to go on from the state of these texts
abbrev pub HubResumes : HubSlot → List ℕ → List (List ℕ) → ℕ → HubSlot → Type 0
HubResumes before part texts status after = hub_opens (hub_held_in before) (IsResumed part texts) before status after

abbrev pub hub_resumed_at : Ptr → HubSlot → List ℕ → List (List ℕ) → ℕ → Fml
hub_resumed_at at before part texts status =
    some_hub_slot_at at (HubResumes before part texts status) (status ≡ code.NOT_OPEN)

-- nothing changes, and the answer says what is open
abbrev pub hub_told_by : Option EmbeddedHub → HubSlot → Answer → HubSlot → Type 0
hub_told_by (Some embedded) before answer after =
    (after ≡ before) × IsHubAnswer (hub_closed_status embedded) (hub_closed_reason embedded) embedded answer
hub_told_by None before answer after = (after ≡ before) × IsNotOpen answer

abbrev pub HubTells : HubSlot → Answer → HubSlot → Type 0
HubTells before answer after = hub_told_by (hub_held_in before) before answer after

abbrev pub hub_told_at : Ptr → HubSlot → Answer → Fml
hub_told_at at before answer = some_hub_slot_at at (HubTells before answer) (IsNotOpen answer)

-- a step by a line that ends so
pub record HubStepsTo (before : EmbeddedHub) (line : List ℕ) (answer : Answer) (after : EmbeddedHub) : Type 0 where
  pub outcome : HubOutcome
  pub answer_is : IsHubAnswer (hub_status_of outcome after) (hub_reason_of outcome after) after answer
  pub stepped : IsStepped before line outcome after

-- the same for what is open
abbrev pub hub_stepped_by : Option EmbeddedHub → HubSlot → List ℕ → Answer → HubSlot → Type 0
hub_stepped_by (Some embedded) before line answer after = HubOpen (HubStepsTo embedded line answer) after
hub_stepped_by None before line answer after = (after ≡ before) × IsNotOpen answer

abbrev pub HubSteps : HubSlot → List ℕ → Answer → HubSlot → Type 0
HubSteps before line answer after = hub_stepped_by (hub_held_in before) before line answer after

abbrev pub hub_stepped_at : Ptr → HubSlot → List ℕ → Answer → Fml
hub_stepped_at at before line answer = some_hub_slot_at at (HubSteps before line answer) (IsNotOpen answer)

-- a part that was asked for and shown, or not, as this outcome says
pub record HubShowsPart (before : EmbeddedHub) (part : HubPart) (answer : Answer) (after : EmbeddedHub) : Type 0 where
  pub outcome : HubOutcome
  pub answer_is : IsHubAnswer (hub_status_of outcome after) (hub_reason_of outcome after) after answer
  pub shown : IsShown before part outcome after

-- a part of the state; or the number is of none, and what is held stays as it is
abbrev pub hub_shows : EmbeddedHub → Option HubPart → Answer → EmbeddedHub → Type 0
hub_shows before (Some part) answer after = HubShowsPart before part answer after
hub_shows before None answer after =
    (after ≡ before) × IsHubAnswer code.UNKNOWN_PART (no_place code.NO_CAUSE) before answer

abbrev pub HubShowsTo : EmbeddedHub → ℕ → ℕ → Answer → EmbeddedHub → Type 0
HubShowsTo before number view answer after = hub_shows before (hub_part_of number view) answer after

-- the same for what is open
abbrev pub hub_shown_by : Option EmbeddedHub → HubSlot → ℕ → ℕ → Answer → HubSlot → Type 0
hub_shown_by (Some embedded) before number view answer after = HubOpen (HubShowsTo embedded number view answer) after
hub_shown_by None before number view answer after = (after ≡ before) × IsNotOpen answer

abbrev pub HubShows : HubSlot → ℕ → ℕ → Answer → HubSlot → Type 0
HubShows before number view answer after = hub_shown_by (hub_held_in before) before number view answer after

abbrev pub hub_shown_at : Ptr → HubSlot → ℕ → ℕ → Answer → Fml
hub_shown_at at before number view answer = some_hub_slot_at at (HubShows before number view answer) (IsNotOpen answer)

-- the text was written to the buffer if there was room, and the status says which
pub record HubWritesTo (embedded : EmbeddedHub) (answer : Answer) (old new : List ℕ) : Type 0 where
  pub fitted : Bool
  pub written : IsWritten (text_of embedded) old fitted new
  pub answer_is : IsHubAnswer (text_status fitted) (no_place code.NO_CAUSE) embedded answer

-- what is held stays as it is, and its text is written
abbrev pub HubWritesEmbedded : EmbeddedHub → Answer → List ℕ → List ℕ → EmbeddedHub → Type 0
HubWritesEmbedded before answer old new after = (after ≡ before) × HubWritesTo before answer old new

-- the same for what is open; or the buffer stays as it is, too
abbrev pub hub_written_by : Option EmbeddedHub → HubSlot → Answer → List ℕ → List ℕ → HubSlot → Type 0
hub_written_by (Some embedded) before answer old new after = HubOpen (HubWritesEmbedded embedded answer old new) after
hub_written_by None before answer old new after = (after ≡ before) × IsUntouched answer old new

abbrev pub HubWrites : HubSlot → Answer → List ℕ → List ℕ → HubSlot → Type 0
HubWrites before answer old new after = hub_written_by (hub_held_in before) before answer old new after

abbrev pub hub_written_at : Ptr → HubSlot → Answer → List ℕ → List ℕ → Fml
hub_written_at at before answer old new =
    some_hub_slot_at at (HubWrites before answer old new) (IsUntouched answer old new)

-- what was open is no more
abbrev pub HubEnds : HubSlot → ℕ → HubSlot → Type 0
HubEnds before status after = IsHubEnded before status after

abbrev pub hub_ended_at : Ptr → HubSlot → ℕ → Fml
hub_ended_at at before status = some_hub_slot_at at (HubEnds before status) (status ≡ code.NOT_OPEN)
