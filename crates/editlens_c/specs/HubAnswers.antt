-- What an answer of a hub says, as the numbers of codes.rt and hub_codes.rt. Read it from the end: `hub_part_of`,
-- `IsHubAnswer`, then the statuses and the reasons.
use Rattle.std.specs.Prelude.{◌≡◌, ◌==◌, ℕ, length, Option, None, Some, if◌then◌else◌}
use Rattle.hub_run.specs.declared.views.HubRefused.{HubRefused}
use Rattle.hub_run.specs.declared.views.HubRefused.TheVariants.{TooManyViews, InView, ViewsDiffer, NoMemory}
use Rattle.embed_hub.specs.Embedded.{text_of}
use Rattle.embed_hub.specs.declared.embedded.EmbeddedHub.{EmbeddedHub}
use Rattle.embed_hub.specs.declared.embedded.EmbeddedHub.TheVariants as embedded
use Rattle.embed_hub.specs.declared.outcome.HubOutcome.{HubOutcome}
use Rattle.embed_hub.specs.declared.outcome.HubOutcome.TheVariants as outcome
use Rattle.embed_hub.specs.declared.outcome.HubStateFault.{HubStateFault}
use Rattle.embed_hub.specs.declared.outcome.HubStateFault.TheVariants as fault
use Rattle.embed_hub.specs.declared.outcome.HubPart.{HubPart}
use Rattle.embed_hub.specs.declared.outcome.HubPart.TheVariants.{State, Document, ViewDocument, ViewComplement}
use Rattle.editlens_c.specs.Reasons.{no_place, item_cause, line_cause, program_cause, program_offset}
use Rattle.editlens_c.specs.declared.answer.Answer.{Answer}
use Rattle.editlens_c.specs.declared.codes.TheConstants as code
use Rattle.editlens_c.specs.declared.hub_codes.TheConstants as hub_code
use Rattle.editlens_c.specs.declared.reasons.Reason.{Reason}

-- ---- statuses

-- why there is no hub, or that there is one
abbrev pub hub_closed_status : EmbeddedHub → ℕ
hub_closed_status (embedded.Open r) = code.DONE
hub_closed_status (embedded.Refused refused line) = code.PROGRAM_REFUSED
hub_closed_status (embedded.StateRefused why) = code.STATE_REFUSED
hub_closed_status embedded.NoMemory = code.NO_SESSION

abbrev pub hub_status_of : HubOutcome → EmbeddedHub → ℕ
hub_status_of outcome.Done k = code.DONE
hub_status_of outcome.Blank k = code.BLANK
hub_status_of outcome.NoView k = code.REFUSED
hub_status_of (outcome.NoApply at cause) k = code.REFUSED
hub_status_of (outcome.NotAnEdit fault) k = code.REFUSED
hub_status_of outcome.LineFeed k = code.LINE_FEED
hub_status_of outcome.Full k = code.FULL
hub_status_of outcome.NoMemory k = code.NO_MEMORY
hub_status_of outcome.NoHub k = hub_closed_status k

-- ---- reasons

-- a cause of the view with this number
abbrev pub of_view : ℕ → ℕ → Reason
of_view cause number = record { cause = cause; part = number; at = 0 }

-- why a program part is refused, with the number of the view
abbrev pub hub_refusal_reason : HubRefused → Reason
hub_refusal_reason TooManyViews = no_place hub_code.TOO_MANY_VIEWS
hub_refusal_reason (InView number refused) =
    record { cause = program_cause refused; part = number; at = program_offset refused }
hub_refusal_reason (ViewsDiffer number) = of_view hub_code.VIEWS_DIFFER number
hub_refusal_reason NoMemory = no_place code.NO_CAUSE

-- why the texts of a state are refused, with the number of the view
abbrev pub hub_state_reason : HubStateFault → Reason
hub_state_reason fault.OtherCount = no_place hub_code.OTHER_COUNT
hub_state_reason fault.NotHub = no_place hub_code.NOT_HUB
hub_state_reason (fault.NotView number) = of_view hub_code.NOT_VIEW number
hub_state_reason (fault.NotComplement number) = of_view code.NOT_COMPLEMENT number
hub_state_reason (fault.NotConsistent number) = of_view code.NOT_CONSISTENT number
hub_state_reason fault.NoMemory = no_place code.NO_CAUSE

-- why there is no hub
abbrev pub hub_closed_reason : EmbeddedHub → Reason
hub_closed_reason (embedded.Open r) = no_place code.NO_CAUSE
hub_closed_reason (embedded.Refused refused line) = hub_refusal_reason refused
hub_closed_reason (embedded.StateRefused why) = hub_state_reason why
hub_closed_reason embedded.NoMemory = no_place code.NO_CAUSE

-- why a call ended so
abbrev pub hub_reason_of : HubOutcome → EmbeddedHub → Reason
hub_reason_of outcome.NoView k = no_place hub_code.NO_VIEW
hub_reason_of (outcome.NoApply at cause) k = record { cause = item_cause cause; part = 0; at = at }
hub_reason_of (outcome.NotAnEdit fault) k = no_place (line_cause fault)
hub_reason_of outcome.NoHub k = hub_closed_reason k
hub_reason_of outcome.Done k = no_place code.NO_CAUSE
hub_reason_of outcome.Blank k = no_place code.NO_CAUSE
hub_reason_of outcome.LineFeed k = no_place code.NO_CAUSE
hub_reason_of outcome.Full k = no_place code.NO_CAUSE
hub_reason_of outcome.NoMemory k = no_place code.NO_CAUSE

-- ---- an answer

-- how many items were given
abbrev pub hub_number_of : EmbeddedHub → ℕ
hub_number_of (embedded.Open r) = r.number
hub_number_of (embedded.Refused refused line) = 0
hub_number_of (embedded.StateRefused why) = 0
hub_number_of embedded.NoMemory = 0

-- the answer has this status and this reason, the number of items of what is held, and the length of its text
pub record IsHubAnswer (status : ℕ) (reason : Reason) (k : EmbeddedHub) (answer : Answer) : Type 0 where
  pub status_is : answer.status ≡ status
  pub cause_is : answer.cause ≡ reason.cause
  pub part_is : answer.part ≡ reason.part
  pub at_is : answer.at ≡ reason.at
  pub number_is : answer.number ≡ hub_number_of k
  pub len_is : answer.len ≡ length (text_of k)
  pub size_is : answer.size ≡ code.ANSWER_SIZE
  pub spare_1_is : answer.spare_1 ≡ 0
  pub spare_2_is : answer.spare_2 ≡ 0

-- the part of a state that has the first number, and of the view that has the second
abbrev pub hub_part_of : ℕ → ℕ → Option HubPart
hub_part_of n view = if n == hub_code.HUB_STATE then Some State
    else if n == hub_code.HUB_DOCUMENT then Some Document
    else if n == hub_code.VIEW_DOCUMENT then Some (ViewDocument view)
    else if n == hub_code.VIEW_COMPLEMENT then Some (ViewComplement view)
    else None
