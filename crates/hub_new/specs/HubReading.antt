-- For the helpers of `init_hub`: what was read of a script.
use Rattle.std.specs.Prelude.{◌≡◌, ◌⊎◌, ℕ, ◌+◌, ◌≤◌, List, [], length}
use Rattle.lens_forms.specs.Forms.{FormTree}
use Rattle.lens_io.specs.Calls.{Took, IsRead, Gave}
use Rattle.lens_io.specs.declared.sink.Sink as OfSink
use Rattle.lens_io.specs.declared.source.Source as OfSource
use Rattle.program_terms.specs.Terms.{ProgramTree}
use Rattle.script_input.specs.Coming.{IsWhole}
use Rattle.script_input.specs.Lines.{program_part}
use Rattle.script_input.specs.declared.limits.TheConstants.{MOST_BYTES}
use Rattle.hub_run.specs.FoundLenses.{HasRefusalLine, IsRefusalOf, IsRefusedHub}
use Rattle.hub_run.specs.Lenses.{HubRefusal, lenses_of, hub_refusal_line}
use Rattle.hub_run.specs.declared.views.HubRefused.{HubRefused}
use Rattle.hub_run.specs.declared.views.HubRefused.TheVariants.{NoMemory as no_memory}
use Rattle.command_ends.specs.declared.status.Status.{Status}
use Rattle.command_ends.specs.declared.status.Status.TheVariants.{ProgramRefused, NoMemory}
use Rattle.store_new.specs.NewEnds.{GivesLine}
use Rattle.store_new.specs.ScriptReading.{ReadsFront}
use Rattle.hub_new.specs.HubParts.{IsAcceptedHub, view_programs}
use Rattle.hub_new.specs.declared.reading.UnreadHub.{UnreadHub}
use Rattle.hub_new.specs.declared.reading.UnreadHub.TheVariants.{Refused, Stopped}

-- The line of the refusal was written, or a prefix of it and the sink failed; or memory ran out, as after a refusal
-- that is none, and nothing was written.
pub record RefusesViews {K : Type 0} (sink : OfSink.Ghosts K) (old new : K) (refused : HubRefused)
    (status : Status) : Type 0 where
  pub ends : (refusal : HubRefusal) → IsRefusalOf refused refusal
      → GivesLine sink old new (hub_refusal_line refusal) ProgramRefused status
      ⊎ (status ≡ NoMemory) × Gave sink old new []
  pub memory : refused ≡ no_memory → (status ≡ NoMemory) × Gave sink old new []

module _ {S : Type 0} (source : OfSource.Ghosts S) (old new : S) where
  -- The source was read to its end, and the program part is accepted.
  pub record ReadsHub (programs : List ProgramTree) (forms : List FormTree) : Type 0 where
    pub bytes : List ℕ
    pub took : Took source old new bytes
    pub read : IsRead source old new
    pub within : length bytes ≤ MOST_BYTES
    pub accepted : IsAcceptedHub (program_part bytes) programs forms

  -- The program part is whole and refused; or memory ran out.
  pub record ReadsRefusedHub (refused : HubRefused) : Type 0 where
    pub bytes : List ℕ
    pub took : Took source old new bytes
    pub at_most : length bytes ≤ MOST_BYTES + 1
    pub whole : IsWhole source old new bytes
    pub is : IsRefusedHub (lenses_of (program_part bytes)) refused
    pub known : HasRefusalLine refused

  -- why a script was not read to its end, or has no hub
  abbrev pub IsUnreadHub : UnreadHub → Type 0
  IsUnreadHub (Refused refused) = ReadsRefusedHub refused
  IsUnreadHub (Stopped fault) = ReadsFront view_programs source old new fault
