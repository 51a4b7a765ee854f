-- A store that a disk has no room for.
use Rattle.std.proofs.Common.{ℕ, ◌≤◌, List, length, Option}
use Rattle.std.specs.Prelude.{IfSome}
use Rattle.lens_io.specs.Calls.{Took, IsRead}
use Rattle.lens_io.specs.declared.source.Source as OfSource
use Rattle.script_input.specs.declared.limits.TheConstants.{MOST_BYTES}
use Rattle.store_run.proofs.Effects.{if_known}
use Rattle.store_new.specs.Command.{Command}
use Rattle.store_new.specs.NewRooms.{HasNoRoomToMake, PlanHasNoRoom, ScriptHasNoRoom}

-- no room for what was planned
pub no_room_for_plan : (o : Option ℕ) (P : List (List ℕ) → List ℕ → Type 0) (payloads : List (List ℕ)) (lines : List ℕ) → P payloads lines → IfSome o (λ most. HasNoRoomToMake most payloads)
    → IfSome o (PlanHasNoRoom P)
no_room_for_plan o P payloads lines planned h =
    if_known o (λ most. HasNoRoomToMake most payloads) (PlanHasNoRoom P) (λ most no_room. record { payloads = payloads; lines = lines; planned = planned; no_room = no_room }) h

-- no room for the store of a script that was read to its end
pub no_room_for_script : {S : Type 0} (source : OfSource.Ghosts S) (command : Command) (o : Option ℕ) (s s' : S) (bytes : List ℕ) (P : List (List ℕ) → List ℕ → Type 0)
    → Took source s s' bytes → IsRead source s s' → length bytes ≤ MOST_BYTES → ((payloads : List (List ℕ)) (lines : List ℕ) → P payloads lines → command.makes bytes payloads lines)
    → IfSome o (PlanHasNoRoom P) → IfSome o (ScriptHasNoRoom source command s s')
no_room_for_script source command o s s' bytes P took read within planned h =
    if_known o (PlanHasNoRoom P) (ScriptHasNoRoom source command s s')
    (λ most plan. record {
      bytes = bytes;
      took = took;
      read = read;
      within = within;
      no_room = record { payloads = plan.payloads; lines = plan.lines; planned = planned plan.payloads plan.lines plan.planned; no_room = plan.no_room };
    }) h

-- no room for a store that was planned in other words
pub no_room_for_same : (o : Option ℕ) (P Q : List (List ℕ) → List ℕ → Type 0) → ((payloads : List (List ℕ)) (lines : List ℕ) → P payloads lines → Q payloads lines)
    → IfSome o (PlanHasNoRoom P) → IfSome o (PlanHasNoRoom Q)
no_room_for_same o P Q planned h =
    if_known o (PlanHasNoRoom P) (PlanHasNoRoom Q)
    (λ most plan. record { payloads = plan.payloads; lines = plan.lines; planned = planned plan.payloads plan.lines plan.planned; no_room = plan.no_room }) h
