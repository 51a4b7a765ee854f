-- What a disk has no room for, of a command that makes a store. Read it from the end: `ScriptHasNoRoom`,
-- `PlanHasNoRoom`, then `HasNoRoomToMake`.
use Rattle.std.specs.Prelude.{◌⊎◌, ℕ, ◌<◌, ◌≤◌, List, [], length}
use Rattle.lens_io.specs.Calls.{Took, IsRead}
use Rattle.lens_io.specs.declared.source.Source as OfSource
use Rattle.script_input.specs.declared.limits.TheConstants.{MOST_BYTES}
use Rattle.store_run.specs.Rooms.{HasNoRoom}
use Rattle.store_new.specs.Command.{Command}

-- A disk of so many bytes has no room for the mark of a log and its gate, or for the log of the first of these payloads
-- up to one of them, and the gate behind it.
abbrev pub HasNoRoomToMake : ℕ → List (List ℕ) → Type 0
HasNoRoomToMake most payloads = (most < 9) ⊎ HasNoRoom most [] payloads

-- a disk of so many bytes has no room for a store as it was planned
pub record PlanHasNoRoom (P : List (List ℕ) → List ℕ → Type 0) (most : ℕ) : Type 0 where
  pub payloads : List (List ℕ)
  pub lines : List ℕ
  pub planned : P payloads lines
  pub no_room : HasNoRoomToMake most payloads

-- the script was read to its end, and a disk of so many bytes has no room for its store
pub record ScriptHasNoRoom {S : Type 0} (source : OfSource.Ghosts S) (command : Command) (old new : S)
    (most : ℕ) : Type 0 where
  pub bytes : List ℕ
  pub took : Took source old new bytes
  pub read : IsRead source old new
  pub within : length bytes ≤ MOST_BYTES
  pub no_room : PlanHasNoRoom (command.makes bytes) most
