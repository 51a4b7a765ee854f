-- How a command ends over devices that do not fail: the source and the sink are in memory, and the disk fails only at
-- the end of its room. Read it from the end: `MadeInRoom`, `StoredInRoom`, then `EndsInRoom`.
use Rattle.std.specs.Prelude.{◌≡◌, ◌⊎◌, ℕ, List}
use Rattle.store_new.specs.Command.{Command}
use Rattle.store_new.specs.NewEnds.{IsCompleteCommand}
use Rattle.store_run.specs.Rooms.{most_bytes}
use Rattle.command_ends.specs.declared.status.Status.{Status}
use Rattle.command_ends.specs.declared.status.Status.TheVariants.{StoreRefused, SinkFault, DiskFault}

-- `is_full` says that the sink's room is full.
module _ (status : Status) (is_full : Type 0) where
  -- the command ended as it should, or the sink's room is full
  abbrev pub EndsInRoom : Type 0 → Type 0
  EndsInRoom ends = ends ⊎ ((status ≡ SinkFault) × is_full)

  -- The same of a command that stores. The disk fails only if it has no room for what was to be stored next, and the
  -- log is refused only if it has none. What has no room on a disk of so many bytes is given by `no_room`.
  abbrev pub StoredInRoom : Type 0 → (ℕ → Type 0) → ℕ → Type 0
  StoredInRoom ends no_room room =
      EndsInRoom ends
      ⊎ ((status ≡ DiskFault) × no_room room)
      ⊎ ((status ≡ StoreRefused) × no_room most_bytes)

  -- The same of a command that makes a store of these bytes on an empty disk.
  abbrev pub MadeInRoom : Command → List ℕ → Type 0 → Type 0
  MadeInRoom command bytes no_room =
      EndsInRoom (IsCompleteCommand command bytes status) ⊎ ((status ≡ DiskFault) × no_room)
