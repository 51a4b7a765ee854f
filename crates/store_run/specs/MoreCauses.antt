-- Why a command that stores records behind those of a store ended so: there was no room for them.
-- Read it from the end: `IsMoreCauseInRoom` of one record, `IsBehindCause`, then `IsStoreCause`.
use Rattle.std.specs.Prelude.{ℕ, List, [], ◌∷◌, Option, IfSome}
use Rattle.lens_io.specs.declared.disk.Disk as OfDisk
use Rattle.store_run.specs.Rooms.{most_bytes, HasNoRoom}
use Rattle.command_ends.specs.declared.status.Status.{Status}
use Rattle.command_ends.specs.declared.status.Status.TheVariants as ending

-- What each status says: the log is full, or the disk is. No status comes that is not named.
abbrev pub IsStoreCause : Status → Type 0 → Type 0 → Type 0
IsStoreCause ending.StoreRefused log_full disk_full = log_full
IsStoreCause ending.DiskFault log_full disk_full = disk_full
IsStoreCause ending.Done log_full disk_full = Unit {0}
IsStoreCause ending.SinkFault log_full disk_full = Unit {0}
IsStoreCause ending.NoMemory log_full disk_full = Unit {0}
IsStoreCause status log_full disk_full = ⊥

-- after StoreRefused the log has no room for the records, and after DiskFault the disk has none, if its room is known
abbrev pub IsBehindCauseInRoom : Option ℕ → List (List ℕ) → List (List ℕ) → Status → Type 0
IsBehindCauseInRoom room before records status =
    IsStoreCause status (HasNoRoom most_bytes before records) (IfSome room (λ most. HasNoRoom most before records))

-- the same over this disk
abbrev pub IsBehindCause : {D : Type 0} → OfDisk.Ghosts D → D → List (List ℕ) → List (List ℕ) → Status → Type 0
IsBehindCause disk d before records status = IsBehindCauseInRoom (disk.room d) before records status

-- ---- one record

-- the payload has no room on a disk of so many bytes
abbrev pub OneHasNoRoom : ℕ → List (List ℕ) → List ℕ → Type 0
OneHasNoRoom most before payload = HasNoRoom most before (payload ∷ [])

abbrev pub IsMoreCauseInRoom : Option ℕ → List (List ℕ) → List ℕ → Status → Type 0
IsMoreCauseInRoom room before payload status = IsBehindCauseInRoom room before (payload ∷ []) status
