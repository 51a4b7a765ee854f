-- The statuses of commands: the exit code of each, and those by which a command came to its end.
use Rattle.std.specs.Prelude.{◌≡◌, ◌⊎◌, ℕ, List, [], ◌∷◌, Bool, true, false}
use Rattle.command_ends.specs.declared.status.Status.{Status}
use Rattle.command_ends.specs.declared.status.Status.TheVariants.{Done, SomeRefused, Usage, ProgramRefused}
use Rattle.command_ends.specs.declared.status.Status.TheVariants.{StoreRefused}
use Rattle.command_ends.specs.declared.status.Status.TheVariants.{SourceFault, SinkFault, DiskFault, InputTooLong}
use Rattle.command_ends.specs.declared.status.Status.TheVariants.{NoMemory}

-- the exit code
abbrev pub code_of : Status → ℕ
code_of Done = 0
code_of SomeRefused = 1
code_of Usage = 2
code_of ProgramRefused = 3
code_of StoreRefused = 4
code_of SourceFault = 5
code_of SinkFault = 6
code_of DiskFault = 7
code_of InputTooLong = 8
code_of NoMemory = 9

-- the status of a command that came to its end, by whether an entry was refused
abbrev pub status_at_end : Bool → Status
status_at_end true = SomeRefused
status_at_end false = Done

-- the command came to its end: nothing stopped it
abbrev pub IsFinished : Status → Type 0
IsFinished status = (status ≡ Done) ⊎ (status ≡ SomeRefused)

-- the status is one of these
abbrev pub IsStatusAmong : List Status → Status → Type 0
IsStatusAmong [] status = ⊥
IsStatusAmong (one ∷ more) status = (status ≡ one) ⊎ IsStatusAmong more status

-- ---- how each kind of command may end, whatever the devices tell

-- a command over a script
abbrev pub script_statuses : List Status
script_statuses = Done ∷ SomeRefused ∷ ProgramRefused ∷ SourceFault ∷ SinkFault ∷ InputTooLong ∷ NoMemory ∷ []

-- a command that makes a store: `init`; and `import`, which may refuse its document, too
abbrev pub init_statuses : List Status
init_statuses =
    Done ∷ ProgramRefused ∷ StoreRefused ∷ SourceFault ∷ SinkFault ∷ DiskFault ∷ InputTooLong ∷ NoMemory ∷ []

abbrev pub import_statuses : List Status
import_statuses = SomeRefused ∷ init_statuses

-- `apply`, which reads a journal over a store
abbrev pub apply_statuses : List Status
apply_statuses = Done ∷ SomeRefused ∷ StoreRefused ∷ SourceFault ∷ SinkFault ∷ DiskFault ∷ InputTooLong ∷ NoMemory ∷ []

-- a command over a store that reads no journal
abbrev pub quiet_statuses : List Status
quiet_statuses = Done ∷ StoreRefused ∷ SinkFault ∷ DiskFault ∷ NoMemory ∷ []
