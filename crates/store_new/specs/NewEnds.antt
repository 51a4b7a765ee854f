-- How a command ends that makes a store: what was taken, what was written, and what the disk holds.
-- Read it from the end: `Completes`, `KeepsStore`, `RefusesAtOnce`, `Ends`, then its five cases.
use Rattle.std.specs.Prelude.{◌≡◌, ◌⊎◌, ℕ, ◌+◌, ◌<◌, ◌≤◌, List, [], length, IfSome, Some, Err, true}
use Rattle.lens_io.specs.Calls.{Took, IsRead, SourceFailed, Gave, GaveFront, SinkFailed, DiskFailed}
use Rattle.lens_io.specs.declared.disk.Disk as OfDisk
use Rattle.lens_io.specs.declared.sink.Sink as OfSink
use Rattle.lens_io.specs.declared.source.Source as OfSource
use Rattle.script_input.specs.declared.limits.TheConstants.{MOST_BYTES}
use Rattle.script_input.specs.Coming.{has_separator}
use Rattle.script_input.specs.Lines.{program_part}
use Rattle.store_run.specs.Devices.{Devices}
use Rattle.store_run.specs.Refusals.{IsUnwritten, refusal_line}
use Rattle.store_run.specs.declared.refusals.StoreRefusal.TheVariants.{LogExists}
use Rattle.store_new.specs.Command.{PartMeaning, Command}
use Rattle.store_new.specs.Scripts.{IsAcceptedPart, PartGoesOn, RefusesPartWith}
use Rattle.store_new.specs.NewStores.{IsTooLong, EndsMaking}
use Rattle.command_ends.specs.declared.status.Status.{Status}
use Rattle.command_ends.specs.declared.status.Status.TheVariants.{Done, SomeRefused, ProgramRefused, StoreRefused}
use Rattle.command_ends.specs.declared.status.Status.TheVariants.{SourceFault, SinkFault, DiskFault, InputTooLong}
use Rattle.command_ends.specs.declared.status.Status.TheVariants.{NoMemory}

module _ {K : Type 0} (sink : OfSink.Ghosts K) (old new : K) where
  -- this line was written, and the command ends with this status; or a prefix of it was, and the sink failed
  abbrev pub GivesLine : List ℕ → Status → Status → Type 0
  GivesLine line ending status =
      (status ≡ ending) × Gave sink old new line
      ⊎ (status ≡ SinkFault) × GaveFront sink old new line

-- What stopped a command before its script was known, after these bytes. A fault of the source, and too many bytes,
-- come only before the separator or behind a program part that is accepted. The disk fails here only before anything is
-- taken.
abbrev pub StopsAfter : PartMeaning → List ℕ → Status → Type 0
StopsAfter part bytes SourceFault = (length bytes ≤ MOST_BYTES) × PartGoesOn part bytes
StopsAfter part bytes InputTooLong = (MOST_BYTES < length bytes) × PartGoesOn part bytes
StopsAfter part bytes DiskFault = bytes ≡ []
StopsAfter part bytes NoMemory = Unit {0}
StopsAfter part bytes status = ⊥

-- A command before a call (old) and after it (new): what its source, its sink and its disk tell.
module _ {S K D : Type 0} (source : OfSource.Ghosts S) (sink : OfSink.Ghosts K) (disk : OfDisk.Ghosts D)
    (command : Command) (old new : Devices S K D) (status : Status) where
  -- The disk is not empty, and `store refused: log-exists` was written in place of all else. If the content of the disk
  -- is known, nothing was taken from the source.
  pub record FindsStore : Type 0 where
    pub bytes : List ℕ
    pub took : Took source old.source new.source bytes
    pub within : length bytes ≤ MOST_BYTES
    pub goes_on : PartGoesOn command.part bytes
    pub some : IfSome (disk.content old.disk) (λ before. (0 < length before) × (bytes ≡ []))
    pub unwritten : IsUnwritten disk old.disk new.disk
    pub given : GivesLine sink old.sink new.sink (refusal_line LogExists) StoreRefused status

  -- The command stopped before its script was known. It wrote nothing.
  pub record StopsEarly : Type 0 where
    pub bytes : List ℕ
    pub took : Took source old.source new.source bytes
    pub at_most : length bytes ≤ MOST_BYTES + 1
    pub stops : StopsAfter command.part bytes status
    pub unwritten : IsUnwritten disk old.disk new.disk
    pub given : Gave sink old.sink new.sink []

  -- The program part is whole and refused. The line of that refusal was written, and nothing to the disk, which was
  -- empty.
  pub record RefusesProgram : Type 0 where
    pub bytes : List ℕ
    pub took : Took source old.source new.source bytes
    pub at_most : length bytes ≤ MOST_BYTES + 1
    pub line : List ℕ
    pub refused : RefusesPartWith command.part source old.source new.source bytes line
    pub was_empty : IfSome (disk.content old.disk) (λ before. length before ≡ 0)
    pub unwritten : IsUnwritten disk old.disk new.disk
    pub given : GivesLine sink old.sink new.sink line ProgramRefused status

  -- The script was read to its end, and the command refuses it. Its line was written, and nothing to the disk, which
  -- was empty.
  pub record RefusesScript : Type 0 where
    pub bytes : List ℕ
    pub took : Took source old.source new.source bytes
    pub read : IsRead source old.source new.source
    pub within : length bytes ≤ MOST_BYTES
    pub line : List ℕ
    pub refused : command.refuses bytes line
    pub was_empty : IfSome (disk.content old.disk) (λ before. length before ≡ 0)
    pub unwritten : IsUnwritten disk old.disk new.disk
    pub given : GivesLine sink old.sink new.sink line SomeRefused status

  -- The script was read to its end, the disk was empty, and the making of its store ended so.
  pub record MakesNewStore : Type 0 where
    pub bytes : List ℕ
    pub took : Took source old.source new.source bytes
    pub read : IsRead source old.source new.source
    pub within : length bytes ≤ MOST_BYTES
    pub was_empty : IfSome (disk.content old.disk) (λ before. length before ≡ 0)
    pub payloads : List (List ℕ)
    pub lines : List ℕ
    pub made : command.makes bytes payloads lines
    pub ends : EndsMaking sink disk (old.sink, old.disk) (new.sink, new.disk) payloads lines status

  -- how the command ends
  abbrev pub Ends : Type 0
  Ends = FindsStore ⊎ StopsEarly ⊎ RefusesProgram ⊎ RefusesScript ⊎ MakesNewStore

-- ---- the refusal of a program part

-- The command refused the program part. Or the sink failed, at its line, or memory ran out.
abbrev pub MayRefuse : Status → Type 0
MayRefuse ProgramRefused = Unit {0}
MayRefuse SinkFault = Unit {0}
MayRefuse NoMemory = Unit {0}
MayRefuse status = ⊥

-- A refusal of the program part is exact and comes at once. The source gave these bytes.
pub record RefusesAtOnce (part : PartMeaning) {S : Type 0} (source : OfSource.Ghosts S) (old new : S)
    (status : Status) : Type 0 where
  pub bytes : List ℕ
  pub took : Took source old new bytes
  -- After ProgramRefused the part is whole and refused: if the separator has come, it came with the last call of the
  -- source.
  pub only : status ≡ ProgramRefused → (line : List ℕ) × RefusesPartWith part source old new bytes line
  -- If the separator has come and the part is refused, no other status comes, whatever stands behind the separator.
  pub whole : has_separator bytes ≡ true → (refusal : part.Refusal)
      → part.accepted (program_part bytes) ≡ Err refusal → MayRefuse status

-- ---- a disk that is not empty

module _ {S K D : Type 0} (source : OfSource.Ghosts S) (sink : OfSink.Ghosts K) (disk : OfDisk.Ghosts D)
    (old new : Devices S K D) (status : Status) where
  -- If the disk is not empty, nothing was taken from the source, and nothing was written to the disk. The line `store
  -- refused: log-exists` was written, or a prefix of it and the sink failed; or the disk failed, and nothing was
  -- written.
  abbrev pub KeepsStore : Type 0
  KeepsStore = IfSome (disk.content old.disk) (λ bytes. 0 < length bytes
      → (new.source ≡ old.source) × IsUnwritten disk old.disk new.disk
      × (GivesLine sink old.sink new.sink (refusal_line LogExists) StoreRefused status
      ⊎ (status ≡ DiskFault) × (new.sink ≡ old.sink)))

-- ---- a command without a fault

-- The command came to its end: the store is made, or the command refused the script by its own rules, or memory ran
-- out.
abbrev pub IsEnd : Status → Type 0
IsEnd Done = Unit {0}
IsEnd SomeRefused = Unit {0}
IsEnd NoMemory = Unit {0}
IsEnd status = ⊥

-- the program part was refused, or memory ran out
abbrev pub IsRefused : Status → Type 0
IsRefused ProgramRefused = Unit {0}
IsRefused NoMemory = Unit {0}
IsRefused status = ⊥

-- A command over these bytes came to its end if the program part is accepted, and there is room for the log; it refused
-- the program part if that is refused. Or memory ran out.
pub record IsCompleteCommand (command : Command) (bytes : List ℕ) (status : Status) : Type 0 where
  pub accepted : IsAcceptedPart command.part bytes
      → ((payloads : List (List ℕ)) (lines : List ℕ) → command.makes bytes payloads lines → IsTooLong payloads → ⊥)
      → IsEnd status
  pub refused : (refusal : command.part.Refusal) → command.part.accepted (program_part bytes) ≡ Err refusal
      → IsRefused status

module _ {S K D : Type 0} (source : OfSource.Ghosts S) (sink : OfSink.Ghosts K) (disk : OfDisk.Ghosts D)
    (command : Command) (old new : Devices S K D) (status : Status) where
  -- over an empty disk and a source of at most 2^30 bytes the command is complete if no device failed
  abbrev pub Completes : Type 0
  Completes = disk.content old.disk ≡ Some [] → IfSome (source.left old.source) (λ bytes. length bytes ≤ MOST_BYTES
      → (SourceFailed source old.source new.source → ⊥) → (SinkFailed sink old.sink new.sink → ⊥)
      → (DiskFailed disk old.disk new.disk → ⊥)
      → IsCompleteCommand command bytes status)
