-- An input that is read in pieces, and what one more piece adds to it.
use Rattle.std.specs.Prelude.{◌≡◌, ◌⊎◌, ℕ, ◌+◌, ◌<◌, ◌≤◌, List, [], length, take, Bool, true, false, Result, Ok, Err}
use Rattle.std.specs.Prelude.{IfOk, IfErr}
use Rattle.std.specs.declared.option.Option.{Option}
use Rattle.std.specs.Io.KnownBytes.{Consumes, Keeps, IsAtEnd}
use Rattle.lens_io.specs.Calls.{Took}
use Rattle.lens_io.specs.declared.failed.TakeFault.{TakeFault}
use Rattle.lens_io.specs.declared.failed.TakeFault.TheVariants.{SourceFault, TooLong, NoMemory}
use Rattle.lens_io.specs.declared.source.Source as OfSource
use Rattle.edit_journal.specs.Pieces.{FedLines, fed}
use Rattle.script_input.specs.declared.limits.TheConstants.{MOST_BYTES}

-- the lines of the bytes that were taken, and how many bytes they were
pub record TakenInput : Type 0 where
  pub lines : FedLines
  pub taken : ℕ

-- no more bytes than are ever asked for, and no more lines than bytes
abbrev pub IsTakenWithin : TakenInput → Type 0
IsTakenWithin input = (input.taken ≤ MOST_BYTES + 1) × (length input.lines.ended ≤ input.taken)

-- This many bytes were put at the front of the piece; 0 is the end. A fault of the source, and too many bytes before,
-- take none.
abbrev pub TakesBytes : Option (List ℕ) → Option (List ℕ) → List ℕ → ℕ → Result ℕ TakeFault → Type 0
TakesBytes left left' piece taken (Ok count) =
    (count ≤ length piece) × (taken ≤ MOST_BYTES) × (taken + count ≤ MOST_BYTES + 1)
    × Consumes left left' (take count piece) × (count ≡ 0 → IsAtEnd left')
TakesBytes left left' piece taken (Err SourceFault) = Keeps left left' × (taken ≤ MOST_BYTES)
TakesBytes left left' piece taken (Err TooLong) = Keeps left left' × (MOST_BYTES < taken)
TakesBytes left left' piece taken (Err NoMemory) = ⊥

-- what the number of bytes that were taken says of a fault: after MOST_BYTES + 1 bytes there are too many, and no more
-- are asked for
abbrev pub StopsAt : ℕ → TakeFault → Type 0
StopsAt taken SourceFault = taken ≤ MOST_BYTES
StopsAt taken TooLong = MOST_BYTES < taken
StopsAt taken NoMemory = Unit {0}

-- the same where bytes are forgotten, which takes no memory
abbrev pub StopsSkipping : ℕ → TakeFault → Type 0
StopsSkipping taken SourceFault = taken ≤ MOST_BYTES
StopsSkipping taken TooLong = MOST_BYTES < taken
StopsSkipping taken NoMemory = ⊥

-- A piece joins the lines. An empty one is the end, and then there were not too many bytes.
pub record Grows (left' : Option (List ℕ)) (old new : TakenInput) (bytes : List ℕ) (more : Bool) : Type 0 where
  pub lines : new.lines ≡ fed old.lines bytes
  pub some : more ≡ true → 0 < length bytes
  pub at_end : more ≡ false → (bytes ≡ []) × IsAtEnd left' × (old.taken ≤ MOST_BYTES)

-- the source gave nothing; out of memory, what it gave is lost
abbrev pub TakesNone : List ℕ → TakeFault → Type 0
TakesNone bytes SourceFault = bytes ≡ []
TakesNone bytes TooLong = bytes ≡ []
TakesNone bytes NoMemory = Unit {0}

-- a fault leaves the lines as they were
pub record Stays (old new : TakenInput) (bytes : List ℕ) (fault : TakeFault) : Type 0 where
  pub lines : new.lines ≡ old.lines
  pub stops : StopsAt new.taken fault
  pub none : TakesNone bytes fault

-- The source is called once, and gives so many bytes. After too many bytes it is not called.
abbrev pub CallsOnce : {S T : Type 0} → OfSource.Ghosts S → S → S → ℕ → Result T TakeFault → Type 0
CallsOnce source s s' count (Err TooLong) = s' ≡ s
CallsOnce source s s' count result = source.last s' ≡ count

-- if the source was called, its last call gave no more bytes than this
abbrev pub GaveFew : {S : Type 0} → OfSource.Ghosts S → S → S → ℕ → Type 0
GaveFew source s s' room = (s' ≡ s) ⊎ (source.last s' ≤ room)

-- These bytes were taken, if any, by one call of the source.
pub record TakesMore {S : Type 0} (source : OfSource.Ghosts S) (s s' : S) (old new : TakenInput)
    (result : Result Bool TakeFault) : Type 0 where
  pub bytes : List ℕ
  pub consumes : Took source s s' bytes
  pub once : CallsOnce source s s' (length bytes) result
  pub taken : new.taken ≡ old.taken + length bytes
  pub at_most : new.taken ≤ MOST_BYTES + 1
  pub grows : IfOk result (Grows (source.left s') old new bytes)
  pub stays : IfErr result (Stays old new bytes)

-- the same where the bytes are forgotten: the lines stay
pub record SkipsMore (left left' : Option (List ℕ)) (old new : TakenInput)
    (result : Result Bool TakeFault) : Type 0 where
  pub bytes : List ℕ
  pub consumes : Consumes left left' bytes
  pub taken : new.taken ≡ old.taken + length bytes
  pub at_most : new.taken ≤ MOST_BYTES + 1
  pub lines : new.lines ≡ old.lines
  pub skips : IfOk result (λ more. (more ≡ false → IsAtEnd left' × (new.taken ≤ MOST_BYTES))
      × (more ≡ true → 0 < length bytes))
  pub stops : IfErr result (StopsSkipping new.taken)
