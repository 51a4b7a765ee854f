-- What a disk holds once a store is made on it, or once the making has stopped.
-- Read it from the end: `EndsMaking`, `HoldsFirstOnly`, then `HoldsStore`.
use Rattle.std.specs.Prelude.{◌≡◌, ◌⊎◌, ℕ, ◌+◌, ◌^◌, ◌<◌, ◌≤◌, List, [], ◌++◌, length, drop, IfSome}
use Rattle.lens_io.specs.Calls.{Gave, GaveFront}
use Rattle.lens_io.specs.declared.disk.Disk as OfDisk
use Rattle.lens_io.specs.declared.sink.Sink as OfSink
use Rattle.gate_log.specs.LogBytes.{closed_gate}
use Rattle.gate_log.specs.LogOnDisk.{HoldsPayloads}
use Rattle.store_run.specs.Refusals.{refusal_line}
use Rattle.store_run.specs.declared.refusals.StoreRefusal.TheVariants.{LogFull}
use Rattle.command_ends.specs.declared.status.Status.{Status}
use Rattle.command_ends.specs.declared.status.Status.TheVariants.{Done, StoreRefused, SinkFault, DiskFault}
use Rattle.command_ends.specs.declared.status.Status.TheVariants.{NoMemory}

-- the log of these payloads would have more than 2^63 - 1 bytes
abbrev pub IsTooLong : List (List ℕ) → Type 0
IsTooLong payloads = 2 ^ 63 ≤ closed_gate payloads + 1

module _ {D : Type 0} (disk : OfDisk.Ghosts D) where
  -- a read of the disk gives nothing behind the end of a log with these payloads
  abbrev pub EndsThere : D → List (List ℕ) → Type 0
  EndsThere d payloads = IfSome (disk.content d) (λ bytes. drop (closed_gate payloads + 1) bytes ≡ [])

  -- A read of the disk, and each image that a crash now may leave, holds a log with these payloads. A read gives
  -- nothing behind the end of the log.
  pub record HoldsStore (d : D) (payloads : List (List ℕ)) : Type 0 where
    pub read : IfSome (disk.content d) (HoldsPayloads payloads)
    pub crash : (c : List ℕ) → disk.images d c → HoldsPayloads payloads c
    pub ends_there : EndsThere d payloads

  -- the same of the first of these payloads: none of them, or some, and not all
  pub record HoldsFirstOnly (d : D) (payloads : List (List ℕ)) : Type 0 where
    pub front : List (List ℕ)
    pub rest : List (List ℕ)
    pub parts : payloads ≡ front ++ rest
    pub some : 0 < length rest
    pub holds : HoldsStore d front

module _ {K D : Type 0} (sink : OfSink.Ghosts K) (disk : OfDisk.Ghosts D) (old new : K × D)
    (payloads : List (List ℕ)) (lines : List ℕ) where
  -- How the making of a store of these payloads on an empty disk ends, with these lines behind it. Done: the store is
  -- made, and the lines were written. SinkFault: it is made, and a prefix of the lines was written; or the log was
  -- full, and a prefix of the line that says so was written. StoreRefused: the log was full, and the line that says so
  -- was written. NoMemory: nothing was written. DiskFault: nothing was written, and the disk may hold any bytes.
  abbrev pub EndsMaking : Status → Type 0
  EndsMaking Done = HoldsStore disk new.1 payloads × Gave sink old.0 new.0 lines
  EndsMaking SinkFault =
      HoldsStore disk new.1 payloads × GaveFront sink old.0 new.0 lines
      ⊎ IsTooLong payloads × HoldsFirstOnly disk new.1 payloads × GaveFront sink old.0 new.0 (refusal_line LogFull)
  EndsMaking StoreRefused =
      IsTooLong payloads × HoldsFirstOnly disk new.1 payloads × Gave sink old.0 new.0 (refusal_line LogFull)
  EndsMaking NoMemory = HoldsFirstOnly disk new.1 payloads × Gave sink old.0 new.0 []
  EndsMaking DiskFault = Gave sink old.0 new.0 []
  EndsMaking status = ⊥
