-- What the bytes of a disk are to a command over a store: `Store`, or `RefusedStore`.
use Rattle.std.specs.Prelude.{◌≡◌, ℕ, List, Some, Ok}
use Rattle.std.specs.declared.option.Option.{Option}
use Rattle.lens_io.specs.declared.disk.Disk as OfDisk
use Rattle.gate_log.specs.LogOnDisk.{HoldsPayloads}
use Rattle.store_run.specs.Refusals.{refusal_in}
use Rattle.store_run.specs.declared.refusals.StoreRefusal.{StoreRefusal}
use Rattle.store_run.specs.declared.session.StoredSession as OfSession

module _ {D A : Type 0} (disk : OfDisk.Ghosts D) (session : OfSession.Ghosts A) (d : D) where
  -- The bytes of the disk are known, and are a log of these payloads, which stand for this state. The version record
  -- is there if it is still to be stored.
  pub record Store : Type 0 where
    pub bytes : List ℕ
    pub told : disk.content d ≡ Some bytes
    pub payloads : List (List ℕ)
    pub holds : HoldsPayloads payloads bytes
    pub state : session.State
    pub version : Option (List ℕ)
    pub stands : session.stands_for payloads ≡ Ok (state, version)

  -- The bytes of the disk are known, and are refused as a store, for this reason.
  pub record RefusedStore : Type 0 where
    pub bytes : List ℕ
    pub told : disk.content d ≡ Some bytes
    pub reason : StoreRefusal
    pub refused : refusal_in session bytes ≡ Some reason
