-- What any bytes are to the commands over a store: refused, or a store whose state is in step.
use Rattle.std.specs.Prelude.{◌≡◌, ◌⊎◌, ℕ, List, Option, Some, Ok}
use Rattle.gate_log.specs.LogOnDisk.{HoldsPayloads}
use Rattle.store_run.specs.Refusals.{refusal_in}
use Rattle.store_run.specs.declared.refusals.StoreRefusal.{StoreRefusal}
use Rattle.store_run.specs.declared.session.StoredSession as OfSession

-- `IsInStep` says that a state is in step.
module _ {A : Type 0} (session : OfSession.Ghosts A) (IsInStep : session.State → Type 0) where
  -- The bytes are a log, and its payloads represent this state, which is in step.
  pub record HoldsState (bytes : List ℕ) : Type 0 where
    pub payloads : List (List ℕ)
    pub holds : HoldsPayloads payloads bytes
    pub state : session.State
    pub version : Option (List ℕ)
    pub represents : session.stands_for payloads ≡ Ok (state, version)
    pub in_step : IsInStep state

  -- the bytes are refused as a store, or hold such a state
  abbrev pub IsRefusedOrInStep : List ℕ → Type 0
  IsRefusedOrInStep bytes =
      ((refusal : StoreRefusal) × (refusal_in session bytes ≡ Some refusal)) ⊎ HoldsState bytes
