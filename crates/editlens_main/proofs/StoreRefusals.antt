-- What a store represents is in step, and no store is refused since memory ran out.
use Rattle.std.proofs.Common.{◌≡◌, List, ℕ, Option, Result, Ok, Err, refl}
use Rattle.store_records.specs.declared.record_fault.RecordFault.{RecordFault}
use Rattle.store_records.specs.declared.record_fault.RecordFault.TheVariants as of_records
use Rattle.store_run.specs.declared.session.ReopenFault.TheVariants as reopening
use Rattle.store_session.specs.Journals.{IsStateInStep}
use Rattle.store_session.specs.Stands.{Standing, stands}
use Rattle.store_session.specs.StoredStates.{StoredState, opened_as, stands_for}
use Rattle.store_session.proofs.StatesInStep.{stored_sound}
use Rattle.store_undo.proofs.Decided.{stands_known}

pub in_step : (held : List (List ℕ)) (state : StoredState) (version : Option (List ℕ)) → stands_for held ≡ Ok (state, version) → IsStateInStep state
in_step held state version h = (stored_sound held state version h).1

pub known : (held : List (List ℕ)) → stands_for held ≡ Err reopening.NoMemory → ⊥
known held = by_standing (stands held) refl where
  by_standing : (r : Result Standing RecordFault) → stands held ≡ r → opened_as r ≡ Err reopening.NoMemory → ⊥
  by_standing (Ok s) is h = cc
  by_standing (Err (of_records.BadRecord n)) is h = cc
  by_standing (Err (of_records.NotConsistent n)) is h = cc
  by_standing (Err of_records.NoMemory) is h = stands_known held is
