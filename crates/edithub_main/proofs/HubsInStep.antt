-- The state of a store is in step, and so is every state of a run from it on.
use Rattle.std.proofs.Common.{◌≡◌, ℕ, List, Option, Ok}
use Rattle.hub_run.specs.RunStates.{hub_state_of}
use Rattle.hub_run.specs.Runs.{HubState}
use Rattle.hub_session.specs.HubStates.{hub_stands_for}
use Rattle.hub_session.specs.declared.session.HubSession.{HubSession}
use Rattle.hub_session.proofs.RunsStay.{stored_sound, run_stays}
use Rattle.edithub_main.specs.HubStores.{IsHubStateInStep, HubStaysInStep}

pub hub_in_step : (payloads : List (List ℕ)) (state : HubState) (version : Option (List ℕ)) → hub_stands_for payloads ≡ Ok (state, version) → IsHubStateInStep state
hub_in_step payloads state version stands = (stored_sound payloads state version stands).1

pub stays_in_step : (payloads : List (List ℕ)) (state : HubState) (version : Option (List ℕ)) → hub_stands_for payloads ≡ Ok (state, version) → HubStaysInStep state
stays_in_step payloads state version stands =
    let sound = stored_sound payloads state version stands in
    record { first = sound.1; runs = λ lines steps is. run_stays (λ (s : HubSession). hub_state_of s.hub) state 0 lines steps sound is }
