-- What a rename of the new file leaves at the name of the store: `RenamesToEarlier` and `RenamesTo`, then `MayBeNamed`.
--
-- A caller keeps other programs from the store from before `editstore` begins. If the program ends with `Done`, it
-- renames the new file to the name of the store. A rename is done completely or not at all, also if the system
-- crashes. So at each moment the name leads to the old file or to the complete new one.
use Rattle.std.specs.Prelude.{◌≡◌, ◌⊎◌, ℕ, List, IfSome, Ok}
use Rattle.std.specs.declared.option.Option.{Option}
use Rattle.lens_io.specs.declared.disk.Disk as OfDisk
use Rattle.store_run.specs.StoreBytes.{HoldsState}
use Rattle.store_run.specs.declared.session.StoredSession as OfSession

-- the bytes are a log, and its payloads represent this state
abbrev pub HoldsThis : {A : Type 0} → (session : OfSession.Ghosts A) → session.State → List ℕ → Type 0
HoldsThis session state = HoldsState session (λ found. found ≡ state)

-- The disk of the store and the one of the new store, before a call and after it.
module _ {D E : Type 0} (from : OfDisk.Ghosts D) (to : OfDisk.Ghosts E) (old new : D × E) where
  -- what a crash after the call may leave at the name of the store: an image of the old file, or one of the new file
  -- that was renamed
  abbrev pub MayBeNamed : List ℕ → Type 0
  MayBeNamed bytes = from.images new.0 bytes ⊎ to.images new.1 bytes

  module _ {A : Type 0} (session : OfSession.Ghosts A) where
    pub record RenamesTo (state : session.State) : Type 0 where
      -- what a crash leaves at the name was possible there before the call, or is a store of this state
      pub crash : (bytes : List ℕ) → MayBeNamed bytes → from.images old.0 bytes ⊎ HoldsThis session state bytes
      -- a read of the new file finds a store of this state
      pub read : IfSome (to.content new.1) (HoldsThis session state)

    -- the same for the state that these payloads represent
    abbrev pub RenamesToEarlier : List (List ℕ) → Type 0
    RenamesToEarlier payloads =
        (state : session.State) × (version : Option (List ℕ)) × (session.stands_for payloads ≡ Ok (state, version))
        × RenamesTo state
