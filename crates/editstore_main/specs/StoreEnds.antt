-- What the commands promise, over the store of a pair and over that of a hub; and how each may end.
-- Read it from the end: `StoreMayEnd`, `GivesStoreUsage`, `RemakesHub` and `RemakesPair`, then `RemakesBy`.
use Rattle.std.specs.Prelude.{◌≡◌, ◌⊎◌, ℕ, List, [], ◌∷◌, Option, Some, None, take}
use Rattle.command_ends.specs.Statuses.{IsStatusAmong, quiet_statuses}
use Rattle.command_ends.specs.declared.status.Status.{Status}
use Rattle.command_ends.specs.declared.status.Status.TheVariants.{Usage, SinkFault}
use Rattle.lens_io.specs.Calls.{Gave, GaveFront}
use Rattle.lens_io.specs.declared.disk.Disk as OfDisk
use Rattle.lens_io.specs.declared.sink.Sink as OfSink
use Rattle.hub_copy.specs.KeptRecords.{kept_records}
use Rattle.hub_session.specs.contracts.instance.HubSessionStoredSession.TheImpl.{ghosts as hubs}
use Rattle.store_copy.specs.NewPayloads.{IsCompacted, IsCopied, IsTakenBack}
use Rattle.store_copy.specs.PairBeginnings.{pair_beginning}
use Rattle.store_copy.specs.Remakes.{Remakes}
use Rattle.store_run.specs.declared.session.StoredSession as OfSession
use Rattle.store_session.specs.contracts.instance.StoreSessionStoredSession.TheImpl.{ghosts as pairs}
use Rattle.editstore_main.specs.StoreOrders.{store_usage_line}
use Rattle.editstore_main.specs.declared.words.StoreKind.{StoreKind}
use Rattle.editstore_main.specs.declared.words.StoreKind.TheVariants.{Pair, Hub}
use Rattle.editstore_main.specs.declared.words.StoreOrder.{StoreOrder}
use Rattle.editstore_main.specs.declared.words.Upkeep.{Upkeep}
use Rattle.editstore_main.specs.declared.words.Upkeep.TheVariants.{Compact, Copy, Back}

-- A sink, the disk of the store and the one of the new store, before a call and after it.
module _ {K D E : Type 0} (sink : OfSink.Ghosts K) (from : OfDisk.Ghosts D) (to : OfDisk.Ghosts E)
    (old new : K × D × E) (status : Status) where
  -- `beginning` says what the new store begins with that has the state alone, and `earlier` which payloads represent
  -- the state to which a store goes back.
  module _ {A : Type 0} (session : OfSession.Ghosts A) (beginning : List (List ℕ) → List (List ℕ))
      (earlier : ℕ → List (List ℕ) → List (List ℕ)) where
    abbrev pub RemakesBy : Upkeep → Type 0
    RemakesBy Compact = Remakes sink from to old new status session (IsCompacted session beginning)
    RemakesBy Copy = Remakes sink from to old new status session (IsCopied session)
    RemakesBy (Back number) = Remakes sink from to old new status session (IsTakenBack session earlier number)

  -- The store of a pair. One of the state alone begins with the first payload, and with the version record if that
  -- payload says version 1. A store goes back to what its first payloads represent.
  abbrev pub RemakesPair : Upkeep → Type 0
  RemakesPair upkeep = RemakesBy pairs pair_beginning take upkeep

  -- The store of a hub. One of the state alone begins with the first payload and those that add a view. A store goes
  -- back to what its first payloads represent, with the views that were added later.
  abbrev pub RemakesHub : Upkeep → Type 0
  RemakesHub upkeep = RemakesBy hubs (kept_records 1) kept_records upkeep

  abbrev pub RemakesKind : StoreKind → Upkeep → Type 0
  RemakesKind Pair upkeep = RemakesPair upkeep
  RemakesKind Hub upkeep = RemakesHub upkeep

  abbrev pub EndsStoreOrder : StoreOrder → Type 0
  EndsStoreOrder order = RemakesKind order.kind order.upkeep

-- the usage line was written, or a prefix of it and the sink failed
abbrev pub GivesStoreUsage : {K : Type 0} → OfSink.Ghosts K → K → K → Status → Type 0
GivesStoreUsage sink old new status =
    (status ≡ Usage) × Gave sink old new store_usage_line
    ⊎ (status ≡ SinkFault) × GaveFront sink old new store_usage_line

-- how a command may end; and words that name none
abbrev pub StoreMayEnd : Option StoreOrder → Status → Type 0
StoreMayEnd None status = IsStatusAmong (Usage ∷ SinkFault ∷ []) status
StoreMayEnd (Some order) status = IsStatusAmong quiet_statuses status
