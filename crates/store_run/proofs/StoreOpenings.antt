-- The opening of a store: from its log and its payloads to its session, or to why it is refused.
use Rattle.std.proofs.Common.{◌≡◌, ◌⊎◌, inl, inr, ℕ, List, Option, Some, None, Result, Ok, Err, IfSome, [], refl, sym, ap, ap₂, subst, ◌∙◌}
use Rattle.std.specs.Prelude.{IsErrOf, IsNone}
use Rattle.std.proofs.lemmas.Option.{same_Some}
use Rattle.command_ends.specs.Statuses.{IsFinished}
use Rattle.command_ends.specs.declared.status.Status.{Status}
use Rattle.command_ends.specs.declared.status.Status.TheVariants as ending
use Rattle.lens_io.specs.Calls.{Gave}
use Rattle.lens_io.specs.declared.disk.Disk as OfDisk
use Rattle.lens_io.specs.declared.sink.Sink as OfSink
use Rattle.gate_log.specs.CallEnds.{IsLogRefusal, IsPayloadsFault, NoBadRecord}
use Rattle.gate_log.specs.LogBytes.{LogContent, payloads, not_a_log, bad_record, log_of}
use Rattle.gate_log.specs.LogOnDisk.{LogState, HoldsPayloads}
use Rattle.gate_log.specs.declared.fault.LogFault.{LogFault}
use Rattle.gate_log.specs.declared.fault.LogFault.TheVariants as log
use Rattle.store_run.specs.Effects.{StandsOn}
use Rattle.store_run.specs.Opening.{EndsUnopened, FailsToOpen, IsOpened, IsReadLog, IsRefusedFor, IsUnreadFor, fault_of_log, fault_of_payloads}
use Rattle.store_run.specs.Refusals.{EndsRefused, FailsUnopened, WritesRefusal, refusal_in, refusal_of_log, refusal_of_payloads}
use Rattle.store_run.specs.Reopening.{IsReopenFault}
use Rattle.store_run.specs.Stores.{Store, RefusedStore}
use Rattle.store_run.specs.declared.opening.OpenFault.{OpenFault}
use Rattle.store_run.specs.declared.opening.OpenFault.TheVariants.{Refused, DiskFault, NoMemory}
use Rattle.store_run.specs.declared.opening.OpenedStore.{OpenedStore}
use Rattle.store_run.specs.declared.refusals.StoreRefusal.{StoreRefusal}
use Rattle.store_run.specs.declared.refusals.StoreRefusal.TheVariants.{NotALog, LogExists, LogFull, BadRecord, NotConsistent, NothingToUndo}
use Rattle.store_run.specs.declared.session.ReopenFault.{ReopenFault}
use Rattle.store_run.specs.declared.session.ReopenFault.TheVariants as reopening
use Rattle.store_run.specs.declared.session.StoredSession as OfSession
use Rattle.store_run.proofs.Openings.{at_content, never_refused}
use Rattle.store_run.proofs.Outcomes.{same_ok}
use Rattle.store_run.proofs.RefusalEnds.{GivesOther}

abbrev Payloads : Type 0
Payloads = List (List ℕ)

-- ---- the log

-- a log is read, unless the disk fails or memory runs out
pub unread_log : (bytes : List ℕ) (held : Payloads) → HoldsPayloads held bytes → (fault : OpenFault) → IsUnreadFor bytes fault → FailsToOpen fault
unread_log bytes held holds (Refused NotALog) h = let never = sym holds ∙ h in cc
unread_log bytes held holds (Refused (BadRecord n)) h = let never = sym holds ∙ h in cc
unread_log bytes held holds (Refused LogExists) h = h
unread_log bytes held holds (Refused LogFull) h = h
unread_log bytes held holds (Refused (NotConsistent n)) h = h
unread_log bytes held holds (Refused NothingToUndo) h = h
unread_log bytes held holds DiskFault h = tt
unread_log bytes held holds NoMemory h = tt

-- bytes that are no log are refused for that; `refuse` says why the content of a log is refused
pub refused_by_log : (refuse : LogContent → Option StoreRefusal) (bytes : List ℕ) (reason : StoreRefusal) → refuse (log_of bytes) ≡ Some reason → refuse not_a_log ≡ Some NotALog
    → ((n : ℕ) → refuse (bad_record n) ≡ Some (BadRecord n)) → (fault : OpenFault) → IsUnreadFor bytes fault → IsRefusedFor reason fault
refused_by_log refuse bytes reason q none bad (Refused NotALog) h = same_Some NotALog reason (sym none ∙ ap refuse (sym h) ∙ q)
refused_by_log refuse bytes reason q none bad (Refused (BadRecord n)) h = same_Some (BadRecord n) reason (sym (bad n) ∙ ap refuse (sym h) ∙ q)
refused_by_log refuse bytes reason q none bad (Refused LogExists) h = absurd h
refused_by_log refuse bytes reason q none bad (Refused LogFull) h = absurd h
refused_by_log refuse bytes reason q none bad (Refused (NotConsistent n)) h = absurd h
refused_by_log refuse bytes reason q none bad (Refused NothingToUndo) h = absurd h
refused_by_log refuse bytes reason q none bad DiskFault h = tt
refused_by_log refuse bytes reason q none bad NoMemory h = tt

-- ---- the session

-- a log holds the same payloads, however they are found
pub same_payloads : (bytes : List ℕ) (held before : Payloads) → HoldsPayloads held bytes → HoldsPayloads before bytes → held ≡ before
same_payloads bytes held before h k = let two = sym h ∙ k in cc

-- ---- the end of a command whose store was not opened

module _ {K D : Type 0} (sink : OfSink.Ghosts K) (disk : OfDisk.Ghosts D) (k k' : K) (d d' : D) (status : Status) where
  -- over a store
  pub fails_to_open : (fault : OpenFault) → FailsToOpen fault → (fault ≡ DiskFault → IsNone (disk.room d)) → EndsUnopened sink k k' fault status → FailsUnopened sink disk (k, d) (k', d') status
  fails_to_open (Refused refusal) fails sure ends = absurd fails
  fails_to_open DiskFault fails sure ends = ((inl ends.0, ends.1), λ e. sure refl)
  fails_to_open NoMemory fails sure ends = ((inr ends.0, ends.1), λ e. let never = sym ends.0 ∙ e in cc)

  -- over bytes that are refused
  pub ends_refused : (fault : OpenFault) (reason : StoreRefusal) → IsRefusedFor reason fault → (fault ≡ DiskFault → IsNone (disk.room d)) → EndsUnopened sink k k' fault status → EndsRefused sink disk (k, d) (k', d') reason status
  ends_refused (Refused refusal) reason same sure ends = inl (subst (λ (x : StoreRefusal). WritesRefusal sink k k' x status) same ends)
  ends_refused DiskFault reason same sure ends = inr (fails_to_open DiskFault tt sure ends)
  ends_refused NoMemory reason same sure ends = inr (fails_to_open NoMemory tt sure ends)

module _ {K : Type 0} (sink : OfSink.Ghosts K) (k k' : K) (status : Status) where
  pub unopened_at_disk : (fault : OpenFault) → fault ≡ DiskFault → EndsUnopened sink k k' fault status → (status ≡ ending.DiskFault) × Gave sink k k' []
  unopened_at_disk DiskFault e ends = ends
  unopened_at_disk NoMemory e ends = cc
  unopened_at_disk (Refused refusal) e ends = cc

  -- no `ok` line was written
  pub unopened_other : (fault : OpenFault) → FailsToOpen fault → EndsUnopened sink k k' fault status → GivesOther sink k k'
  unopened_other (Refused refusal) fails ends = absurd fails
  unopened_other DiskFault fails ends = ([], refl, ends.1)
  unopened_other NoMemory fails ends = ([], refl, ends.1)

-- the state and the version of a session that was opened are those of its store
pub as_opened : {D A : Type 0} (disk : OfDisk.Ghosts D) (session : OfSession.Ghosts A) (d d' : D) (store : Store disk session d) (made : OpenedStore A) → IsOpened disk session d d' store made
    → ◌≡◌ {A = session.State × Option (List ℕ)} (session.state made.session, made.version) (store.state, store.version)
as_opened disk session d d' store made o = ap₂ (λ (x : session.State) (y : Option (List ℕ)). (x, y)) o.state_is o.version_is

-- an error is one fault
pub same_fault : {T : Type 0} (fault other : OpenFault) → IsErrOf {T = T} (Err fault) other → fault ≡ other
same_fault fault other e = cc
