-- How the making of a store ends, from how the storing of its payloads has ended.
use Rattle.std.proofs.Common.{◌≡◌, inl, inr, ℕ, ◌<◌, List, length, IfSome, refl, sym, subst}
use Rattle.gate_log.specs.declared.fault.LogFault.{LogFault}
use Rattle.gate_log.specs.declared.fault.LogFault.TheVariants as log
use Rattle.lens_io.specs.DiskRuns.{OnlyReads}
use Rattle.lens_io.specs.declared.disk.Disk as OfDisk
use Rattle.lens_io.specs.declared.sink.Sink as OfSink
use Rattle.store_run.proofs.Openings.{reads_unwritten}
use Rattle.store_run.specs.Refusals.{refusal_line}
use Rattle.store_run.specs.declared.refusals.StoreRefusal.TheVariants.{LogExists}
use Rattle.store_new.specs.NewEnds.{GivesLine}
use Rattle.store_new.specs.Making.{EndsStopped, StopsAppending, IsTaken}
use Rattle.store_new.specs.NewStores.{HoldsStore, EndsMaking}
use Rattle.command_ends.specs.declared.status.Status.{Status}
use Rattle.command_ends.specs.declared.status.Status.TheVariants.{Done, StoreRefused, DiskFault}

pub never_disk : {K : Type 0} (sink : OfSink.Ghosts K) (k k' : K) (line : List ℕ) (status : Status) → GivesLine sink k k' line Done status → status ≡ DiskFault → ⊥
never_disk sink k k' line status (inl (is, given)) e = cc
never_disk sink k k' line status (inr (is, given)) e = cc

module _ {K D : Type 0} (sink : OfSink.Ghosts K) (disk : OfDisk.Ghosts D) (k k' : K) (d d' : D) (status : Status) where
  -- a disk that was found not empty
  pub taken : IfSome (disk.content d) (λ bytes. 0 < length bytes) → OnlyReads disk d d' → GivesLine sink k k' (refusal_line LogExists) StoreRefused status → IsTaken sink disk (k, d) (k', d') status
  taken some reads given = record { some = some; unwritten = reads_unwritten disk d d' reads; given = given }

  module _ (payloads : List (List ℕ)) (lines : List ℕ) where
    -- all is stored, and the lines were written, or a prefix of them
    pub ends_stored : HoldsStore disk d' payloads → GivesLine sink k k' lines Done status → EndsMaking sink disk (k, d) (k', d') payloads lines status
    ends_stored stored (inl (is, given)) = subst (EndsMaking sink disk (k, d) (k', d') payloads lines) (sym is) (stored, given)
    ends_stored stored (inr (is, given)) = subst (EndsMaking sink disk (k, d) (k', d') payloads lines) (sym is) (inl (stored, given))

    -- not all is stored
    pub ends_stopped : (fault : LogFault) → StopsAppending disk d' payloads fault → EndsStopped sink k k' fault status → EndsMaking sink disk (k, d) (k', d') payloads lines status
    ends_stopped log.LogFull s (inl (is, given)) = subst (EndsMaking sink disk (k, d) (k', d') payloads lines) (sym is) (s.0, s.1, given)
    ends_stopped log.LogFull s (inr (is, given)) = subst (EndsMaking sink disk (k, d) (k', d') payloads lines) (sym is) (inr (s.0, s.1, given))
    ends_stopped log.NoMemory s (is, given) = subst (EndsMaking sink disk (k, d) (k', d') payloads lines) (sym is) (s, given)
    ends_stopped log.DiskFault s (is, given) = subst (EndsMaking sink disk (k, d) (k', d') payloads lines) (sym is) given
    ends_stopped log.NotALog s e = absurd s
    ends_stopped (log.BadRecord number) s e = absurd s
    ends_stopped log.LogExists s e = absurd s

  -- only a fault of the disk ends so
  pub fault_of : (payloads : List (List ℕ)) (fault : LogFault) → StopsAppending disk d' payloads fault → EndsStopped sink k k' fault status → status ≡ DiskFault → fault ≡ log.DiskFault
  fault_of payloads log.LogFull s (inl (is, given)) e = cc
  fault_of payloads log.LogFull s (inr (is, given)) e = cc
  fault_of payloads log.NoMemory s (is, given) e = cc
  fault_of payloads log.DiskFault s x e = refl
  fault_of payloads log.NotALog s x e = absurd s
  fault_of payloads (log.BadRecord number) s x e = absurd s
  fault_of payloads log.LogExists s x e = absurd s
