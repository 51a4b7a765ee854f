-- Counts of faults over parts of a call, one after another.
use Rattle.std.proofs.Common.{◌≡◌, ◌⊎◌, inl, inr, ◌≤◌, Option, Some, None, Result, Ok, Err, refl, sym, ap, subst, arith}
use Rattle.std.specs.Prelude.{IfErr, IsErrAnd, IsErrOf}
use Rattle.lens_io.specs.Calls.{SinkFailed}
use Rattle.lens_io.specs.Causes.{Increased}
use Rattle.lens_io.specs.declared.sink.Sink as OfSink
use Rattle.lens_io.specs.declared.disk.Disk as OfDisk
use Rattle.lens_io.specs.declared.failed.TakeFault.{TakeFault}
use Rattle.lens_io.specs.declared.failed.TakeFault.TheVariants as taking
use Rattle.gate_log.specs.declared.fault.LogFault.{LogFault}
use Rattle.gate_log.specs.declared.fault.LogFault.TheVariants as log
use Rattle.store_run.specs.ApplyCauses.{stop_in, IsCaused, Counted}
use Rattle.gate_log.specs.CallEnds.{IsAppendFault}
use Rattle.store_run.specs.Stopping.{stop_of_log, stop_of_input}
use Rattle.store_run.specs.declared.stop.Stop.{Stop}
use Rattle.store_run.specs.declared.stop.Stop.TheVariants.{LogFull, SourceFault, SinkFault, DiskFault, TooLong, NoMemory}
use Rattle.lens_io.proofs.Increases.{increased_since}

module _ {K D : Type 0} (sink : OfSink.Ghosts K) (disk : OfDisk.Ghosts D) where
  sink_since : (k k' k'' : K) → sink.faults k ≤ sink.faults k' → sink.empty_takes k ≤ sink.empty_takes k' → SinkFailed sink k' k'' → SinkFailed sink k k''
  sink_since k k' k'' f e (inl h) = inl (increased_since (sink.faults k) (sink.faults k') (sink.faults k'') f h)
  sink_since k k' k'' f e (inr h) = inr (increased_since (sink.empty_takes k) (sink.empty_takes k') (sink.empty_takes k'') e h.0, h.1)

  pub counted_none : (k : K) (d : D) → Counted sink disk (k, d) (k, d) None
  counted_none k d = record { sink_faults = omega arith; empty_takes = omega arith; disk_faults = omega arith; cause = tt }

  pub counted_memory : (k : K) (d : D) → Counted sink disk (k, d) (k, d) (Some NoMemory)
  counted_memory k d = record { sink_faults = omega arith; empty_takes = omega arith; disk_faults = omega arith; cause = tt }

  caused_then : (k k' k'' : K) (d d' d'' : D) (stop : Option Stop) → Counted sink disk (k, d) (k', d') None → IsCaused sink disk (k', d') (k'', d'') stop
      → IsCaused sink disk (k, d) (k'', d'') stop
  caused_then k k' k'' d d' d'' None a h = tt
  caused_then k k' k'' d d' d'' (Some SinkFault) a h = sink_since k k' k'' a.sink_faults a.empty_takes h
  caused_then k k' k'' d d' d'' (Some DiskFault) a h = increased_since (disk.faults d) (disk.faults d') (disk.faults d'') a.disk_faults h
  caused_then k k' k'' d d' d'' (Some LogFull) a h = tt
  caused_then k k' k'' d d' d'' (Some SourceFault) a h = tt
  caused_then k k' k'' d d' d'' (Some TooLong) a h = tt
  caused_then k k' k'' d d' d'' (Some NoMemory) a h = tt

  pub counted_then : (k k' k'' : K) (d d' d'' : D) (stop : Option Stop) → Counted sink disk (k, d) (k', d') None → Counted sink disk (k', d') (k'', d'') stop
      → Counted sink disk (k, d) (k'', d'') stop
  counted_then k k' k'' d d' d'' stop a b = record {
    sink_faults = omega (arith, a.sink_faults, b.sink_faults);
    empty_takes = omega (arith, a.empty_takes, b.empty_takes);
    disk_faults = omega (arith, a.disk_faults, b.disk_faults);
    cause = caused_then k k' k'' d d' d'' stop a b.cause;
  }

  -- a stop that is passed on
  pub counted_passed : {T : Type 0} (r : Result T Stop) (k k' : K) (d d' : D) (stop : Stop) → Counted sink disk (k, d) (k', d') (Some stop) → IsErrAnd r (λ f. f ≡ stop)
      → Counted sink disk (k, d) (k', d') (stop_in r)
  counted_passed (Ok value) k k' d d' stop h e = absurd e
  counted_passed (Err f) k k' d d' stop h e = subst (λ (s : Stop). Counted sink disk (k, d) (k', d') (Some s)) (sym e) h

  -- a line that was given behind calls of the disk
  pub counted_line : (r : Result (Unit {0}) Stop) (P : Type 0) (k k' : K) (d d' : D) → disk.faults d ≤ disk.faults d' → (sink.faults k ≤ sink.faults k') × (sink.empty_takes k ≤ sink.empty_takes k')
      → (IsErrOf r SinkFault → SinkFailed sink k k') → IfErr r (λ stop. (stop ≡ SinkFault) × P) → Counted sink disk (k, d) (k', d') (stop_in r)
  counted_line (Ok u) P k k' d d' later counts f front = record { sink_faults = counts.0; empty_takes = counts.1; disk_faults = later; cause = tt }
  counted_line (Err stop) P k k' d d' later counts f front =
      subst (λ (s : Stop). Counted sink disk (k, d) (k', d') (Some s)) (sym front.0) (record { sink_faults = counts.0; empty_takes = counts.1; disk_faults = later; cause = f (ap (λ (s : Stop). Err s) front.0) })

  -- an append that failed
  caused_append : (fault : LogFault) (k : K) (d d' : D) → IsAppendFault fault → (fault ≡ log.DiskFault → Increased (disk.faults d) (disk.faults d'))
      → IsCaused sink disk (k, d) (k, d') (Some (stop_of_log fault))
  caused_append log.LogFull k d d' is f = tt
  caused_append log.NoMemory k d d' is f = tt
  caused_append log.DiskFault k d d' is f = f refl
  caused_append log.NotALog k d d' (inl e) f = cc
  caused_append log.NotALog k d d' (inr (inl e)) f = cc
  caused_append log.NotALog k d d' (inr (inr e)) f = cc
  caused_append (log.BadRecord number) k d d' (inl e) f = cc
  caused_append (log.BadRecord number) k d d' (inr (inl e)) f = cc
  caused_append (log.BadRecord number) k d d' (inr (inr e)) f = cc
  caused_append log.LogExists k d d' (inl e) f = cc
  caused_append log.LogExists k d d' (inr (inl e)) f = cc
  caused_append log.LogExists k d d' (inr (inr e)) f = cc

  pub counted_append : (fault : LogFault) (stop : Stop) (k : K) (d d' : D) → IsAppendFault fault → stop ≡ stop_of_log fault → disk.faults d ≤ disk.faults d' → (fault ≡ log.DiskFault → Increased (disk.faults d) (disk.faults d'))
      → Counted sink disk (k, d) (k, d') (Some stop)
  counted_append fault stop k d d' is e later f =
      subst (λ (s : Stop). Counted sink disk (k, d) (k, d') (Some s)) (sym e) (record { sink_faults = omega arith; empty_takes = omega arith; disk_faults = later; cause = caused_append fault k d d' is f })

  caused_input : (fault : TakeFault) (k k' : K) (d d' : D) → IsCaused sink disk (k, d) (k', d') (Some (stop_of_input fault))
  caused_input taking.SourceFault k k' d d' = tt
  caused_input taking.TooLong k k' d d' = tt
  caused_input taking.NoMemory k k' d d' = tt

  pub counted_input : (fault : TakeFault) (stop : Stop) (k k' : K) (d d' : D) → stop ≡ stop_of_input fault → Counted sink disk (k, d) (k', d') None → Counted sink disk (k, d) (k', d') (Some stop)
  counted_input fault stop k k' d d' e h =
      subst (λ (s : Stop). Counted sink disk (k, d) (k', d') (Some s)) (sym e) (record { sink_faults = h.sink_faults; empty_takes = h.empty_takes; disk_faults = h.disk_faults; cause = caused_input fault k k' d d' })

  -- ---- the statuses

  pub caused_disk : (stop : Stop) (k k' : K) (d d' : D) → stop ≡ DiskFault → Counted sink disk (k, d) (k', d') (Some stop) → Increased (disk.faults d) (disk.faults d')
  caused_disk stop k k' d d' e h = (subst (λ (s : Stop). Counted sink disk (k, d) (k', d') (Some s)) e h).cause

  -- the sink failed before, or at what was given last
  pub caused_sink : (stop : Option Stop) (k k' k'' : K) (d d' : D) → Counted sink disk (k, d) (k', d') stop → (stop ≡ Some SinkFault) × (k'' ≡ k') ⊎ SinkFailed sink k' k''
      → SinkFailed sink k k''
  caused_sink stop k k' k'' d d' h (inl s) =
      subst (λ (x : K). SinkFailed sink k x) (sym s.1) (subst (λ (x : Option Stop). Counted sink disk (k, d) (k', d') x) s.0 h).cause
  caused_sink stop k k' k'' d d' h (inr f) = sink_since k k' k'' h.sink_faults h.empty_takes f
