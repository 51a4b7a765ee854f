-- A call over a script that met no fault is complete.
use Rattle.std.proofs.Common.{◌≡◌, inl, inr, ℕ, ◌≤◌, List, length, Option, Some, None, Result, Ok, Err, IfSome, refl, sym, ap, subst, arith}
use Rattle.std.specs.Io.KnownBytes.{Consumes}
use Rattle.lens_io.specs.declared.sink.Sink as OfSink
use Rattle.lens_io.specs.declared.source.Source as OfSource
use Rattle.script_input.specs.declared.limits.TheConstants.{MOST_BYTES}
use Rattle.script_input.specs.Lines.{program_part}
use Rattle.run_scripts.specs.ScriptEnds.{Ended, IsCleanStop, IsComplete}
use Rattle.run_scripts.specs.declared.script_state.ScriptState as OfScript
use Rattle.command_ends.specs.Statuses.{IsStatusAmong, script_statuses}
use Rattle.command_ends.specs.declared.status.Status.{Status}
use Rattle.command_ends.specs.declared.status.Status.TheVariants.{Done, SomeRefused, Usage, ProgramRefused, StoreRefused, SourceFault, SinkFault, DiskFault, InputTooLong, NoMemory}
use Rattle.script_input.proofs.TakenParts.{few_taken, fixed_or_read, part_of_all, all_taken}

-- an outcome is not both
one_outcome : {Accepted Refusal : Type 0} {X : Type 0} (r s : Result Accepted Refusal) (program : Accepted) (refusal : Refusal) → r ≡ s → r ≡ Ok program → s ≡ Err refusal → X
one_outcome r s program refusal same some none = cc

-- the statuses by which a call ends
module _ {H S K : Type 0} (script : OfScript.Ghosts H) (source : OfSource.Ghosts S) (sink : OfSink.Ghosts K) (old new : S × K) where
  pub ends_among : (status : Status) → Ended script source sink old new status → IsStatusAmong script_statuses status
  ends_among status e = by_clean status e.stops.clean where
    by_clean : (status : Status) → IsCleanStop script source sink old new e.stops.bytes status → IsStatusAmong script_statuses status
    by_clean Done clean = inl refl
    by_clean SomeRefused clean = inr (inl refl)
    by_clean Usage clean = absurd clean
    by_clean ProgramRefused clean = inr (inr (inl refl))
    by_clean StoreRefused clean = absurd clean
    by_clean SourceFault clean = inr (inr (inr (inl refl)))
    by_clean SinkFault clean = inr (inr (inr (inr (inl refl))))
    by_clean DiskFault clean = absurd clean
    by_clean InputTooLong clean = inr (inr (inr (inr (inr (inl refl)))))
    by_clean NoMemory clean = inr (inr (inr (inr (inr (inr (inl refl))))))

-- R says that the source failed, F that the sink did.
module _ {H S K : Type 0} (script : OfScript.Ghosts H) (source : OfSource.Ghosts S) (sink : OfSink.Ghosts K) (old new : S × K) (R F : Type 0) where
  -- the source had these bytes
  module _ (bytes : List ℕ) (known : source.left old.0 ≡ Some bytes) where
    abbrev CompletesUnless : Status → Type 0
    CompletesUnless status = length bytes ≤ MOST_BYTES → (R → ⊥) → (F → ⊥) → IsComplete script bytes status

    took_known : (taken : List ℕ) → Consumes (source.left old.0) (source.left new.0) taken → Consumes (Some bytes) (source.left new.0) taken
    took_known taken h = subst (λ o. Consumes o (source.left new.0) taken) known h

    completes : (status : Status) → Ended script source sink old new status → (status ≡ SourceFault → R) → (status ≡ SinkFault → F) → CompletesUnless status
    completes Done e failed_source failed_sink =
        λ few no_source no_sink. (
          (λ program is. inl (inl refl)),
          λ refusal none. let r = e.reports (inl refl) in one_outcome (script.accepted (program_part r.bytes)) (script.accepted (program_part bytes)) r.program refusal
              (ap (λ b. script.accepted (program_part b)) (sym (all_taken bytes (source.left new.0) r.bytes (took_known r.bytes r.took) r.read))) r.is_accepted none,
        )
    completes SomeRefused e failed_source failed_sink =
        λ few no_source no_sink. (
          (λ program is. inl (inr refl)),
          λ refusal none. let r = e.reports (inr refl) in one_outcome (script.accepted (program_part r.bytes)) (script.accepted (program_part bytes)) r.program refusal
              (ap (λ b. script.accepted (program_part b)) (sym (all_taken bytes (source.left new.0) r.bytes (took_known r.bytes r.took) r.read))) r.is_accepted none,
        )
    completes ProgramRefused e failed_source failed_sink =
        let s = e.stops in
        λ few no_source no_sink. (
          (λ program is. one_outcome (script.accepted (program_part bytes)) (script.accepted (program_part s.bytes)) program s.clean.0
              (ap script.accepted (part_of_all bytes (source.left new.0) s.bytes (took_known s.bytes s.took) (fixed_or_read source old.0 new.0 s.bytes s.clean.1.whole))) is s.clean.1.refused),
          λ refusal none. inl refl,
        )
    completes SourceFault e failed_source failed_sink = λ few no_source no_sink. absurd (no_source (failed_source refl))
    completes SinkFault e failed_source failed_sink = λ few no_source no_sink. absurd (no_sink (failed_sink refl))
    completes InputTooLong e failed_source failed_sink =
        λ few no_source no_sink. absurd (omega (arith, e.stops.only_too_long refl, few_taken bytes (source.left new.0) e.stops.bytes (took_known e.stops.bytes e.stops.took)))
    completes NoMemory e failed_source failed_sink = λ few no_source no_sink. ((λ program is. inr refl), λ refusal none. inr refl)
    completes Usage e failed_source failed_sink = absurd e.stops.clean
    completes StoreRefused e failed_source failed_sink = absurd e.stops.clean
    completes DiskFault e failed_source failed_sink = absurd e.stops.clean

  pub complete : (status : Status) → Ended script source sink old new status → (status ≡ SourceFault → R) → (status ≡ SinkFault → F)
      → IfSome (source.left old.0) (λ bytes. length bytes ≤ MOST_BYTES → (R → ⊥) → (F → ⊥) → IsComplete script bytes status)
  complete status e failed_source failed_sink = by_left (source.left old.0) refl where
    by_left : (left : Option (List ℕ)) → source.left old.0 ≡ left → IfSome left (λ bytes. length bytes ≤ MOST_BYTES → (R → ⊥) → (F → ⊥) → IsComplete script bytes status)
    by_left None known = tt
    by_left (Some bytes) known = completes bytes known status e failed_source failed_sink
