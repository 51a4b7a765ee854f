-- Why a call that stores records behind those of a store ended so.
use Rattle.std.proofs.Common.{◌≡◌, ◌⊎◌, inl, inr, ℕ, List, [], ◌∷◌, ◌++◌, Option, Some, refl, subst, ◌∙◌}
use Rattle.std.specs.Prelude.{IfSome}
use Rattle.lens_io.specs.declared.disk.Disk as OfDisk
use Rattle.lens_io.specs.declared.sink.Sink as OfSink
use Rattle.store_run.specs.Rooms.{most_bytes, HasNoRoom}
use Rattle.command_ends.specs.declared.status.Status.{Status}
use Rattle.command_ends.specs.declared.status.Status.TheVariants as ending
use Rattle.store_run.proofs.Rooms.{at_other, gate_of, none_some, store_cause}
use Rattle.store_run.specs.MoreCall.{ExitsBehind, ExitsMore}
use Rattle.store_run.specs.MoreCauses.{IsStoreCause, IsBehindCauseInRoom, IsMoreCauseInRoom}

-- a status that has no cause does not come
pub behind_complete : (status : Status) (P Q : Type 0) → IsStoreCause status P Q
    → (status ≡ ending.SinkFault → ⊥) → (status ≡ ending.DiskFault → ⊥) → (P → ⊥) → (status ≡ ending.Done) ⊎ (status ≡ ending.NoMemory)
behind_complete ending.Done P Q h sink disk none = inl refl
behind_complete ending.NoMemory P Q h sink disk none = inr refl
behind_complete ending.StoreRefused P Q h sink disk none = absurd (none h)
behind_complete ending.SinkFault P Q h sink disk none = absurd (sink refl)
behind_complete ending.DiskFault P Q h sink disk none = absurd (disk refl)
behind_complete ending.SomeRefused P Q h sink disk none = absurd h
behind_complete ending.SourceFault P Q h sink disk none = absurd h
behind_complete ending.InputTooLong P Q h sink disk none = absurd h
behind_complete ending.Usage P Q h sink disk none = absurd h
behind_complete ending.ProgramRefused P Q h sink disk none = absurd h

module _ {K D : Type 0} (sink : OfSink.Ghosts K) (disk : OfDisk.Ghosts D) (before : List (List ℕ)) where
  pub behind_cause : (front : List (List ℕ)) (payload lines : List ℕ) (k k' : K) (d d' : D) (bytes : List ℕ) (status : Status) → disk.content d ≡ Some bytes
      → ExitsBehind sink disk (k, d) (k', d') before lines front payload status → IsBehindCauseInRoom (disk.room d) before (front ++ payload ∷ []) status
  behind_cause front payload lines k k' d d' bytes status told (inl e) =
      let g = gate_of (disk.content e.d1) (disk.images e.d1) e.log before bytes (e.opens.unwritten.same ∙ told) e.stands in
      subst (λ (o : Option ℕ). IsBehindCauseInRoom o before (front ++ payload ∷ []) status) e.opens.same_room (store_cause sink disk k k' e.d1 d' e.log e.log' before front payload lines status g e.ends)
  behind_cause front payload lines k k' d d' bytes status told (inr e) =
      let P = HasNoRoom most_bytes before (front ++ payload ∷ []) in
      let Q = IfSome (disk.room d) (λ most. HasNoRoom most before (front ++ payload ∷ [])) in
      elim e.1.0.0 [
        | inl f ↦ at_other sink disk status ending.DiskFault P Q f (none_some (disk.room d) (λ most. HasNoRoom most before (front ++ payload ∷ [])) (e.1.1 f))
        | inr f ↦ at_other sink disk status ending.NoMemory P Q f tt
      ]

  -- the same of one record
  pub more_cause : (payload lines : List ℕ) (k k' : K) (d d' : D) (bytes : List ℕ) (status : Status) → disk.content d ≡ Some bytes
      → ExitsMore sink disk (k, d) (k', d') before payload lines status → IsMoreCauseInRoom (disk.room d) before payload status
  more_cause payload lines k k' d d' bytes status told exits = behind_cause [] payload lines k k' d d' bytes status told exits
