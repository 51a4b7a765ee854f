-- A call that stores records behind those of a store, from how it ends over a log that stands.
use Rattle.std.proofs.Common.{◌≡◌, ◌⊎◌, inl, inr, ℕ, List, [], ◌∷◌, ◌++◌, refl, append-nil}
use Rattle.std.specs.Prelude.{IfSome}
use Rattle.lens_io.specs.DiskRuns.{LeavesOnly}
use Rattle.lens_io.specs.declared.disk.Disk as OfDisk
use Rattle.lens_io.specs.declared.sink.Sink as OfSink
use Rattle.gate_log.specs.LogOnDisk.{LogState, HoldsPayloads}
use Rattle.store_run.specs.Effects.{HoldsFirst, StandsOn, StopsStoring}
use Rattle.store_run.specs.StoreEnds.{StoreEnds}
use Rattle.command_ends.specs.declared.status.Status.{Status}
use Rattle.command_ends.specs.declared.status.Status.TheVariants as ending
use Rattle.store_run.specs.declared.stop.Stop.{Stop}
use Rattle.store_run.proofs.Effects.{first_all, first_none}
use Rattle.store_run.proofs.Moments.{leaves_more, leaves_then}
use Rattle.store_run.proofs.PackCalls.{never_finished, now_at, moments_at}
use Rattle.store_run.specs.MoreCall.{EndsBehind, ExitsBehind, StoresAll}

-- An image that a crash now may leave holds the payloads from before and the first of the records. An image of a moment
-- since the start of the call does so too, or was possible then.
pub record LeavesFirst {D : Type 0} (disk : OfDisk.Ghosts D) (d d' : D) (before records : List (List ℕ)) : Type 0 where
  pub now : (c : List ℕ) → disk.images d' c → HoldsFirst before records c
  pub moments : LeavesOnly disk d d' (λ c. disk.images d c ⊎ HoldsFirst before records c)

module _ {K D : Type 0} (sink : OfSink.Ghosts K) (disk : OfDisk.Ghosts D)
    (images_hold : (l : LogState) (d : D) (base : List (List ℕ)) (c : List ℕ) → StandsOn disk d l base → disk.images d c → HoldsPayloads base c)
    (read_holds : (l : LogState) (d : D) (base : List (List ℕ)) → StandsOn disk d l base → IfSome (disk.content d) (HoldsPayloads base))
    (k k' : K) (d d' : D) (before front : List (List ℕ)) (payload lines : List ℕ) where
  abbrev records : List (List ℕ)
  records = front ++ payload ∷ []

  stored_done : (d1 : D) (l l' : LogState) (status : Status) → status ≡ ending.Done → StandsOn disk d1 l before
      → StoreEnds sink disk (k, d1, l) (k', d', l') lines front payload status → StoresAll sink disk (k, d) (k', d') before records lines
  stored_done d1 l l' status is st (inl e) = record { given = e.1.given; kept = read_holds l' d' (before ++ records) (e.1.stored before st) }
  stored_done d1 l l' status is st (inr s) = elim s.status_is [ inl e ↦ absurd (never_finished s.stop status e.0 (inl is)) | inr e ↦ cc ]

  -- after Done the records are stored and the lines were written
  pub stores_all : (status : Status) → status ≡ ending.Done → EndsBehind sink disk (k, d) (k', d') before lines front payload status
      → StoresAll sink disk (k, d) (k', d') before records lines
  stores_all status is (inl e) = stored_done e.d1 e.log e.log' status is e.stands e.ends
  stores_all status is (inr e) = elim e.fails.0.0 [ inl f ↦ cc | inr f ↦ cc ]

  pub exits_of : (status : Status) → EndsBehind sink disk (k, d) (k', d') before lines front payload status → ExitsBehind sink disk (k, d) (k', d') before lines front payload status
  exits_of status (inl e) = inl e
  exits_of status (inr e) = inr (e.opens.unwritten, e.fails)

  -- ---- images

  safe_of : (d1 : D) → LeavesOnly disk d d1 (disk.images d) → ((c : List ℕ) → disk.images d' c → HoldsFirst before records c)
      → LeavesOnly disk d1 d' (HoldsFirst before records) → LeavesFirst disk d d' before records
  safe_of d1 reached now moments = record {
    now = now;
    moments = leaves_then disk d d1 d' (disk.images d) (HoldsFirst before records) (λ c. disk.images d c ⊎ HoldsFirst before records c)
        (λ c p. inl p) (λ c f. inr f) reached moments;
  }

  stopped_safe : (d1 : D) (l l' : LogState) (k1 : K) (stop : Stop) → LeavesOnly disk d d1 (disk.images d) → StandsOn disk d1 l before
      → StopsStoring sink disk (k, d1, l) (k1, d', l') stop [] [] [] front
      ⊎ StopsStoring sink disk (k, d1, l) (k1, d', l') stop [] lines front (payload ∷ [])
      → LeavesFirst disk d d' before records
  stopped_safe d1 l l' k1 stop reached st (inl s) =
      safe_of d1 reached
      (now_at sink disk images_hold stop k k1 d1 d' l l' before records [] [] [] front (payload ∷ []) refl s st)
      (moments_at sink disk images_hold stop k k1 d1 d' l l' before records [] [] [] front (payload ∷ []) refl s st)
  stopped_safe d1 l l' k1 stop reached st (inr s) =
      safe_of d1 reached
      (now_at sink disk images_hold stop k k1 d1 d' l l' before records [] lines front (payload ∷ []) [] (append-nil records) s st)
      (moments_at sink disk images_hold stop k k1 d1 d' l l' before records [] lines front (payload ∷ []) [] (append-nil records) s st)

  stored_safe : (d1 : D) (l l' : LogState) (status : Status) → LeavesOnly disk d d1 (disk.images d) → StandsOn disk d1 l before
      → StoreEnds sink disk (k, d1, l) (k', d', l') lines front payload status
      → LeavesFirst disk d d' before records
  stored_safe d1 l l' status reached st (inl e) =
      safe_of d1 reached (λ c is. first_all before records c (images_hold l' d' (before ++ records) c (e.1.stored before st) is)) (e.1.moments before st)
  stored_safe d1 l l' status reached st (inr s) = stopped_safe d1 l l' s.k1 s.stop reached st s.stops

  -- the store is as it was
  pub safe_kept : ((c : List ℕ) → disk.images d' c → HoldsPayloads before c) → LeavesOnly disk d d' (disk.images d) → LeavesFirst disk d d' before records
  safe_kept holds moments = record {
    now = λ c is. first_none before records c (holds c is);
    moments = leaves_more disk d d' (disk.images d) (λ c. disk.images d c ⊎ HoldsFirst before records c) (λ c p. inl p) moments;
  }

  pub leaves_first : (status : Status) → EndsBehind sink disk (k, d) (k', d') before lines front payload status → LeavesFirst disk d d' before records
  leaves_first status (inl e) = stored_safe e.d1 e.log e.log' status e.opens.moments e.stands e.ends
  leaves_first status (inr e) = safe_kept e.holds e.opens.moments
