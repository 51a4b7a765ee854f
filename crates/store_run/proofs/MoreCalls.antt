-- A call that stores one record, from how it ends over a log that stands.
use Rattle.std.proofs.Common.{◌≡◌, ◌⊎◌, inl, inr, ℕ, List, [], ◌∷◌, ◌++◌, sym, subst, append-nil}
use Rattle.std.specs.Prelude.{IfSome}
use Rattle.lens_io.specs.declared.disk.Disk as OfDisk
use Rattle.lens_io.specs.declared.sink.Sink as OfSink
use Rattle.gate_log.specs.LogOnDisk.{LogState, HoldsPayloads}
use Rattle.store_run.specs.Effects.{HoldsFirst, StandsOn}
use Rattle.command_ends.specs.declared.status.Status.{Status}
use Rattle.command_ends.specs.declared.status.Status.TheVariants as ending
use Rattle.store_run.proofs.BehindCalls as behind
use Rattle.store_run.proofs.Moments.{leaves_more}
use Rattle.store_run.specs.MoreCall.{IsImage, StoresOne, ExitsMore, MoreEnds, IsSafeMore}

-- the first of the one record behind the payloads: none or all of it
pub image_of : (before : List (List ℕ)) (payload c : List ℕ) → HoldsFirst before (payload ∷ []) c → IsImage before payload c
image_of before payload c first = by_front first.front first.rest first.parts first.holds where
  by_front : (front rest : List (List ℕ)) → payload ∷ [] ≡ front ++ rest → HoldsPayloads (before ++ front) c → IsImage before payload c
  by_front [] rest e h = inl (subst (λ (x : List (List ℕ)). HoldsPayloads x c) (append-nil before) h)
  by_front (p ∷ []) rest e h = let same : payload ≡ p = cc in inr (subst (λ (x : List ℕ). HoldsPayloads (before ++ x ∷ []) c) (sym same) h)
  by_front (p ∷ q ∷ front) rest e h = let never : [] ≡ q ∷ (front ++ rest) = cc in cc

module _ {K D : Type 0} (sink : OfSink.Ghosts K) (disk : OfDisk.Ghosts D)
    (images_hold : (l : LogState) (d : D) (base : List (List ℕ)) (c : List ℕ) → StandsOn disk d l base → disk.images d c → HoldsPayloads base c)
    (read_holds : (l : LogState) (d : D) (base : List (List ℕ)) → StandsOn disk d l base → IfSome (disk.content d) (HoldsPayloads base))
    (k k' : K) (d d' : D) (before : List (List ℕ)) (payload lines : List ℕ) where
  -- after Done the payload is stored and the lines were written
  pub stores_one : (status : Status) → status ≡ ending.Done → MoreEnds sink disk (k, d) (k', d') before payload lines status
      → StoresOne sink disk (k, d) (k', d') before payload lines
  stores_one status is ends = behind.stores_all sink disk images_hold read_holds k k' d d' before [] payload lines status is ends

  pub exits_of : (status : Status) → MoreEnds sink disk (k, d) (k', d') before payload lines status → ExitsMore sink disk (k, d) (k', d') before payload lines status
  exits_of status ends = behind.exits_of sink disk images_hold read_holds k k' d d' before [] payload lines status ends

  pub safe_of_ends : (status : Status) → MoreEnds sink disk (k, d) (k', d') before payload lines status → IsSafeMore disk d d' before payload
  safe_of_ends status ends =
      let safe = behind.leaves_first sink disk images_hold read_holds k k' d d' before [] payload lines status ends in
      record {
        now = λ c is. image_of before payload c (safe.now c is);
        moments = leaves_more disk d d' (λ c. disk.images d c ⊎ HoldsFirst before (payload ∷ []) c) (λ c. disk.images d c ⊎ IsImage before payload c) either safe.moments;
      } where
        either : (c : List ℕ) → disk.images d c ⊎ HoldsFirst before (payload ∷ []) c → disk.images d c ⊎ IsImage before payload c
        either c (inl p) = inl p
        either c (inr first) = inr (image_of before payload c first)
