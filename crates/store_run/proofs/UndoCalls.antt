-- The whole call of `undo`, from how it ends over a log that stands.
use Rattle.std.proofs.Common.{◌≡◌, ◌⊎◌, inl, inr, ℕ, List, [], ◌∷◌, ◌++◌, Option, refl, sym, ap, subst, ◌∙◌, append-nil}
use Rattle.std.specs.Prelude.{option_to_list, IfSome, IsNone}
use Rattle.lens_io.specs.DiskRuns.{LeavesOnly}
use Rattle.lens_io.specs.declared.disk.Disk as OfDisk
use Rattle.lens_io.specs.declared.sink.Sink as OfSink
use Rattle.gate_log.specs.LogOnDisk.{LogState, HoldsPayloads}
use Rattle.store_run.specs.ApplyEnds.{status_of}
use Rattle.store_run.specs.Effects.{HoldsFirst, StandsOn, StopsStoring}
use Rattle.store_run.specs.MoreCall.{EndsBehind}
use Rattle.store_run.specs.Refusals.{IsOpening}
use Rattle.store_run.specs.Rooms.{most_bytes, HasNoRoom}
use Rattle.store_run.specs.StoreEnds.{StoreEnds}
use Rattle.store_run.specs.UndoCall.{HoldsNow, IsUndoneImage, UndoesCall, ExitsUndo, IsSafeUndo, UndoEnds, UndoHasNoRoom, IsUndoCauseInRoom, new_records}
use Rattle.store_run.specs.declared.undo_session.UndoneSession as OfUndo
use Rattle.command_ends.specs.declared.status.Status.{Status}
use Rattle.command_ends.specs.declared.status.Status.TheVariants as ending
use Rattle.store_run.specs.declared.stop.Stop.{Stop}
use Rattle.store_run.specs.declared.stop.Stop.TheVariants.{LogFull, SourceFault, SinkFault, DiskFault, TooLong, NoMemory}
use Rattle.store_run.proofs.BehindCalls as behind
use Rattle.store_run.proofs.BehindCalls.{LeavesFirst}
use Rattle.store_run.proofs.Moments.{leaves_more}
use Rattle.store_run.proofs.MoreCauses.{behind_complete}
use Rattle.store_run.proofs.Openings.{opening_then}

-- ---- images

-- the first of some records and the one behind them: the first of those, or all
first_parts : (vs : List (List ℕ)) (s : List ℕ) (front rest : List (List ℕ)) → vs ++ s ∷ [] ≡ front ++ rest
    → ((more : List (List ℕ)) × (vs ≡ front ++ more)) ⊎ (front ≡ vs ++ s ∷ [])
first_parts vs s [] rest e = inl (vs, refl)
first_parts [] s (p ∷ []) rest e = let same : s ≡ p = cc in inr (ap (λ (x : List ℕ). x ∷ []) (sym same))
first_parts [] s (p ∷ q ∷ front) rest e = let never : [] ≡ q ∷ (front ++ rest) = cc in cc
first_parts (v ∷ vs) s (p ∷ front) rest e =
    let same : v ≡ p = cc in
    let tail : vs ++ s ∷ [] ≡ front ++ rest = cc in
    elim (first_parts vs s front rest tail) [
      | inl h ↦ inl (h.0, ap (λ (x : List (List ℕ)). v ∷ x) h.1 ∙ ap (λ (x : List ℕ). x ∷ (front ++ h.0)) same)
      | inr h ↦ inr (ap (λ (x : List (List ℕ)). p ∷ x) h ∙ ap (λ (x : List ℕ). x ∷ (vs ++ s ∷ [])) (sym same))
    ]

module _ {A : Type 0} (session : OfUndo.Ghosts A) (held : List (List ℕ)) (u : session.Undone) where
  abbrev due : List (List ℕ)
  due = option_to_list (session.version_due u)

  -- the payloads represent what there is now, and so they do with the version record behind them
  abbrev pub StandsNow : Type 0
  StandsNow = (front rest : List (List ℕ)) → due ≡ front ++ rest → session.represents_now (held ++ front) u

  module _ (h : StandsNow) where
    pub holds_now : (front rest : List (List ℕ)) (c : List ℕ) → due ≡ front ++ rest → HoldsPayloads (held ++ front) c → HoldsNow session held u c
    holds_now front rest c e holds = record { front = front; rest = rest; parts = e; holds = holds; stand = h front rest e }

    pub holds_before : (c : List ℕ) → HoldsPayloads held c → HoldsNow session held u c
    holds_before c holds = holds_now [] due c refl (subst (λ (x : List (List ℕ)). HoldsPayloads x c) (sym (append-nil held)) holds)

    -- the first of the new records behind the payloads
    pub image_of : (c : List ℕ) → session.takes_back held u → HoldsFirst held (new_records session u) c → IsUndoneImage session held u c
    image_of c back first =
        elim (first_parts due (session.snapshot_text u) first.front first.rest first.parts) [
          | inl e ↦ inl (holds_now first.front e.0 c e.1 first.holds)
          | inr e ↦ inr (record { holds = subst (λ (x : List (List ℕ)). HoldsPayloads (held ++ x) c) e first.holds; takes_back = back })
        ]

-- ---- statuses

-- after these statuses the snapshot is not stored
abbrev pub StoresNone : Status → Type 0
StoresNone status = (status ≡ ending.NoMemory) ⊎ (status ≡ ending.StoreRefused)

pub other_status : (status : Status) (A : Type 0) → StoresNone status → (status ≡ ending.Done) ⊎ (status ≡ ending.SinkFault) ⊎ (status ≡ ending.DiskFault) → A
other_status status A (inl e) (inl f) = cc
other_status status A (inl e) (inr (inl f)) = cc
other_status status A (inl e) (inr (inr f)) = cc
other_status status A (inr e) (inl f) = cc
other_status status A (inr e) (inr (inl f)) = cc
other_status status A (inr e) (inr (inr f)) = cc

-- a status that has no cause does not come
pub undo_complete : {A : Type 0} (session : OfUndo.Ghosts A) (status : Status) (o : Option ℕ) (before : List (List ℕ)) (u : session.Undone) → IsUndoCauseInRoom session o before u status
    → (status ≡ ending.SinkFault → ⊥) → (status ≡ ending.DiskFault → ⊥) → (UndoHasNoRoom session most_bytes before u → ⊥) → (status ≡ ending.Done) ⊎ (status ≡ ending.NoMemory)
undo_complete session status o before u h sink disk none =
    behind_complete status (HasNoRoom most_bytes before (new_records session u)) (IfSome o (λ most. HasNoRoom most before (new_records session u))) h sink disk none

-- ---- the call

module _ {K D A : Type 0} (sink : OfSink.Ghosts K) (disk : OfDisk.Ghosts D) (session : OfUndo.Ghosts A)
    (images_hold : (l : LogState) (d : D) (base : List (List ℕ)) (c : List ℕ) → StandsOn disk d l base → disk.images d c → HoldsPayloads base c)
    (read_holds : (l : LogState) (d : D) (base : List (List ℕ)) → StandsOn disk d l base → IfSome (disk.content d) (HoldsPayloads base))
    (k k' : K) (d d' : D) (before : List (List ℕ)) (u : session.Undone) where
  abbrev version : List (List ℕ)
  version = option_to_list (session.version_due u)

  abbrev snapshot : List ℕ
  snapshot = session.snapshot_text u

  abbrev text : List ℕ
  text = session.undo_text u

  -- with no word of what the records are worth
  stored_ends : (status : Status) → UndoEnds sink disk session (k, d) (k', d') before u status → EndsBehind sink disk (k, d) (k', d') before text version snapshot status
  stored_ends status (inl e) = inl e.0
  stored_ends status (inr e) = inr e

  -- after Done the records are stored and the lines written
  pub undoes_call : (status : Status) → status ≡ ending.Done → UndoEnds sink disk session (k, d) (k', d') before u status → UndoesCall sink disk session (k, d) (k', d') before u
  undoes_call status is (inl e) =
      let stored = behind.stores_all sink disk images_hold read_holds k k' d d' before version snapshot text status is (inl e.0) in
      record { given = stored.given; kept = stored.kept; takes_back = e.1 }
  undoes_call status is (inr e) = elim e.fails.0.0 [ inl f ↦ cc | inr f ↦ cc ]

  pub exits_of : (status : Status) → UndoEnds sink disk session (k, d) (k', d') before u status → ExitsUndo sink disk session (k, d) (k', d') before u status
  exits_of status ends = behind.exits_of sink disk images_hold read_holds k k' d d' before version snapshot text status (stored_ends status ends)

  -- behind calls of the disk that only read
  pub ends_behind : (d0 : D) (status : Status) → IsOpening disk d0 d → UndoEnds sink disk session (k, d) (k', d') before u status → UndoEnds sink disk session (k, d0) (k', d') before u status
  ends_behind d0 status first (inl e) =
      inl (record { d1 = e.0.d1; log = e.0.log; log' = e.0.log'; opens = opening_then disk d0 d e.0.d1 first e.0.opens; stands = e.0.stands; ends = e.0.ends }, e.1)
  ends_behind d0 status first (inr e) = inr (record {
    opens = opening_then disk d0 d d' first e.opens;
    holds = e.holds;
    fails = (e.fails.0, λ x. subst (λ (o : Option ℕ). IsNone o) first.same_room (e.fails.1 x));
  })

  module _ (h : StandsNow session before u) where
    -- ---- images

    -- the store is as it was
    pub safe_kept : ((c : List ℕ) → disk.images d' c → HoldsPayloads before c) → LeavesOnly disk d d' (disk.images d) → IsSafeUndo disk session d d' before u
    safe_kept holds moments = record {
      now = λ c is. inl (holds_before session before u h c (holds c is));
      moments = leaves_more disk d d' (disk.images d) (λ c. disk.images d c ⊎ IsUndoneImage session before u c) (λ c p. inl p) moments;
    }

    safe_stored : session.takes_back before u → LeavesFirst disk d d' before (new_records session u) → IsSafeUndo disk session d d' before u
    safe_stored back safe = record {
      now = λ c is. image_of session before u h c back (safe.now c is);
      moments = leaves_more disk d d' (λ c. disk.images d c ⊎ HoldsFirst before (new_records session u) c) (λ c. disk.images d c ⊎ IsUndoneImage session before u c) either safe.moments;
    } where
      either : (c : List ℕ) → disk.images d c ⊎ HoldsFirst before (new_records session u) c → disk.images d c ⊎ IsUndoneImage session before u c
      either c (inl p) = inl p
      either c (inr first) = inr (image_of session before u h c back first)

    pub safe_of_ends : (status : Status) → UndoEnds sink disk session (k, d) (k', d') before u status → IsSafeUndo disk session d d' before u
    safe_of_ends status (inl e) = safe_stored e.1 (behind.leaves_first sink disk images_hold read_holds k k' d d' before version snapshot text status (inl e.0))
    safe_of_ends status (inr e) = safe_kept e.holds e.opens.moments

    -- ---- the snapshot is not stored

    stop_unstored : (d1 : D) (k1 : K) (l l' : LogState) (stop : Stop) → StoresNone (status_of stop) → StandsOn disk d1 l before
        → StopsStoring sink disk (k, d1, l) (k1, d', l') stop [] [] [] version
        ⊎ StopsStoring sink disk (k, d1, l) (k1, d', l') stop [] text version (snapshot ∷ [])
        → (c : List ℕ) → disk.images d' c → HoldsNow session before u c
    stop_unstored d1 k1 l l' LogFull is st (inl s) c now = holds_now session before u h [] version c refl (images_hold l' d' (before ++ []) c (s.stored before st) now)
    stop_unstored d1 k1 l l' LogFull is st (inr s) c now = holds_now session before u h version [] c (sym (append-nil version)) (images_hold l' d' (before ++ version) c (s.stored before st) now)
    stop_unstored d1 k1 l l' NoMemory is st (inl s) c now = holds_now session before u h [] version c refl (images_hold l' d' (before ++ []) c (s.stored before st) now)
    stop_unstored d1 k1 l l' NoMemory is st (inr s) c now = holds_now session before u h version [] c (sym (append-nil version)) (images_hold l' d' (before ++ version) c (s.stored before st) now)
    stop_unstored d1 k1 l l' SinkFault is st s c now = other_status ending.SinkFault (HoldsNow session before u c) is (inr (inl refl))
    stop_unstored d1 k1 l l' DiskFault is st s c now = other_status ending.DiskFault (HoldsNow session before u c) is (inr (inr refl))
    stop_unstored d1 k1 l l' SourceFault is st s c now = elim is [ inl e ↦ cc | inr e ↦ cc ]
    stop_unstored d1 k1 l l' TooLong is st s c now = elim is [ inl e ↦ cc | inr e ↦ cc ]

    ends_unstored : (d1 : D) (l l' : LogState) (status : Status) → StoresNone status → StandsOn disk d1 l before
        → StoreEnds sink disk (k, d1, l) (k', d', l') text version snapshot status → (c : List ℕ) → disk.images d' c → HoldsNow session before u c
    ends_unstored d1 l l' status is st (inl e) c now = other_status status (HoldsNow session before u c) is (inl e.0)
    ends_unstored d1 l l' status is st (inr s) c now = elim s.status_is [
      | inl e ↦ stop_unstored d1 s.k1 l l' s.stop (subst StoresNone e.0 is) st s.stops c now
      | inr e ↦ other_status status (HoldsNow session before u c) is (inr (inl e.1))
    ]

    pub unstored_of : (status : Status) → StoresNone status → UndoEnds sink disk session (k, d) (k', d') before u status → (c : List ℕ) → disk.images d' c → HoldsNow session before u c
    unstored_of status is (inl e) c now = ends_unstored e.0.d1 e.0.log e.0.log' status is e.0.stands e.0.ends c now
    unstored_of status is (inr e) c now = holds_before session before u h c (e.holds c now)
