-- The storing of payloads in an empty log, and how it stops.
use Rattle.std.proofs.Common.{◌≡◌, ◌⊎◌, inl, inr, ℕ, suc, ◌+◌, ◌-◌, ◌^◌, ◌<◌, ◌≤◌, List, [], ◌∷◌, ◌++◌, length, drop, get_or, drop-cons, add-one, Option, None, Some, Err, IfSome, refl, sym, ap, subst, ◌∙◌, append_assoc, append-nil, arith}
use Rattle.lens_io.specs.declared.disk.Disk as OfDisk
use Rattle.gate_log.specs.CallEnds.{AppendEnds}
use Rattle.gate_log.specs.LogBytes.{closed_gate}
use Rattle.gate_log.specs.LogOnDisk.{LogState, Stands}
use Rattle.gate_log.specs.Steps.{KeepsBehind}
use Rattle.lens_io.specs.Disks.{Steps}
use Rattle.std.proofs.lemmas.List.{drop_all, drop-drop}
use Rattle.gate_log.specs.declared.fault.LogFault.{LogFault}
use Rattle.gate_log.specs.declared.fault.LogFault.TheVariants as log
use Rattle.store_run.specs.Rooms.{HasNoRoom}
use Rattle.store_run.proofs.Effects.{if_known}
use Rattle.store_run.proofs.StoredPayloads.{images_held}
use Rattle.store_new.specs.Making.{StopsAppending}
use Rattle.store_new.specs.NewStores.{IsTooLong, EndsThere, HoldsStore, HoldsFirstOnly}
use Rattle.gate_log.proofs.Heads.{records_length_append}

-- there is no room for one more payload
pub too_long : (front rest : List (List ℕ)) (payload : List ℕ) (gate : ℕ) → gate ≡ closed_gate front → 2 ^ 63 - 1 < gate + 10 + length payload → IsTooLong (front ++ payload ∷ rest)
too_long front rest payload gate at full = omega (arith, at, full, records_length_append front (payload ∷ rest))

-- ---- nothing is behind the end

none_left : (n : ℕ) (bytes : List ℕ) → bytes ≡ [] → drop n bytes ≡ []
none_left n bytes none = drop_all n bytes (omega (arith, ap length none))

-- where nothing was behind a place, and what is behind a later one stays, nothing is behind that one
pub still_ends : (m n k : ℕ) (old new : Option (List ℕ)) → m ≤ n → k ≡ n → IfSome old (λ bytes. drop m bytes ≡ []) → Steps (KeepsBehind n) old new
    → IfSome new (λ bytes. drop k bytes ≡ [])
still_ends m n k None None within e h keeps = tt
still_ends m n k None (Some new) within e h keeps = absurd keeps
still_ends m n k (Some old) None within e h keeps = tt
still_ends m n k (Some old) (Some new) within e h keeps =
    let on : m + (n - m) ≡ n = omega (arith, within) in
    ap (λ (j : ℕ). drop j new) e
    ∙ (keeps
    ∙ (ap (λ (j : ℕ). drop j old) (sym on)
    ∙ (sym (drop-drop (n - m) m old)
    ∙ none_left (n - m) (drop m old) h)))

nothing_behind : (bytes : List ℕ) → length bytes ≡ 0 → drop 0 bytes ≡ []
nothing_behind bytes h = drop_all 0 bytes (omega (arith, h))

-- an empty log on a disk that was empty
pub first_ends : (old new : Option (List ℕ)) → IfSome old (λ bytes. length bytes ≡ 0) → Steps (KeepsBehind 9) old new → IfSome new (λ bytes. drop 9 bytes ≡ [])
first_ends old new h keeps = still_ends 0 9 9 old new (omega arith) refl (if_known old (λ bytes. length bytes ≡ 0) (λ bytes. drop 0 bytes ≡ []) nothing_behind h) keeps

module _ {D : Type 0} (disk : OfDisk.Ghosts D) where
  -- the first of the payloads are stored, and these are left
  pub record Stored (d : D) (l : LogState) (payloads rest : List (List ℕ)) : Type 0 where
    pub front : List (List ℕ)
    pub parts : payloads ≡ front ++ rest
    pub stands : Stands (disk.content d) (disk.images d) l front
    pub gate : l.gate ≡ closed_gate front
    pub ends_there : EndsThere disk d front

  pub none_stored : (d : D) (l : LogState) (payloads rest : List (List ℕ)) → rest ≡ payloads → Stands (disk.content d) (disk.images d) l [] → l.gate ≡ 8 → EndsThere disk d []
      → Stored d l payloads rest
  none_stored d l payloads rest same stands gate there = record { front = []; parts = sym same; stands = stands; gate = gate; ends_there = there }

  pub all_stored : (d : D) (l : LogState) (payloads rest : List (List ℕ)) → Stored d l payloads rest → rest ≡ [] → Stands (disk.content d) (disk.images d) l payloads
  all_stored d l payloads rest s none = subst (Stands (disk.content d) (disk.images d) l) (sym (s.parts ∙ ap (λ r. s.front ++ r) none ∙ append-nil s.front)) s.stands

  pub all_end_there : (d : D) (l : LogState) (payloads rest : List (List ℕ)) → Stored d l payloads rest → rest ≡ [] → EndsThere disk d payloads
  all_end_there d l payloads rest s none = subst (EndsThere disk d) (sym (s.parts ∙ ap (λ r. s.front ++ r) none ∙ append-nil s.front)) s.ends_there

  -- one more payload is stored
  pub one_more : (d d' : D) (l l' : LogState) (payloads records : List (List ℕ)) (i : ℕ) (payload : List ℕ) → i < length records → payload ≡ get_or records i payload
      → (s : Stored d l payloads (drop i records))
      → ((held : List (List ℕ)) → Stands (disk.content d) (disk.images d) l held → Stands (disk.content d') (disk.images d') l' (held ++ payload ∷ []))
      → l'.gate ≡ l.gate + 9 + length payload
      → Steps (KeepsBehind (l.gate + 10 + length payload)) (disk.content d) (disk.content d')
      → Stored d' l' payloads (drop (i + 1) records)
  one_more d d' l l' payloads records i payload some is s stands gate behind =
      let next : drop i records ≡ payload ∷ drop (i + 1) records = drop-cons records i payload some ∙ ap (λ p. p ∷ drop (suc i) records) (sym is) ∙ ap (λ n. payload ∷ drop n records) (sym (add-one i)) in
      record {
        front = s.front ++ payload ∷ [];
        parts = s.parts ∙ ap (λ r. s.front ++ r) next ∙ sym (append_assoc s.front (payload ∷ []) (drop (i + 1) records));
        stands = stands s.front s.stands;
        gate = omega (arith, gate, s.gate, records_length_append s.front (payload ∷ []));
        ends_there = still_ends (closed_gate s.front + 1) (l.gate + 10 + length payload) (closed_gate (s.front ++ payload ∷ []) + 1) (disk.content d) (disk.content d')
            (omega (arith, s.gate)) (omega (arith, s.gate, records_length_append s.front (payload ∷ []))) s.ends_there behind;
      }

  -- there is no room for the next payload
  pub no_room_for_next : (o : Option ℕ) (d : D) (l : LogState) (payloads records : List (List ℕ)) (i : ℕ) (payload : List ℕ) → i < length records → payload ≡ get_or records i payload
      → Stored d l payloads (drop i records) → IfSome o (λ most. most < l.gate + 10 + length payload) → IfSome o (λ most. HasNoRoom most [] payloads)
  no_room_for_next o d l payloads records i payload some is s h =
      let next : drop i records ≡ payload ∷ drop (suc i) records = drop-cons records i payload some ∙ ap (λ p. p ∷ drop (suc i) records) (sym is) in
      if_known o (λ most. most < l.gate + 10 + length payload) (λ most. HasNoRoom most [] payloads)
      (λ most over. record {
        front = s.front;
        payload = payload;
        rest = drop (suc i) records;
        parts = s.parts ∙ ap (λ r. s.front ++ r) next;
        over = omega (arith, over, s.gate);
      }) h

  module _ (known : (d : D) (c : List ℕ) → disk.images d c → (bytes : List ℕ) × (disk.content d ≡ Some bytes) × disk.images d bytes) where
    pub holds : (d : D) (l : LogState) (held : List (List ℕ)) → Stands (disk.content d) (disk.images d) l held → EndsThere disk d held → HoldsStore disk d held
    holds d l held s there = record { read = s.read; crash = λ c now. images_held disk known l d held c s now; ends_there = there }

    first_held : (d : D) (l : LogState) (front rest : List (List ℕ)) (payload : List ℕ) → Stands (disk.content d) (disk.images d) l front → EndsThere disk d front
        → HoldsFirstOnly disk d (front ++ payload ∷ rest)
    first_held d l front rest payload s there = record { front = front; rest = payload ∷ rest; parts = refl; some = omega arith; holds = holds d l front s there }

    stops_behind : (d : D) (l : LogState) (gate : ℕ) (front rest : List (List ℕ)) (payload : List ℕ) (fault : LogFault)
        → AppendEnds (Stands (disk.content d) (disk.images d) l) (disk.images d) front payload (Err fault) → gate ≡ closed_gate front
        → (fault ≡ log.LogFull → 2 ^ 63 - 1 < gate + 10 + length payload)
        → ((fault ≡ log.LogFull) ⊎ (fault ≡ log.NoMemory) → EndsThere disk d front)
        → StopsAppending disk d (front ++ payload ∷ rest) fault
    stops_behind d l gate front rest payload log.LogFull ends at full there = (too_long front rest payload gate at (full refl), first_held d l front rest payload ends (there (inl refl)))
    stops_behind d l gate front rest payload log.NoMemory ends at full there = first_held d l front rest payload ends (there (inr refl))
    stops_behind d l gate front rest payload log.DiskFault ends at full there = tt
    stops_behind d l gate front rest payload log.NotALog ends at full there = ends
    stops_behind d l gate front rest payload (log.BadRecord number) ends at full there = ends
    stops_behind d l gate front rest payload log.LogExists ends at full there = ends

    -- the storing stopped at this payload
    pub stopped : (d d' : D) (l l' : LogState) (payloads records : List (List ℕ)) (i : ℕ) (payload : List ℕ) (fault : LogFault) → i < length records → payload ≡ get_or records i payload
        → (s : Stored d l payloads (drop i records))
        → ((held : List (List ℕ)) → Stands (disk.content d) (disk.images d) l held → AppendEnds (Stands (disk.content d') (disk.images d') l') (disk.images d') held payload (Err fault))
        → (fault ≡ log.LogFull → 2 ^ 63 - 1 < l.gate + 10 + length payload)
        → ((fault ≡ log.LogFull) ⊎ (fault ≡ log.NoMemory) → d' ≡ d)
        → StopsAppending disk d' payloads fault
    stopped d d' l l' payloads records i payload fault some is s ends full same =
        let next : drop i records ≡ payload ∷ drop (suc i) records = drop-cons records i payload some ∙ ap (λ p. p ∷ drop (suc i) records) (sym is) in
        let parts : payloads ≡ s.front ++ payload ∷ drop (suc i) records = s.parts ∙ ap (λ r. s.front ++ r) next in
        subst (λ (ps : List (List ℕ)). StopsAppending disk d' ps fault) (sym parts) (stops_behind d' l' l.gate s.front (drop (suc i) records) payload fault (ends s.front s.stands) s.gate full (λ why. subst (λ (x : D). EndsThere disk x s.front) (sym (same why)) s.ends_there))
