-- What an append of the next record leaves, in words of the payloads.
use Rattle.std.proofs.Common.{◌≡◌, inl, inr, ⊎_elim, ℕ, suc, ◌+◌, ◌-◌, ◌^◌, ◌<◌, ◌≤◌, List, [], ◌∷◌, ◌++◌, length, Result, Ok, Err, Option, Some, None, IfSome, refl, sym, ap, ap₂, ◌∙◌, subst, arith}
use Rattle.std.proofs.lemmas.Bool.{cases_lt}
use Rattle.lens_io.specs.Disks.{Steps}
use Rattle.lens_io.specs.DiskRuns.{LeavesOnly}
use Rattle.lens_io.specs.declared.disk.Disk as OfDisk
use Rattle.gate_log.specs.LogBytes.{payloads, records_length}
use Rattle.gate_log.specs.LogOnDisk.{LogState, HoldsLog, HoldsPayloads, HoldsOneMore, Stands}
use Rattle.gate_log.specs.CallEnds.{AppendEnds, AppendLeaves}
use Rattle.gate_log.specs.declared.fault.LogFault.{LogFault}
use Rattle.gate_log.specs.declared.fault.LogFault.TheVariants.{NotALog, BadRecord, LogExists, DiskFault, LogFull, NoMemory}
use Rattle.sealed_log.specs.SealedRecords.{seal_of, sealed_record}
use Rattle.sealed_log.specs.SealedLists.{sealed_from, sealed, last_seal, last_seal_from}
use Rattle.sealed_log.specs.SealedLogs.{SealedState, SealedStands, HoldsSealedOneMore, SealedAppendEnds, SealedAppendLeaves, next_number, next_record}
use Rattle.sealed_log.proofs.SealedLists.{last_seal-more}

-- ---- one payload more

length-sealed : (before number : ℕ) (held : List (List ℕ)) → length (sealed_from before number held) ≡ length held
length-sealed before number [] = refl
length-sealed before number (payload ∷ rest) = ap suc (length-sealed (seal_of before number payload) (number + 1) rest)

pub length-sealed_list : (held : List (List ℕ)) → length (sealed held) ≡ length held
length-sealed_list held = length-sealed 0 1 held

pub sealed-append : (before number : ℕ) (held more : List (List ℕ))
    → sealed_from before number (held ++ more) ≡ sealed_from before number held ++ sealed_from (last_seal_from before number held) (number + length held) more
sealed-append before number [] more =
    let none : number ≡ number + 0 = omega arith in
    ap (λ n. sealed_from before n more) none
sealed-append before number (first ∷ held) more =
    let seal : ℕ = seal_of before number first in
    let one_more : number + 1 + length held ≡ number + suc (length held) = omega arith in
    let first_record : List ℕ = sealed_record before number first in
    ap (λ (rest : List (List ℕ)). first_record ∷ rest) (sealed-append seal (number + 1) held more)
    ∙ ap (λ n. first_record ∷ (sealed_from seal (number + 1) held ++ sealed_from (last_seal_from seal (number + 1) held) n more)) one_more

few_records : (all : List (List ℕ)) → length all ≤ records_length all
few_records [] = omega arith
few_records (payload ∷ rest) = omega (arith, few_records rest)

-- the next record is the one that the payload is sealed as, behind those that are held, and its seal is the last one then
pub record IsNext (log : SealedState) (held : List (List ℕ)) (payload : List ℕ) : Type 0 where
  pub records : sealed (held ++ payload ∷ []) ≡ sealed held ++ next_record log payload ∷ []
  pub seal : seal_of log.last (next_number log) payload ≡ last_seal (held ++ payload ∷ [])

is_next : (bytes : List ℕ) (log : SealedState) (held : List (List ℕ)) (payload : List ℕ) (n : ℕ)
    → HoldsLog log.stored bytes → HoldsPayloads (sealed held) bytes → log.last ≡ last_seal held
    → log.stored.gate + 10 + n ≤ 2 ^ 63 - 1 → IsNext log held payload
is_next bytes log held payload n holds read goes_on room =
    let same : payloads holds.0 ≡ payloads (sealed held) = sym holds.1 ∙ read in
    let lists : holds.0 ≡ sealed held = cc same in
    let count : log.stored.count ≡ length held = sym holds.2 ∙ ap length lists ∙ length-sealed 0 1 held in
    let few : length holds.0 ≤ records_length holds.0 = few_records holds.0 in
    let number : next_number log ≡ 1 + length held = omega (arith, few, holds.2, holds.3, room, count) in
    record {
      records = sealed-append 0 1 held (payload ∷ [])
          ∙ ap₂ (λ before k. sealed held ++ sealed_record before k payload ∷ []) (sym goes_on) (sym number);
      seal = ap₂ (λ before k. seal_of before k payload) goes_on number ∙ sym (last_seal-more 0 1 held payload);
    }

-- ---- content that may be known

module _ (old new : Option (List ℕ)) (images : List ℕ → Type 0) (log : SealedState) (held : List (List ℕ)) (payload : List ℕ) (stands : SealedStands old images log held) where
  -- what holds if the old content is known holds if the new one is
  still : (X : Type 0) (step : List ℕ → List ℕ → Type 0) → Steps step old new → ((bytes : List ℕ) → old ≡ Some bytes → X) → (b : List ℕ) → new ≡ Some b → X
  still X step steps from b is = by old new steps from is
    where
      by : (o m : Option (List ℕ)) → Steps step o m → ((bytes : List ℕ) → o ≡ Some bytes → X) → m ≡ Some b → X
      by None None s f e = absurd (cc e)
      by None (Some m) s f e = absurd s
      by (Some o) m s f e = f o refl

  -- of known content
  of_known : (P : List ℕ → Type 0) (o : Option (List ℕ)) (bytes : List ℕ) → o ≡ Some bytes → IfSome o P → P bytes
  of_known P o bytes is h = subst (λ (o : Option (List ℕ)). IfSome o P) is h

  -- if the log is not full, the next record is next
  next : (n : ℕ) → log.stored.gate + 10 + n ≤ 2 ^ 63 - 1 → (bytes : List ℕ) → old ≡ Some bytes → IsNext log held payload
  next n room bytes is =
      is_next bytes log held payload n (of_known (HoldsLog log.stored) old bytes is stands.records.behind.read)
      (of_known (HoldsPayloads (sealed held)) old bytes is stands.records.read)
      (of_known (λ _. log.last ≡ last_seal held) old bytes is stands.goes_on) room

  abbrev one : List ℕ
  one = next_record log payload

  one_more : IsNext log held payload → (c : List ℕ) → HoldsOneMore (sealed held) one c → HoldsSealedOneMore held payload c
  one_more is c h = ⊎_elim inl (λ more. inr (subst (λ (all : List (List ℕ)). HoldsPayloads all c) (sym is.records) more)) h

  module _ (step : List ℕ → List ℕ → Type 0) (steps : Steps step old new) where
    known_next : (n : ℕ) → log.stored.gate + 10 + n ≤ 2 ^ 63 - 1 → (b : List ℕ) → new ≡ Some b → IsNext log held payload
    known_next n room = still (IsNext log held payload) step steps (next n room)

    -- if the new content is known
    if_known : (P : List ℕ → Type 0) (o : Option (List ℕ)) → ((b : List ℕ) → o ≡ Some b → P b) → IfSome o P
    if_known P None f = tt
    if_known P (Some b) f = f b refl

    pub read_of : (n : ℕ) → log.stored.gate + 10 + n ≤ 2 ^ 63 - 1 → IfSome new (HoldsOneMore (sealed held) one) → IfSome new (HoldsSealedOneMore held payload)
    read_of n room h =
        if_known (HoldsSealedOneMore held payload) new
        (λ b is. one_more (known_next n room b is) b (of_known (HoldsOneMore (sealed held) one) new b is h))

    pub image_of : (n : ℕ) (c : List ℕ) → log.stored.gate + 10 + n ≤ 2 ^ 63 - 1 → (bytes : List ℕ) × (new ≡ Some bytes) → HoldsOneMore (sealed held) one c → HoldsSealedOneMore held payload c
    image_of n c room told h = one_more (known_next n room told.0 told.1) c h

    -- the log stands with one payload more
    pub stands_more : (n : ℕ) (images' : List ℕ → Type 0) (stored : LogState) (seal : ℕ) → log.stored.gate + 10 + n ≤ 2 ^ 63 - 1 → seal ≡ seal_of log.last (next_number log) payload
        → Stands new images' stored (sealed held ++ one ∷ []) → SealedStands new images' (record { stored = stored; last = seal }) (held ++ payload ∷ [])
    stands_more n images' stored seal room is s = record {
      records = record {
        sound = s.sound;
        behind = s.behind;
        read = if_known (HoldsPayloads (sealed (held ++ payload ∷ []))) new
            (λ b known. subst (λ (all : List (List ℕ)). HoldsPayloads all b) (sym (known_next n room b known).records) (of_known (HoldsPayloads (sealed held ++ one ∷ [])) new b known s.read));
      };
      goes_on = if_known (λ _. seal ≡ last_seal (held ++ payload ∷ [])) new (λ b known. is ∙ (known_next n room b known).seal);
    }

    -- the log stands as it did
    pub stands_still : (images' : List ℕ → Type 0) (stored : LogState) → Stands new images' stored (sealed held) → SealedStands new images' (record { stored = stored; last = log.last }) held
    stands_still images' stored s = record {
      records = s;
      goes_on = if_known (λ _. log.last ≡ last_seal held) new
          (still (log.last ≡ last_seal held) step steps (λ bytes is. of_known (λ _. log.last ≡ last_seal held) old bytes is stands.goes_on));
    }

-- ---- the end of a call that was not completed

-- the log was not full
pub not_full : (n : ℕ) (result : Result (Unit {0}) LogFault) → (2 ^ 63 - 1 < n → result ≡ Err LogFull) → (result ≡ Err LogFull → ⊥) → n ≤ 2 ^ 63 - 1
not_full n result full other = ⊎_elim (λ over. absurd (other (full over))) (λ within. within) (cases_lt (2 ^ 63 - 1) n)

module _ (old new : Option (List ℕ)) (images images' : List ℕ → Type 0) (log : SealedState) (held : List (List ℕ)) (payload : List ℕ) (stands : SealedStands old images log held)
    (step : List ℕ → List ℕ → Type 0) (steps : Steps step old new) (n : ℕ) (stored : LogState) where
  abbrev size : ℕ
  size = log.stored.gate + 10 + n

  abbrev it : List ℕ
  it = next_record log payload

  abbrev Full : Result (Unit {0}) LogFault → Type 0
  Full result = 2 ^ 63 - 1 < size → result ≡ Err LogFull

  image : (result : Result (Unit {0}) LogFault) → Full result → (result ≡ Err LogFull → ⊥) → (c : List ℕ) → (bytes : List ℕ) × (new ≡ Some bytes) → HoldsOneMore (sealed held) it c → HoldsSealedOneMore held payload c
  image result full other c told h = image_of old new images log held payload stands step steps n c (not_full size result full other) told h

  pub leaves_of : (result : Result (Unit {0}) LogFault) → Full result → (c : List ℕ) → (bytes : List ℕ) × (new ≡ Some bytes) → AppendLeaves (sealed held) it result c → SealedAppendLeaves held payload result c
  leaves_of (Ok done) full c told h = image (Ok done) full (λ e. absurd (cc e)) c told h
  leaves_of (Err LogFull) full c told h = h
  leaves_of (Err NoMemory) full c told h = h
  leaves_of (Err DiskFault) full c told h = image (Err DiskFault) full (λ e. absurd (cc e)) c told h
  leaves_of (Err NotALog) full c told h = image (Err NotALog) full (λ e. absurd (cc e)) c told h
  leaves_of (Err LogExists) full c told h = image (Err LogExists) full (λ e. absurd (cc e)) c told h
  leaves_of (Err (BadRecord number)) full c told h = image (Err (BadRecord number)) full (λ e. absurd (cc e)) c told h

  pub ends_err : (fault : LogFault) → Full (Err fault) → ((c : List ℕ) → images' c → (bytes : List ℕ) × (new ≡ Some bytes) × images' bytes)
      → AppendEnds (Stands new images' stored) images' (sealed held) it (Err fault)
      → SealedAppendEnds (SealedStands new images' (record { stored = stored; last = log.last })) images' held payload (Err fault)
  ends_err LogFull full told h = stands_still old new images log held payload stands step steps images' stored h
  ends_err NoMemory full told h = stands_still old new images log held payload stands step steps images' stored h
  ends_err DiskFault full told h = λ c now. image (Err DiskFault) full (λ e. absurd (cc e)) c ((told c now).0, (told c now).1) (h c now)
  ends_err NotALog full told h = h
  ends_err LogExists full told h = h
  ends_err (BadRecord number) full told h = h

  kept_read : (o : Option (List ℕ)) → IfSome o (HoldsPayloads (sealed held)) → IfSome o (HoldsSealedOneMore held payload)
  kept_read None h = tt
  kept_read (Some b) h = inl h

  pub read_err : (fault : LogFault) → Full (Err fault) → AppendEnds (Stands new images' stored) images' (sealed held) it (Err fault)
      → IfSome new (HoldsOneMore (sealed held) it) → IfSome new (HoldsSealedOneMore held payload)
  read_err LogFull full h read = kept_read new h.read
  read_err NoMemory full h read = kept_read new h.read
  read_err DiskFault full h read = read_of old new images log held payload stands step steps n (not_full size (Err DiskFault) full (λ e. absurd (cc e))) read
  read_err NotALog full h read = absurd h
  read_err LogExists full h read = absurd h
  read_err (BadRecord number) full h read = absurd h

  pub read_ok : Full (Ok tt) → IfSome new (HoldsOneMore (sealed held) it) → IfSome new (HoldsSealedOneMore held payload)
  read_ok full read = read_of old new images log held payload stands step steps n (not_full size (Ok tt) full (λ e. absurd (cc e))) read

  pub ends_ok : Full (Ok tt) → (seal : ℕ) → seal ≡ seal_of log.last (next_number log) payload → Stands new images' stored (sealed held ++ it ∷ [])
      → SealedStands new images' (record { stored = stored; last = seal }) (held ++ payload ∷ [])
  ends_ok full seal is s = stands_more old new images log held payload stands step steps n images' stored seal (not_full size (Ok tt) full (λ e. absurd (cc e))) is s

-- ---- moments

-- a run whose images are known to come from a content that is known
pub weaker_known : {D : Type 0} (disk : OfDisk.Ghosts D) → ((new : D) (t : ℕ) (c : List ℕ) → disk.images_since new t c → (bytes : List ℕ) × (disk.content new ≡ Some bytes))
    → (old new : D) (P R : List ℕ → Type 0) → LeavesOnly disk old new P → ((c : List ℕ) → (bytes : List ℕ) × (disk.content new ≡ Some bytes) → P c → R c) → LeavesOnly disk old new R
weaker_known disk told old new P R run p = record {
  later = run.later;
  each = λ c left. p c (told new (disk.moment old) c left) (run.each c left);
  before = λ t c le left. ⊎_elim inl (λ h. inr (p c (told new t c left) h)) (run.before t c le left);
}
