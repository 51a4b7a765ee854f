-- The whole call of `pack`.
use Rattle.command_ends.specs.Statuses.{IsFinished}
use Rattle.std.proofs.Common.{◌≡◌, ◌⊎◌, inl, inr, ℕ, List, [], ◌∷◌, ◌++◌, Option, Some, None, refl, sym, ap, subst, ◌∙◌, append_assoc, append-nil, Ok}
use Rattle.std.specs.Prelude.{option_to_list, IfSome}
use Rattle.lens_io.specs.Calls.{Gave}
use Rattle.lens_io.specs.DiskRuns.{LeavesOnly}
use Rattle.lens_io.specs.declared.sink.Sink as OfSink
use Rattle.lens_io.specs.declared.disk.Disk as OfDisk
use Rattle.gate_log.specs.LogOnDisk.{LogState, HoldsPayloads}
use Rattle.store_run.specs.Refusals.{IsOpening}
use Rattle.store_run.specs.CountLines.{packed_line}
use Rattle.store_run.specs.Effects.{HoldsFirst, StandsOn, begun_at, Adds, StopsStoring}
use Rattle.store_run.specs.PackCall.{PacksCall, IsSafePack, EndsPacked}
use Rattle.store_run.specs.ApplyEnds.{status_of}
use Rattle.command_ends.specs.declared.status.Status.{Status}
use Rattle.store_run.specs.declared.stop.Stop.{Stop}
use Rattle.store_run.specs.declared.stop.Stop.TheVariants.{LogFull, SourceFault, SinkFault, DiskFault, TooLong, NoMemory}
use Rattle.store_run.proofs.Effects.{first_none, first_all, first_more}
use Rattle.store_run.specs.declared.session.StoredSession as OfSession
use Rattle.store_run.proofs.Moments.{leaves_more, leaves_then}
use Rattle.store_run.proofs.Openings.{opening_then}

abbrev Payloads : Type 0
Payloads = List (List ℕ)

-- an image that holds the first of these payloads holds the first of more
front_holds : (base front rest whole : Payloads) (c : List ℕ) → front ++ rest ≡ whole → HoldsPayloads (base ++ front) c → HoldsFirst base whole c
front_holds base front rest whole c e h = record { front = front; rest = rest; parts = sym e; holds = h }

first_of : (base kept more whole : Payloads) (c : List ℕ) → kept ++ more ≡ whole → HoldsFirst base kept c → HoldsFirst base whole c
first_of base kept more whole c e h = subst (λ (x : Payloads). HoldsFirst base x c) e (first_more base kept more c h)

-- a status of a stop is not that of an end
pub never_finished : (stop : Stop) (status : Status) → status ≡ status_of stop → IsFinished status → ⊥
never_finished LogFull status e (inl f) = cc
never_finished LogFull status e (inr f) = cc
never_finished SourceFault status e (inl f) = cc
never_finished SourceFault status e (inr f) = cc
never_finished SinkFault status e (inl f) = cc
never_finished SinkFault status e (inr f) = cc
never_finished DiskFault status e (inl f) = cc
never_finished DiskFault status e (inr f) = cc
never_finished TooLong status e (inl f) = cc
never_finished TooLong status e (inr f) = cc
never_finished NoMemory status e (inl f) = cc
never_finished NoMemory status e (inr f) = cc

module _ {K D : Type 0} (sink : OfSink.Ghosts K) (disk : OfDisk.Ghosts D)
    (images_hold : (l : LogState) (d : D) (base : Payloads) (c : List ℕ) → StandsOn disk d l base → disk.images d c → HoldsPayloads base c) where
  -- what each image holds after a stop
  pub now_at : (stop : Stop) (k k' : K) (d d' : D) (l l' : LogState) (base whole : Payloads) (text begun_text : List ℕ) (kept begun more : Payloads) → (kept ++ begun) ++ more ≡ whole
      → StopsStoring sink disk (k, d, l) (k', d', l') stop text begun_text kept begun → StandsOn disk d l base → (c : List ℕ) → disk.images d' c → HoldsFirst base whole c
  now_at SinkFault k k' d d' l l' base whole text begun_text kept begun more e s st c now = front_holds base (kept ++ begun) more whole c e (images_hold l' d' (base ++ (kept ++ begun)) c (s.stored base st) now)
  now_at DiskFault k k' d d' l l' base whole text begun_text kept begun more e s st c now = elim ((s.stored base st).0 c now) [
    | inl without ↦ front_holds base kept (begun ++ more) whole c (sym (append_assoc kept begun more) ∙ e) without
    | inr with ↦ front_holds base (kept ++ begun) more whole c e with
  ]
  now_at LogFull k k' d d' l l' base whole text begun_text kept begun more e s st c now = front_holds base kept (begun ++ more) whole c (sym (append_assoc kept begun more) ∙ e) (images_hold l' d' (base ++ kept) c (s.stored base st) now)
  now_at SourceFault k k' d d' l l' base whole text begun_text kept begun more e s st c now = front_holds base kept (begun ++ more) whole c (sym (append_assoc kept begun more) ∙ e) (images_hold l' d' (base ++ kept) c (s.stored base st) now)
  now_at TooLong k k' d d' l l' base whole text begun_text kept begun more e s st c now = front_holds base kept (begun ++ more) whole c (sym (append_assoc kept begun more) ∙ e) (images_hold l' d' (base ++ kept) c (s.stored base st) now)
  now_at NoMemory k k' d d' l l' base whole text begun_text kept begun more e s st c now = front_holds base kept (begun ++ more) whole c (sym (append_assoc kept begun more) ∙ e) (images_hold l' d' (base ++ kept) c (s.stored base st) now)

  begun_parts : (stop : Stop) (kept begun more : Payloads) → (rest : Payloads) × ((kept ++ begun_at stop begun) ++ rest ≡ (kept ++ begun) ++ more)
  begun_parts SinkFault kept begun more = (more, refl)
  begun_parts DiskFault kept begun more = (more, refl)
  begun_parts LogFull kept begun more = (begun ++ more, ap (λ (x : Payloads). x ++ (begun ++ more)) (append-nil kept) ∙ sym (append_assoc kept begun more))
  begun_parts SourceFault kept begun more = (begun ++ more, ap (λ (x : Payloads). x ++ (begun ++ more)) (append-nil kept) ∙ sym (append_assoc kept begun more))
  begun_parts TooLong kept begun more = (begun ++ more, ap (λ (x : Payloads). x ++ (begun ++ more)) (append-nil kept) ∙ sym (append_assoc kept begun more))
  begun_parts NoMemory kept begun more = (begun ++ more, ap (λ (x : Payloads). x ++ (begun ++ more)) (append-nil kept) ∙ sym (append_assoc kept begun more))

  pub moments_at : (stop : Stop) (k k' : K) (d d' : D) (l l' : LogState) (base whole : Payloads) (text begun_text : List ℕ) (kept begun more : Payloads) → (kept ++ begun) ++ more ≡ whole
      → StopsStoring sink disk (k, d, l) (k', d', l') stop text begun_text kept begun → StandsOn disk d l base → LeavesOnly disk d d' (HoldsFirst base whole)
  moments_at stop k k' d d' l l' base whole text begun_text kept begun more e s st =
      let parts = begun_parts stop kept begun more in
      leaves_more disk d d' (HoldsFirst base (kept ++ begun_at stop begun)) (HoldsFirst base whole) (λ c h. first_of base (kept ++ begun_at stop begun) parts.0 whole c (parts.1 ∙ e) h) (s.moments base st)

  module _ {A : Type 0} (session : OfSession.Ghosts A)
      (read_holds : (l : LogState) (d : D) (base : Payloads) → StandsOn disk d l base → IfSome (disk.content d) (HoldsPayloads base))
      (version_stands : (ps : Payloads) (t : session.State) (v : List ℕ) → session.stands_for ps ≡ Ok (t, Some v) → session.stands_for (ps ++ v ∷ []) ≡ Ok (t, None))
      (snapshot_stands : (ps : Payloads) (t : session.State) → session.stands_for ps ≡ Ok (t, None) → session.has_snapshot t → session.stands_for (ps ++ session.snapshot_text t ∷ []) ≡ Ok (t, None))
      (version_counts : (ps : Payloads) (t : session.State) (v : List ℕ) → session.stands_for ps ≡ Ok (t, Some v) → session.count_of (ps ++ v ∷ []) ≡ session.count_of ps)
      (snapshot_counts : (ps : Payloads) (t : session.State) → session.stands_for ps ≡ Ok (t, None) → session.has_snapshot t → session.count_of (ps ++ session.snapshot_text t ∷ []) ≡ session.count_of ps) where
    -- ---- a snapshot that was made

    module _ (t : session.State) (has : session.has_snapshot t) where
      abbrev s : List ℕ
      s = session.snapshot_text t

      all_counted : (before : Payloads) (version : Option (List ℕ)) → session.stands_for before ≡ Ok (t, version) → session.count_of (before ++ (option_to_list version ++ s ∷ [])) ≡ session.count_of before
      all_counted before None h = snapshot_counts before t h has
      all_counted before (Some v) h =
          ap session.count_of (sym (append_assoc before (v ∷ []) (s ∷ []))) ∙ (snapshot_counts (before ++ v ∷ []) t (version_stands before t v h) has ∙ version_counts before t v h)

      all_stand : (before : Payloads) (version : Option (List ℕ)) → session.stands_for before ≡ Ok (t, version) → session.stands_for (before ++ (option_to_list version ++ s ∷ [])) ≡ Ok (t, None)
      all_stand before None h = snapshot_stands before t h has
      all_stand before (Some v) h = ap session.stands_for (sym (append_assoc before (v ∷ []) (s ∷ []))) ∙ snapshot_stands (before ++ v ∷ []) t (version_stands before t v h) has

      one_stands : (before front rest : Payloads) → session.stands_for before ≡ Ok (t, None) → s ∷ [] ≡ front ++ rest → (v : Option (List ℕ)) × (session.stands_for (before ++ front) ≡ Ok (t, v))
      one_stands before [] rest h e = (None, ap session.stands_for (append-nil before) ∙ h)
      one_stands before (p ∷ []) rest h e =
          let same : s ≡ p = cc in
          (None, ap (λ (x : List ℕ). session.stands_for (before ++ x ∷ [])) (sym same) ∙ snapshot_stands before t h has)
      one_stands before (p ∷ q ∷ front) rest h e = let never : [] ≡ q ∷ (front ++ rest) = cc in cc

      -- each of the lists stands for the state
      pub each_stands : (before : Payloads) (version : Option (List ℕ)) → session.stands_for before ≡ Ok (t, version) → (front rest : Payloads) → option_to_list version ++ s ∷ [] ≡ front ++ rest
          → (v : Option (List ℕ)) × (session.stands_for (before ++ front) ≡ Ok (t, v))
      each_stands before None h front rest e = one_stands before front rest h e
      each_stands before (Some v) h [] rest e = (Some v, ap session.stands_for (append-nil before) ∙ h)
      each_stands before (Some v) h (p ∷ front) rest e =
          let same : v ≡ p = cc in
          let tail : s ∷ [] ≡ front ++ rest = cc in
          let where_ : (before ++ v ∷ []) ++ front ≡ before ++ p ∷ front = append_assoc before (v ∷ []) front ∙ ap (λ (x : List ℕ). before ++ x ∷ front) same in
          let stood = one_stands (before ++ v ∷ []) front rest (version_stands before t v h) tail in
          (stood.0, ap session.stands_for (sym where_) ∙ stood.1)

      module _ (d d' : D) (before : Payloads) (version : Option (List ℕ)) (h : session.stands_for before ≡ Ok (t, version)) where
        abbrev whole : Payloads
        whole = option_to_list version ++ s ∷ []

        safe_of : (past : List ℕ → Type 0) → ((c : List ℕ) → disk.images d' c → HoldsFirst before whole c) → LeavesOnly disk d d' (λ c. past c ⊎ HoldsFirst before whole c)
            → IsSafePack disk session d d' past before t version
        safe_of past now moments = record { kept = whole; is = inr (has, refl); now = now; moments = moments; stand = each_stands before version h }

        pub safe_packed : (past : List ℕ → Type 0) (k k' : K) (l l' : LogState) (line : List ℕ) → Adds sink disk (k, d, l) (k', d', l') line whole → StandsOn disk d l before
            → IsSafePack disk session d d' past before t version
        safe_packed past k k' l l' line a st =
            safe_of past (λ c now. first_all before whole c (images_hold l' d' (before ++ whole) c (a.stored before st) now))
            (leaves_more disk d d' (HoldsFirst before whole) (λ c. past c ⊎ HoldsFirst before whole c) (λ c x. inr x) (a.moments before st))

        pub safe_short : (past : List ℕ → Type 0) (k k' : K) (l l' : LogState) (stop : Stop) (line : List ℕ)
            → StopsStoring sink disk (k, d, l) (k', d', l') stop [] [] [] (option_to_list version) ⊎ StopsStoring sink disk (k, d, l) (k', d', l') stop [] line (option_to_list version) (s ∷ [])
            → StandsOn disk d l before → IsSafePack disk session d d' past before t version
        safe_short past k k' l l' stop line (inl e) st =
            safe_of past (now_at stop k k' d d' l l' before whole [] [] [] (option_to_list version) (s ∷ []) refl e st)
            (leaves_more disk d d' (HoldsFirst before whole) (λ c. past c ⊎ HoldsFirst before whole c) (λ c x. inr x)
            (moments_at stop k k' d d' l l' before whole [] [] [] (option_to_list version) (s ∷ []) refl e st))
        safe_short past k k' l l' stop line (inr e) st =
            safe_of past (now_at stop k k' d d' l l' before whole [] line (option_to_list version) (s ∷ []) [] (append-nil whole) e st)
            (leaves_more disk d d' (HoldsFirst before whole) (λ c. past c ⊎ HoldsFirst before whole c) (λ c x. inr x)
            (moments_at stop k k' d d' l l' before whole [] line (option_to_list version) (s ∷ []) [] (append-nil whole) e st))

        pub packs_call : (k k' : K) (l l' : LogState) (line : List ℕ) → line ≡ packed_line (session.count_of before) → Adds sink disk (k, d, l) (k', d', l') line whole → StandsOn disk d l before
            → PacksCall sink disk session k (k', d') before t version
        packs_call k k' l l' line e a st = record {
          has = has;
          given = subst (Gave sink k k') e a.given;
          kept = read_holds l' d' (before ++ whole) (a.stored before st);
          stand = all_stand before version h;
          count = all_counted before version h;
        }

    -- ---- no snapshot

    module _ (d d' : D) (before : Payloads) (t : session.State) (version : Option (List ℕ)) (h : session.stands_for before ≡ Ok (t, version)) where
      nothing_stands : (front rest : Payloads) → [] ≡ front ++ rest → (v : Option (List ℕ)) × (session.stands_for (before ++ front) ≡ Ok (t, v))
      nothing_stands [] rest e = (version, ap session.stands_for (append-nil before) ∙ h)
      nothing_stands (p ∷ front) rest e = cc

      -- the store is as it was
      pub safe_kept : (past : List ℕ → Type 0) → ((c : List ℕ) → disk.images d' c → HoldsPayloads before c) → LeavesOnly disk d d' past
          → IsSafePack disk session d d' past before t version
      safe_kept past now moments = record {
        kept = [];
        is = inl refl;
        now = λ c is. first_none before [] c (now c is);
        moments = leaves_more disk d d' past (λ c. past c ⊎ HoldsFirst before [] c) (λ c x. inl x) moments;
        stand = nothing_stands;
      }

      -- behind calls of the disk that left no other image
      pub safe_after : (past past' : List ℕ → Type 0) (d1 : D) → ((kept : Payloads) (c : List ℕ) → past c → past' c ⊎ HoldsFirst before kept c) → LeavesOnly disk d d1 past'
          → IsSafePack disk session d1 d' past before t version
          → IsSafePack disk session d d' past' before t version
      safe_after past past' d1 f moments e = record {
        kept = e.kept;
        is = e.is;
        now = e.now;
        moments = leaves_then disk d d1 d' past' (λ c. past c ⊎ HoldsFirst before e.kept c) (λ c. past' c ⊎ HoldsFirst before e.kept c)
            (λ c x. inl x) (λ c x. elim x [ inl p ↦ f e.kept c p | inr y ↦ inr y ]) moments e.moments;
        stand = e.stand;
      }

module _ {K D : Type 0} (sink : OfSink.Ghosts K) (disk : OfDisk.Ghosts D) where
  -- a snapshot was packed behind calls of the disk that only read
  pub packed_later : {A : Type 0} (session : OfSession.Ghosts A)
      (k k' : K) (d d1 d' : D) (before : Payloads) (t : session.State) (version : Option (List ℕ)) (status : Status)
      → IsOpening disk d d1
      → EndsPacked sink disk session (k, d1) (k', d') before t version status
      → EndsPacked sink disk session (k, d) (k', d') before t version status
  packed_later session k k' d d1 d' before t version status first p = record {
    has = p.has;
    ends = record {
      d1 = p.ends.d1;
      log = p.ends.log;
      log' = p.ends.log';
      opens = opening_then disk d d1 p.ends.d1 first p.ends.opens;
      stands = p.ends.stands;
      ends = p.ends.ends;
    };
    stand = p.stand;
  }
