-- How `add` ends, from how its parts end.
use Rattle.std.proofs.Common.{◌≡◌, ◌⊎◌, inl, inr, ℕ, List, Option, Some, None, Ok, refl, sym, subst, arith}
use Rattle.std.specs.Prelude.{IfSome, IsNone}
use Rattle.std.proofs.KnownBytes.{Appends-nil}
use Rattle.command_ends.specs.Statuses.{IsStatusAmong, init_statuses}
use Rattle.command_ends.specs.declared.status.Status.{Status}
use Rattle.command_ends.specs.declared.status.Status.TheVariants as ending
use Rattle.gate_log.specs.LogOnDisk.{LogState, HoldsPayloads}
use Rattle.lens_forms.specs.Forms.{FormTree}
use Rattle.lens_io.specs.declared.disk.Disk as OfDisk
use Rattle.lens_io.specs.declared.failed.TakeFault.{TakeFault}
use Rattle.lens_io.specs.declared.failed.TakeFault.TheVariants as taking
use Rattle.lens_io.specs.declared.sink.Sink as OfSink
use Rattle.lens_io.specs.declared.source.Source as OfSource
use Rattle.program_terms.specs.Terms.{ProgramTree}
use Rattle.script_input.specs.Lines.{program_part}
use Rattle.hub_run.specs.Runs.{HubState, hub_state_text}
use Rattle.hub_run.specs.declared.views.HubRefused.{HubRefused}
use Rattle.hub_session.specs.HubStates.{hub_stands_for}
use Rattle.hub_new.specs.HubReading.{RefusesViews}
use Rattle.hub_new.proofs.HubsRead.{refuses_views}
use Rattle.store_run.specs.Devices.{Devices, devices_of}
use Rattle.store_run.specs.MoreCall.{ExitsMore, IsImage, IsSafeMore, MoreEnds, StoresOne}
use Rattle.store_run.specs.MoreCauses.{IsMoreCauseInRoom, OneHasNoRoom}
use Rattle.store_run.proofs.MoreCalls as more
use Rattle.store_run.proofs.MoreCauses.{more_cause}
use Rattle.store_new.specs.NewEnds.{RefusesAtOnce, StopsAfter}
use Rattle.store_new.proofs.CommandStatuses.{accepts_at_once, refuses_nothing, refuses_with, stops_at_once}
use Rattle.store_new.specs.Reading.{status_at}
use Rattle.store_new.specs.ScriptReading.{ReadsFront, RefusesWith}
use Rattle.store_run.specs.Effects.{StandsOn}
use Rattle.store_run.specs.Refusals.{FailsUnopened, IsOpening}
use Rattle.store_run.specs.Rooms.{TakesTooMany, most_bytes}
use Rattle.store_run.proofs.Effects.{if_known}
use Rattle.store_run.proofs.Moments.{leaves_more, leaves_then}
use Rattle.store_run.proofs.Openings.{opening_none, opening_then, unwritten_then}
use Rattle.store_run.proofs.Rooms.{none_some}
use Rattle.store_run.specs.ApplyCall.{IsUnopened}
use Rattle.hub_add.specs.AddCall.{AddEnds, AddsView, EndsAdded, EndsWhole, IsAddCause, IsAddImage, IsSafeAdd, StoresView, ViewHasNoRoom, added_payload, state_with_view}
use Rattle.hub_add.specs.AddReading.{ReadsRefusedView, ReadsView}
use Rattle.hub_add.specs.AddedView.{added_form, view_part}
use Rattle.hub_add.proofs.ViewsMore.{is_view_more, text_reads}

never_disk : (fault : TakeFault) → status_at fault ≡ ending.DiskFault → ⊥
never_disk taking.SourceFault e = cc
never_disk taking.TooLong e = cc
never_disk taking.NoMemory e = cc

-- ---- behind calls of the disk that only read

exits_behind : {K D : Type 0} (sink : OfSink.Ghosts K) (disk : OfDisk.Ghosts D) (k k' : K) (d0 d d' : D) (before : List (List ℕ)) (payload lines : List ℕ) (status : Status) → IsOpening disk d0 d
    → ExitsMore sink disk (k, d) (k', d') before payload lines status → ExitsMore sink disk (k, d0) (k', d') before payload lines status
exits_behind sink disk k k' d0 d d' before payload lines status first (inl e) =
    inl (record { d1 = e.d1; log = e.log; log' = e.log'; opens = opening_then disk d0 d e.d1 first e.opens; stands = e.stands; ends = e.ends })
exits_behind sink disk k k' d0 d d' before payload lines status first (inr e) =
    inr (unwritten_then disk d0 d d' first.unwritten e.0, (e.1.0, λ x. subst (λ (o : Option ℕ). IsNone o) first.same_room (e.1.1 x)))

safe_behind : {D : Type 0} (disk : OfDisk.Ghosts D) (d0 d d' : D) (before : List (List ℕ)) (payload : List ℕ) → IsOpening disk d0 d → IsSafeMore disk d d' before payload → IsSafeMore disk d0 d' before payload
safe_behind disk d0 d d' before payload first safe = record {
  now = safe.now;
  moments = leaves_then disk d0 d d' (disk.images d0) (λ c. disk.images d c ⊎ IsImage before payload c) (λ c. disk.images d0 c ⊎ IsImage before payload c) (λ c p. inl p) either first.moments safe.moments;
} where
  either : (c : List ℕ) → disk.images d c ⊎ IsImage before payload c → disk.images d0 c ⊎ IsImage before payload c
  either c (inl p) = inl (first.unwritten.only c p)
  either c (inr p) = inr p

module _ {S K D : Type 0} (source : OfSource.Ghosts S) (sink : OfSink.Ghosts K) (disk : OfDisk.Ghosts D)
    (images_hold : (l : LogState) (d : D) (base : List (List ℕ)) (c : List ℕ) → StandsOn disk d l base → disk.images d c → HoldsPayloads base c)
    (read_holds : (l : LogState) (d : D) (base : List (List ℕ)) → StandsOn disk d l base → IfSome (disk.content d) (HoldsPayloads base))
    (only_now : (d : D) (c : List ℕ) → disk.images_since d (disk.moment d) c → disk.images d c)
    (before : List (List ℕ)) (state : HubState) where
  abbrev Ends : Devices S K D → Devices S K D → Status → Type 0
  Ends old new status = AddEnds source sink disk old new before state status

  -- each image that a crash may leave of this disk holds the payloads from before
  abbrev Holds : D → Type 0
  Holds d = (c : List ℕ) → disk.images d c → HoldsPayloads before c

  -- ---- the script was not read to its end

  pub stops_reading : (s s' : S) (k : K) (d : D) (fault : TakeFault) → Holds d → ReadsFront (view_part state.forms) source s s' fault → Ends (devices_of s k d) (devices_of s' k d) (status_at fault)
  stops_reading s s' k d fault holds r = inr (inl (record {
    bytes = r.bytes;
    took = r.took;
    at_most = r.at_most;
    stops = r.stops;
    no_disk = never_disk fault;
    opens = opening_none disk only_now d;
    holds = holds;
    given = Appends-nil (sink.held k);
  }))

  -- ---- the program part is refused

  refused_or_not : (s s' : S) (k k' : K) (d : D) → Holds d → (refused : HubRefused) (r : ReadsRefusedView source s s' state.forms refused) (status : Status)
      → RefusesWith (view_part state.forms) sink k k' (added_form state.forms (program_part r.bytes)) status → Ends (devices_of s k d) (devices_of s' k' d) status
  refused_or_not s s' k k' d holds refused r status (inl (line, is, given)) = inr (inr (inl (record {
    bytes = r.bytes;
    took = r.took;
    at_most = r.at_most;
    line = line;
    refused = record { whole = r.whole; refused = is };
    opens = opening_none disk only_now d;
    holds = holds;
    given = given;
  })))
  refused_or_not s s' k k' d holds refused r status (inr (is, given)) =
      subst (λ x. Ends (devices_of s k d) (devices_of s' k' d) x) (sym is)
      (inr (inl (record { bytes = r.bytes; took = r.took; at_most = r.at_most; stops = tt; no_disk = λ e. cc; opens = opening_none disk only_now d; holds = holds; given = given })))

  pub refuses_view : (s s' : S) (k k' : K) (d : D) → Holds d → (refused : HubRefused) (r : ReadsRefusedView source s s' state.forms refused) (status : Status) → RefusesViews sink k k' refused status
      → Ends (devices_of s k d) (devices_of s' k' d) status
  refuses_view s s' k k' d holds refused r status written =
      refused_or_not s s' k k' d holds refused r status
      (refuses_views (added_form state.forms) sink k k' (added_form state.forms (program_part r.bytes)) status refused r.is written)

  -- ---- the program is accepted

  pub adds_program : (s s' : S) (k k' : K) (d d' : D) (program : ProgramTree) (form : FormTree) (status : Status) → Holds d → ReadsView source s s' state.forms program form → hub_stands_for before ≡ Ok (state, None)
      → EndsAdded sink disk (k, d) (k', d') before state program form status → Ends (devices_of s k d) (devices_of s' k' d') status
  adds_program s s' k k' d d' program form status holds r stood (inl e) =
      let text = e.text in
      let reads = text_reads state program form e.payload e.lines text in
      let ends = subst (λ p. MoreEnds sink disk (k, d) (k', d') before p (hub_state_text (state_with_view state form text.hub)) status) text.is
      (subst (λ l. MoreEnds sink disk (k, d) (k', d') before e.payload l status) text.written e.ends) in
      inr (inr (inr (record {
        bytes = r.bytes;
        took = r.took;
        read = r.read;
        within = r.within;
        program = program;
        form = form;
        accepted = r.accepted;
        hub = text.hub;
        more = is_view_more before state (program_part r.bytes) program form text.hub r.accepted text.made reads stood;
        exits = more.exits_of sink disk images_hold read_holds k k' d d' before (added_payload program) (hub_state_text (state_with_view state form text.hub)) status ends;
        safe = more.safe_of_ends sink disk images_hold read_holds k k' d d' before (added_payload program) (hub_state_text (state_with_view state form text.hub)) status ends;
      })))
  adds_program s s' k k' d d' program form status holds r stood (inr (is, same, given)) =
      subst (λ x. Ends (devices_of s k d) (devices_of s' k' d') x) (sym is)
      (inr (inl (record {
        bytes = r.bytes;
        took = r.took;
        at_most = omega (arith, r.within);
        stops = tt;
        no_disk = λ e. cc;
        opens = subst (λ (x : D). IsOpening disk d x) (sym same) (opening_none disk only_now d);
        holds = subst Holds (sym same) holds;
        given = given;
      })))

  -- ---- the whole call

  -- after Done the view is stored and the state lines were written
  pub adds_view : (s s' : S) (k k' : K) (d d' : D) (status : Status) → status ≡ ending.Done → Ends (devices_of s k d) (devices_of s' k' d') status → AddsView source sink disk (s, k) (devices_of s' k' d') before state
  adds_view s s' k k' d d' status is (inl f) = elim f.fails.0.0 [ inl e ↦ cc | inr e ↦ cc ]
  adds_view s s' k k' d d' status is (inr (inl r)) = absurd (subst (λ (x : Status). StopsAfter (view_part state.forms) r.bytes x) is r.stops)
  adds_view s s' k k' d d' status is (inr (inr (inl r))) = elim r.given [ inl e ↦ let other = e.0 in cc | inr e ↦ let other = e.0 in cc ]
  adds_view s s' k k' d d' status is (inr (inr (inr v))) =
      let lines = hub_state_text (state_with_view state v.form v.hub) in
      let stored : StoresOne sink disk (k, d) (k', d') before (added_payload v.program) lines =
      elim v.exits [
        | inl e ↦ more.stores_one sink disk images_hold read_holds k k' d d' before (added_payload v.program) lines status is (inl e)
        | inr e ↦ elim e.1.0.0 [ inl f ↦ cc | inr f ↦ cc ]
      ] in
      record {
        bytes = v.bytes;
        took = v.took;
        read = v.read;
        within = v.within;
        program = v.program;
        form = v.form;
        accepted = v.accepted;
        hub = v.hub;
        more = v.more;
        given = stored.given;
        kept = stored.kept;
      }

  -- behind calls of the disk that only read
  pub ends_behind : (s s' : S) (k k' : K) (d0 d d' : D) (status : Status) → IsOpening disk d0 d → Ends (devices_of s k d) (devices_of s' k' d') status → Ends (devices_of s k d0) (devices_of s' k' d') status
  ends_behind s s' k k' d0 d d' status first (inl f) = inl (record {
    unasked = f.unasked;
    opens = opening_then disk d0 d d' first f.opens;
    fails = (f.fails.0, λ x. subst (λ (o : Option ℕ). IsNone o) first.same_room (f.fails.1 x));
    holds = f.holds;
  })
  ends_behind s s' k k' d0 d d' status first (inr (inl r)) = inr (inl (record {
    bytes = r.bytes;
    took = r.took;
    at_most = r.at_most;
    stops = r.stops;
    no_disk = r.no_disk;
    opens = opening_then disk d0 d d' first r.opens;
    holds = r.holds;
    given = r.given;
  }))
  ends_behind s s' k k' d0 d d' status first (inr (inr (inl r))) = inr (inr (inl (record {
    bytes = r.bytes;
    took = r.took;
    at_most = r.at_most;
    line = r.line;
    refused = r.refused;
    opens = opening_then disk d0 d d' first r.opens;
    holds = r.holds;
    given = r.given;
  })))
  ends_behind s s' k k' d0 d d' status first (inr (inr (inr v))) = inr (inr (inr (record {
    bytes = v.bytes;
    took = v.took;
    read = v.read;
    within = v.within;
    program = v.program;
    form = v.form;
    accepted = v.accepted;
    hub = v.hub;
    more = v.more;
    exits = exits_behind sink disk k k' d0 d d' before (added_payload v.program) (hub_state_text (state_with_view state v.form v.hub)) status first v.exits;
    safe = safe_behind disk d0 d d' before (added_payload v.program) first v.safe;
  })))

  -- the store was not opened
  pub fails_first : (s : S) (k k' : K) (d d' : D) (status : Status) → IsOpening disk d d' → (status ≡ ending.DiskFault) ⊎ Holds d' → FailsUnopened sink disk (k, d) (k', d') status
      → Ends (devices_of s k d) (devices_of s k' d') status
  fails_first s k k' d d' status opens holds fails = inl (record { unasked = refl; opens = opens; fails = fails; holds = holds })

  -- ---- what a crash leaves

  safe_opening : (d d' : D) → IsOpening disk d d' → Holds d' → IsSafeAdd disk d d' before state
  safe_opening d d' o holds = record {
    now = λ c x. inl (holds c x);
    moments = leaves_more disk d d' (disk.images d) (λ c. disk.images d c ⊎ IsAddImage before state c) (λ c p. inl p) o.moments;
  }

  abbrev Survives : Devices S K D → Devices S K D → Status → Type 0
  Survives old new status = (status ≡ ending.DiskFault) × IsUnopened source sink disk old new ⊎ IsSafeAdd disk old.disk new.disk before state

  pub safe_add : (s s' : S) (k k' : K) (d d' : D) (status : Status) → Ends (devices_of s k d) (devices_of s' k' d') status → Survives (devices_of s k d) (devices_of s' k' d') status
  safe_add s s' k k' d d' status (inl f) = elim f.holds [
    | inl e ↦ inl (e, record { unasked = f.unasked; given = f.fails.0.1; only = f.opens.unwritten.only; moments = f.opens.moments })
    | inr h ↦ inr (safe_opening d d' f.opens h)
  ]
  safe_add s s' k k' d d' status (inr (inl r)) = inr (safe_opening d d' r.opens r.holds)
  safe_add s s' k k' d d' status (inr (inr (inl r))) = inr (safe_opening d d' r.opens r.holds)
  safe_add s s' k k' d d' status (inr (inr (inr v))) = inr (record {
    now = λ c x. image c (v.safe.now c x);
    moments = leaves_more disk d d' (λ c. disk.images d c ⊎ IsImage before (added_payload v.program) c) (λ c. disk.images d c ⊎ IsAddImage before state c) either v.safe.moments;
  }) where
    image : (c : List ℕ) → IsImage before (added_payload v.program) c → IsAddImage before state c
    image c (inl held) = inl held
    image c (inr more) = inr (v.program, v.form, v.hub, more, v.more)

    either : (c : List ℕ) → disk.images d c ⊎ IsImage before (added_payload v.program) c → disk.images d c ⊎ IsAddImage before state c
    either c (inl p) = inl p
    either c (inr p) = inr (image c p)

  -- ---- why it ended so

  module _ (s s' : S) (k k' : K) (d d' : D) (status : Status) (bytes : List ℕ) (told : disk.content d ≡ Some bytes) where
    no_room : (most : ℕ) (v : StoresView source sink disk (devices_of s k d) (devices_of s' k' d') before state status) → OneHasNoRoom most before (added_payload v.program) → ViewHasNoRoom source s s' before state most
    no_room most v h = record { bytes = v.bytes; took = v.took; read = v.read; program = v.program; form = v.form; accepted = v.accepted; no_room = h }

    caused : (v : StoresView source sink disk (devices_of s k d) (devices_of s' k' d') before state status) → IsMoreCauseInRoom (disk.room d) before (added_payload v.program) status
    caused v = more_cause sink disk before (added_payload v.program) (hub_state_text (state_with_view state v.form v.hub)) k k' d d' bytes status told v.exits

    full : Ends (devices_of s k d) (devices_of s' k' d') status → status ≡ ending.StoreRefused → ViewHasNoRoom source s s' before state most_bytes
    full (inl f) is = elim f.fails.0.0 [ inl e ↦ cc | inr e ↦ cc ]
    full (inr (inl r)) is = absurd (subst (λ (x : Status). StopsAfter (view_part state.forms) r.bytes x) is r.stops)
    full (inr (inr (inl r))) is = elim r.given [ inl e ↦ let other = e.0 in cc | inr e ↦ let other = e.0 in cc ]
    full (inr (inr (inr v))) is = no_room most_bytes v (subst (IsMoreCauseInRoom (disk.room d) before (added_payload v.program)) is (caused v))

    over : Ends (devices_of s k d) (devices_of s' k' d') status → status ≡ ending.DiskFault → IfSome (disk.room d) (λ most. ViewHasNoRoom source s s' before state most)
    over (inl f) is = none_some (disk.room d) (λ most. ViewHasNoRoom source s s' before state most) (f.fails.1 is)
    over (inr (inl r)) is = absurd (r.no_disk is)
    over (inr (inr (inl r))) is = elim r.given [ inl e ↦ let other = e.0 in cc | inr e ↦ let other = e.0 in cc ]
    over (inr (inr (inr v))) is =
        if_known (disk.room d) (λ most. OneHasNoRoom most before (added_payload v.program)) (λ most. ViewHasNoRoom source s s' before state most) (λ most h. no_room most v h)
        (subst (IsMoreCauseInRoom (disk.room d) before (added_payload v.program)) is (caused v))

    pub add_cause : Ends (devices_of s k d) (devices_of s' k' d') status → IsAddCause source disk (s, d) (s', d') before state status
    add_cause ends = record { full = full ends; over = over ends }

    -- a refusal of the program part is exact, and comes at once
    pub add_at_once : Ends (devices_of s k d) (devices_of s' k' d') status → RefusesAtOnce (view_part state.forms) source s s' status
    add_at_once (inl f) =
        subst (λ (x : S). RefusesAtOnce (view_part state.forms) source s x status) (sym f.unasked)
        (refuses_nothing (view_part state.forms) source s status (λ is. elim f.fails.0.0 [ inl e ↦ cc | inr e ↦ cc ]))
    add_at_once (inr (inl r)) = stops_at_once (view_part state.forms) source s s' r.bytes r.took status r.stops
    add_at_once (inr (inr (inl r))) = refuses_with (view_part state.forms) source s s' r.bytes r.took status sink k k' r.line r.refused r.given
    add_at_once (inr (inr (inr v))) =
        accepts_at_once (view_part state.forms) source s s' v.bytes v.took status (λ has. (v.form, v.accepted.has_lens))
        (λ is. subst (IsMoreCauseInRoom (disk.room d) before (added_payload v.program)) is (caused v))

    too_many : Ends (devices_of s k d) (devices_of s' k' d') status → status ≡ ending.InputTooLong → TakesTooMany source s s'
    too_many (inl f) is = elim f.fails.0.0 [ inl e ↦ cc | inr e ↦ cc ]
    too_many (inr (inl r)) is =
        let stops = subst (λ (x : Status). StopsAfter (view_part state.forms) r.bytes x) is r.stops in
        record { bytes = r.bytes; consumes = r.took; over = omega (arith, stops.0, r.at_most) }
    too_many (inr (inr (inl r))) is = elim r.given [ inl e ↦ let other = e.0 in cc | inr e ↦ let other = e.0 in cc ]
    too_many (inr (inr (inr v))) is = absurd (subst (IsMoreCauseInRoom (disk.room d) before (added_payload v.program)) is (caused v))

    -- with no fault and with room it comes to its end, or refuses the program part, or memory runs out
    pub add_complete : Ends (devices_of s k d) (devices_of s' k' d') status → IsStatusAmong init_statuses status → (status ≡ ending.SourceFault → ⊥) → (status ≡ ending.SinkFault → ⊥) → (status ≡ ending.DiskFault → ⊥)
        → (TakesTooMany source s s' → ⊥) → (ViewHasNoRoom source s s' before state most_bytes → ⊥) → EndsWhole status
    add_complete ends (inl e) no_source no_sink no_disk few room = inl e
    add_complete ends (inr (inl e)) no_source no_sink no_disk few room = inr (inl e)
    add_complete ends (inr (inr (inl e))) no_source no_sink no_disk few room = absurd (room (full ends e))
    add_complete ends (inr (inr (inr (inl e)))) no_source no_sink no_disk few room = absurd (no_source e)
    add_complete ends (inr (inr (inr (inr (inl e))))) no_source no_sink no_disk few room = absurd (no_sink e)
    add_complete ends (inr (inr (inr (inr (inr (inl e)))))) no_source no_sink no_disk few room = absurd (no_disk e)
    add_complete ends (inr (inr (inr (inr (inr (inr (inl e))))))) no_source no_sink no_disk few room = absurd (few (too_many ends e))
    add_complete ends (inr (inr (inr (inr (inr (inr (inr (inl e)))))))) no_source no_sink no_disk few room = inr (inr e)
    add_complete ends (inr (inr (inr (inr (inr (inr (inr (inr e)))))))) no_source no_sink no_disk few room = absurd e
