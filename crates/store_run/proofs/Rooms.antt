-- Why the commands over a store ended so.
use Rattle.command_ends.specs.Statuses.{IsFinished, status_at_end}
use Rattle.std.proofs.Common.{◌≡◌, ◌⊎◌, inl, inr, ℕ, ◌+◌, ◌<◌, List, [], ◌∷◌, ◌++◌, length, Bool, true, false, Option, Some, None, refl, sym, ap, subst, ◌∙◌, append_assoc, append-nil, arith}
use Rattle.std.specs.Prelude.{option_to_list, IfSome, IsNone}
use Rattle.lens_io.specs.Calls.{Took}
use Rattle.lens_io.specs.declared.source.Source as OfSource
use Rattle.lens_io.specs.declared.sink.Sink as OfSink
use Rattle.lens_io.specs.declared.disk.Disk as OfDisk
use Rattle.edit_journal.specs.Pieces.{nothing_fed, fed, last_line, lines_of}
use Rattle.edit_journal.specs.declared.line.Line.{Line}
use Rattle.edit_journal.proofs.Feeding.{all_lines_given}
use Rattle.gate_log.specs.LogBytes.{payloads, records_length, closed_gate}
use Rattle.gate_log.specs.LogOnDisk.{LogState, Stands}
use Rattle.store_run.specs.Devices.{devices_of}
use Rattle.store_run.specs.Answered.{StopsAmong}
use Rattle.script_input.specs.Coming.{ended_lines}
use Rattle.store_run.specs.ApplyCall.{EndsCall}
use Rattle.store_run.specs.CountLines.{packed_line}
use Rattle.store_run.specs.Effects.{IsOver, IsFullAt, StopsStoring}
use Rattle.store_run.specs.ApplyEnds.{status_of, StopsStored, ExitsApply}
use Rattle.store_run.specs.JournalEnds.{StopsJournal}
use Rattle.store_run.specs.MoreCauses.{IsStoreCause}
use Rattle.store_run.specs.PackCall.{EndsPack, packed}
use Rattle.store_run.specs.Rooms.{most_bytes, HasNoRoom, TakesWithin, TakesTooMany, RunHasNoRoom, IsCauseInRoom, PackHasNoRoom, IsPackCauseInRoom}
use Rattle.store_run.specs.StoreRuns.{any_line_refused, kept_of}
use Rattle.store_run.specs.StoreEnds.{StoreEnds}
use Rattle.store_run.specs.Stopping.{IsOwnStop}
use Rattle.store_run.specs.ViewCall.{Views}
use Rattle.store_run.specs.declared.session.StoredSession as OfSession
use Rattle.command_ends.specs.declared.status.Status.{Status}
use Rattle.command_ends.specs.declared.status.Status.TheVariants as ending
use Rattle.store_run.specs.declared.stop.Stop.{Stop}
use Rattle.store_run.specs.declared.stop.Stop.TheVariants.{LogFull, SourceFault, SinkFault, DiskFault, TooLong, NoMemory}
use Rattle.store_run.proofs.Effects.{records_append, if_known}
use Rattle.store_run.proofs.InTime.{took_none}
use Rattle.store_run.proofs.RunParts.{kept_append, goes_run}

abbrev Payloads : Type 0
Payloads = List (List ℕ)

-- ---- the closed gate

-- the closed gate of a log that stands on a disk whose content is known
pub gate_of : (o : Option (List ℕ)) (images : List ℕ → Type 0) (l : LogState) (before : Payloads) (bytes : List ℕ) → o ≡ Some bytes → Stands o images l before → l.gate ≡ closed_gate before
gate_of None images l before bytes e s = cc
gate_of (Some b) images l before bytes e s =
    let at = s.behind.read in
    let two : payloads at.0 ≡ payloads before = sym at.1 ∙ s.read in
    let same : at.0 ≡ before = cc in
    sym at.3 ∙ ap closed_gate same

gate_behind : (gate : ℕ) (before front : Payloads) → gate ≡ closed_gate before → gate + records_length front ≡ closed_gate (before ++ front)
gate_behind gate before front g =
    let e : gate ≡ 8 + records_length before = g in
    let w : gate + records_length front ≡ 8 + records_length (before ++ front) = omega (arith, e, records_append before front) in
    w

-- ---- no room

no_room_of : (most gate : ℕ) (before front begun whole : Payloads) → gate ≡ closed_gate (before ++ front) → whole ≡ front ++ begun → IsOver most gate begun → HasNoRoom most before whole
no_room_of most gate before front [] whole g e h = absurd h
no_room_of most gate before front (p ∷ rest) whole g e h =
    let is : most < gate + 10 + length p = h in
    record { front = front; payload = p; rest = rest; parts = e; over = omega (arith, is, g) }

over_more : (most gate : ℕ) (begun more : Payloads) → IsOver most gate begun → IsOver most gate (begun ++ more)
over_more most gate [] more h = absurd h
over_more most gate (p ∷ rest) more h = h

-- the room that a stop tells of
abbrev room_at : Stop → Option ℕ → Option ℕ
room_at LogFull room = Some most_bytes
room_at DiskFault room = room
room_at stop room = None

full_room : (stop : Stop) (room : Option ℕ) (gate : ℕ) (begun : Payloads) → IsFullAt stop room gate begun → IfSome (room_at stop room) (λ most. IsOver most gate begun)
full_room LogFull room gate begun h = h
full_room DiskFault room gate begun h = h
full_room SourceFault room gate begun h = tt
full_room SinkFault room gate begun h = tt
full_room TooLong room gate begun h = tt
full_room NoMemory room gate begun h = tt

pub none_some : (o : Option ℕ) (P : ℕ → Type 0) → IsNone o → IfSome o P
none_some None P h = tt
none_some (Some n) P h = cc

-- ---- `apply`

module _ {S K D A : Type 0} (source : OfSource.Ghosts S) (sink : OfSink.Ghosts K) (disk : OfDisk.Ghosts D) (session : OfSession.Ghosts A)
    (i i' : S) (before : Payloads) (t : session.State) (version : Option (List ℕ)) where
  abbrev NoRoom : ℕ → Type 0
  NoRoom most = RunHasNoRoom source session i i' most before t version

  over_among : (most : ℕ) (k k1 : K) (d d' : D) (l l' : LogState) (stop : Stop) (bytes : List ℕ) (ended more : List Line)
      → l.gate ≡ closed_gate (before ++ option_to_list version) → Took source i i' bytes → lines_of bytes ≡ ended ++ more
      → (s : StopsAmong sink disk session (k, d, l) (k1, d', l') t 0 ended stop)
      → IsOver most (l.gate + records_length (kept_of s.done)) (kept_of s.begun) → NoRoom most
  over_among most k k1 d d' l l' stop bytes ended more g consumes whole s over =
      let v = option_to_list version in
      record {
        bytes = bytes;
        consumes = consumes;
        lines = s.lines;
        rest = s.rest ++ more;
        parts = whole ∙ ap (λ (x : List Line). x ++ more) s.parts ∙ append_assoc s.lines s.rest more;
        steps = s.done ++ s.begun;
        is_run = goes_run session t s.t' 0 s.n' s.lines (s.done ++ s.begun) s.goes;
        no_room = no_room_of most (l.gate + records_length (kept_of s.done)) before (v ++ kept_of s.done) (kept_of s.begun) (v ++ kept_of (s.done ++ s.begun))
            (gate_behind l.gate (before ++ v) (kept_of s.done) g ∙ ap closed_gate (append_assoc before v (kept_of s.done)))
            (ap (λ (x : Payloads). v ++ x) (kept_append s.done s.begun) ∙ sym (append_assoc v (kept_of s.done) (kept_of s.begun)))
            over;
      }

  over_journal : (k k1 : K) (d d' : D) (l l' : LogState) (stop : Stop) → l.gate ≡ closed_gate (before ++ option_to_list version)
      → StopsJournal source sink disk session (i, k, d, l) (i', k1, d', l') t 0 stop → IfSome (room_at stop (disk.room d)) NoRoom
  over_journal k k1 d d' l l' stop g (inl j) =
      if_known (room_at stop (disk.room d)) (λ most. IsOver most (l.gate + records_length (kept_of j.among.done)) (kept_of j.among.begun)) NoRoom
      (λ most over. over_among most k k1 d d' l l' stop j.bytes (ended_lines j.bytes) (option_to_list (last_line (fed nothing_fed j.bytes).begun)) g j.consumes (sym (all_lines_given j.bytes)) j.among over)
      (full_room stop (disk.room d) (l.gate + records_length (kept_of j.among.done)) (kept_of j.among.begun) j.among.stops.full)
  over_journal k k1 d d' l l' stop g (inr j) =
      if_known (room_at stop (disk.room d)) (λ most. IsOver most (l.gate + records_length (kept_of j.among.done)) (kept_of j.among.begun)) NoRoom
      (λ most over. over_among most k k1 d d' l l' stop j.bytes (lines_of j.bytes) [] g j.consumes (sym (append-nil (lines_of j.bytes))) j.among over)
      (full_room stop (disk.room d) (l.gate + records_length (kept_of j.among.done)) (kept_of j.among.begun) j.among.stops.full)

  module _ (k k1 : K) (d d' : D) (l l' : LogState) (g : l.gate ≡ closed_gate before) where
    over_stored : (stop : Stop) → StopsStored source sink disk session (i, k, d, l) (i', k1, d', l') (option_to_list version) t stop
        → IfSome (room_at stop (disk.room d)) NoRoom
    over_stored stop (inl s) =
        let v = option_to_list version in
        if_known (room_at stop (disk.room d)) (λ most. IsOver most (l.gate + records_length []) v) NoRoom
        (λ most over. record {
          bytes = [];
          consumes = took_none source i i' s.1;
          lines = [];
          rest = [];
          parts = refl;
          steps = [];
          is_run = refl;
          no_room = no_room_of most (l.gate + records_length []) before [] v (v ++ []) (gate_behind l.gate before [] g) (append-nil v) over;
        })
        (full_room stop (disk.room d) (l.gate + records_length []) v s.2.full)
    over_stored stop (inr s) =
        subst (λ (o : Option ℕ). IfSome (room_at stop o) NoRoom) s.adds.same_room
        (over_journal k k1 s.d1 d' s.l1 l' stop (s.adds.gate ∙ gate_behind l.gate before (option_to_list version) g) s.goes_on)

    at_stop : (stop : Stop) → StopsStored source sink disk session (i, k, d, l) (i', k1, d', l') (option_to_list version) t stop
        → IsCauseInRoom source session i i' (disk.room d) before t version (status_of stop)
    at_stop LogFull s = over_stored LogFull s
    at_stop DiskFault s = over_stored DiskFault s
    at_stop SinkFault s = tt
    at_stop NoMemory s = tt
    at_stop SourceFault (inl s) = absurd s.0
    at_stop SourceFault (inr s) = elim s.goes_on [ inl j ↦ record { bytes = j.bytes; consumes = j.consumes; within = j.all.1 } | inr j ↦ absurd j.own ]
    at_stop TooLong (inl s) = absurd s.0
    at_stop TooLong (inr s) = elim s.goes_on [ inl j ↦ record { bytes = j.bytes; consumes = j.consumes; over = omega (arith, j.all.1, j.at_most) } | inr j ↦ absurd j.own ]

  at_end : (b : Bool) (o : Option ℕ) → TakesWithin source i i' → IsCauseInRoom source session i i' o before t version (status_at_end b)
  at_end true o h = h
  at_end false o h = h

  at_status : (status other : Status) (o : Option ℕ) → status ≡ other → IsCauseInRoom source session i i' o before t version other → IsCauseInRoom source session i i' o before t version status
  at_status status other o e h = subst (λ (s : Status). IsCauseInRoom source session i i' o before t version s) (sym e) h

  at_exit : (k k' : K) (d d' : D) (l l' : LogState) (t' : session.State) (status : Status) → l.gate ≡ closed_gate before
      → ExitsApply source sink disk session (i, k, d, l) (i', k', d', l') (option_to_list version) t t' status
      → IsCauseInRoom source session i i' (disk.room d) before t version status
  at_exit k k' d d' l l' t' status g (inl c) = at_status status (status_at_end (any_line_refused c.steps)) (disk.room d) c.ended (at_end (any_line_refused c.steps) (disk.room d) (record { bytes = c.bytes; consumes = c.consumes; within = c.within }))
  at_exit k k' d d' l l' t' status g (inr (inl e)) = elim e.short [
    | inl x ↦ at_status status ending.NoMemory (disk.room d) x.0 tt
    | inr x ↦ at_status status ending.SinkFault (disk.room d) x.0 tt
  ]
  at_exit k k' d d' l l' t' status g (inr (inr e)) = elim e.status_is [
    | inl x ↦ at_status status (status_of e.stop) (disk.room d) x.0 (at_stop k e.k1 d d' l l' g e.stop e.stops)
    | inr x ↦ at_status status ending.SinkFault (disk.room d) x.1 tt
  ]

  pub apply_cause : (k k' : K) (d d' : D) (bytes : List ℕ) (status : Status) → disk.content d ≡ Some bytes
      → EndsCall source sink disk session (devices_of i k d) (devices_of i' k' d') before t version status
      → IsCauseInRoom source session i i' (disk.room d) before t version status
  apply_cause k k' d d' bytes status told (inl o) =
      let g = gate_of (disk.content o.d1) (disk.images o.d1) o.log before bytes (o.opens.unwritten.same ∙ told) o.stands in
      subst (λ (x : Option ℕ). IsCauseInRoom source session i i' x before t version status) o.opens.same_room (at_exit k k' o.d1 d' o.log o.log' o.t' status g o.exits)
  apply_cause k k' d d' bytes status told (inr u) = elim u.2.0.0 [
    | inl e ↦ at_status status ending.DiskFault (disk.room d) e (none_some (disk.room d) NoRoom (u.2.1 e))
    | inr e ↦ at_status status ending.NoMemory (disk.room d) e tt
  ]

  -- a status that has no cause does not come
  pub apply_complete : (status : Status) (o : Option ℕ) → IsCauseInRoom source session i i' o before t version status
      → (status ≡ ending.SourceFault → ⊥) → (status ≡ ending.SinkFault → ⊥) → (status ≡ ending.DiskFault → ⊥) → (TakesTooMany source i i' → ⊥) → (NoRoom most_bytes → ⊥)
      → IsFinished status ⊎ (status ≡ ending.NoMemory)
  apply_complete ending.Done o h at_source at_sink at_disk many none = inl (inl refl)
  apply_complete ending.SomeRefused o h at_source at_sink at_disk many none = inl (inr refl)
  apply_complete ending.StoreRefused o h at_source at_sink at_disk many none = absurd (none h)
  apply_complete ending.SourceFault o h at_source at_sink at_disk many none = absurd (at_source refl)
  apply_complete ending.SinkFault o h at_source at_sink at_disk many none = absurd (at_sink refl)
  apply_complete ending.DiskFault o h at_source at_sink at_disk many none = absurd (at_disk refl)
  apply_complete ending.InputTooLong o h at_source at_sink at_disk many none = absurd (many h)
  apply_complete ending.NoMemory o h at_source at_sink at_disk many none = inr refl
  apply_complete ending.Usage o h at_source at_sink at_disk many none = absurd h
  apply_complete ending.ProgramRefused o h at_source at_sink at_disk many none = absurd h

-- ---- a payload behind others, and a line

module _ {K D : Type 0} (sink : OfSink.Ghosts K) (disk : OfDisk.Ghosts D) where
  over_stops : (k k1 : K) (d d' : D) (l l' : LogState) (before front : Payloads) (payload line : List ℕ) (stop : Stop) → l.gate ≡ closed_gate before
      → StopsStoring sink disk (k, d, l) (k1, d', l') stop [] [] [] front
      ⊎ StopsStoring sink disk (k, d, l) (k1, d', l') stop [] line front (payload ∷ [])
      → IfSome (room_at stop (disk.room d)) (λ most. HasNoRoom most before (front ++ payload ∷ []))
  over_stops k k1 d d' l l' before front payload line stop g (inl s) =
      if_known (room_at stop (disk.room d)) (λ most. IsOver most (l.gate + records_length []) front) (λ most. HasNoRoom most before (front ++ payload ∷ []))
      (λ most over. no_room_of most (l.gate + records_length []) before [] (front ++ payload ∷ []) (front ++ payload ∷ []) (gate_behind l.gate before [] g) refl (over_more most (l.gate + records_length []) front (payload ∷ []) over))
      (full_room stop (disk.room d) (l.gate + records_length []) front s.full)
  over_stops k k1 d d' l l' before front payload line stop g (inr s) =
      if_known (room_at stop (disk.room d)) (λ most. IsOver most (l.gate + records_length front) (payload ∷ [])) (λ most. HasNoRoom most before (front ++ payload ∷ []))
      (λ most over. no_room_of most (l.gate + records_length front) before front (payload ∷ []) (front ++ payload ∷ []) (gate_behind l.gate before front g) refl over)
      (full_room stop (disk.room d) (l.gate + records_length front) (payload ∷ []) s.full)

  store_stop : (stop : Stop) (o : Option ℕ) (R : ℕ → Type 0) → IsOwnStop stop → IfSome (room_at stop o) R → IsStoreCause (status_of stop) (R most_bytes) (IfSome o R)
  store_stop LogFull o R own h = h
  store_stop DiskFault o R own h = h
  store_stop SinkFault o R own h = tt
  store_stop NoMemory o R own h = tt
  store_stop SourceFault o R own h = absurd own
  store_stop TooLong o R own h = absurd own

  pub at_other : (status other : Status) (P Q : Type 0) → status ≡ other → IsStoreCause other P Q → IsStoreCause status P Q
  at_other status other P Q e h = subst (λ (s : Status). IsStoreCause s P Q) (sym e) h

  pub store_cause : (k k' : K) (d d' : D) (l l' : LogState) (before front : Payloads) (payload line : List ℕ) (status : Status) → l.gate ≡ closed_gate before
      → StoreEnds sink disk (k, d, l) (k', d', l') line front payload status
      → IsStoreCause status (HasNoRoom most_bytes before (front ++ payload ∷ [])) (IfSome (disk.room d) (λ most. HasNoRoom most before (front ++ payload ∷ [])))
  store_cause k k' d d' l l' before front payload line status g (inl h) =
      at_other status ending.Done (HasNoRoom most_bytes before (front ++ payload ∷ [])) (IfSome (disk.room d) (λ most. HasNoRoom most before (front ++ payload ∷ []))) h.0 tt
  store_cause k k' d d' l l' before front payload line status g (inr s) =
      let P = HasNoRoom most_bytes before (front ++ payload ∷ []) in
      let Q = IfSome (disk.room d) (λ most. HasNoRoom most before (front ++ payload ∷ [])) in
      elim s.status_is [
        | inl x ↦ at_other status (status_of s.stop) P Q x.0 (store_stop s.stop (disk.room d) (λ most. HasNoRoom most before (front ++ payload ∷ [])) s.own (over_stops k s.k1 d d' l l' before front payload line s.stop g s.stops))
        | inr x ↦ at_other status ending.SinkFault P Q x.1 tt
      ]

  -- ---- `pack`

  module _ {A : Type 0} (session : OfSession.Ghosts A) (before : Payloads) (t : session.State) (version : Option (List ℕ)) where
    pack_of : (s : Status) (o : Option ℕ) → session.has_snapshot t
        → IsStoreCause s (HasNoRoom most_bytes before (packed session t version)) (IfSome o (λ most. HasNoRoom most before (packed session t version))) → IsPackCauseInRoom session o before t version s
    pack_of ending.StoreRefused o has h = (has, h)
    pack_of ending.DiskFault o has h = if_known o (λ most. HasNoRoom most before (packed session t version)) (λ most. PackHasNoRoom session most before t version) (λ most n. (has, n)) h
    pack_of ending.SourceFault o has h = h
    pack_of ending.InputTooLong o has h = h
    pack_of ending.Usage o has h = h
    pack_of ending.ProgramRefused o has h = h
    pack_of ending.SomeRefused o has h = h
    pack_of ending.Done o has h = tt
    pack_of ending.SinkFault o has h = tt
    pack_of ending.NoMemory o has h = tt

    pub pack_cause : (k k' : K) (d d' : D) (bytes : List ℕ) (status : Status) → disk.content d ≡ Some bytes
        → EndsPack sink disk session (k, d) (k', d') before t version status
        → IsPackCauseInRoom session (disk.room d) before t version status
    pack_cause k k' d d' bytes status told (inl p) =
        let e = p.ends in
        let g = gate_of (disk.content e.d1) (disk.images e.d1) e.log before bytes (e.opens.unwritten.same ∙ told) e.stands in
        subst (λ (o : Option ℕ). IsPackCauseInRoom session o before t version status) e.opens.same_room
        (pack_of status (disk.room e.d1) p.has (store_cause k k' e.d1 d' e.log e.log' before (option_to_list version) (session.snapshot_text t) (packed_line (session.count_of before)) status g e.ends))
    pack_cause k k' d d' bytes status told (inr u) = elim u.1.0.0 [
      | inl e ↦ subst (λ (s : Status). IsPackCauseInRoom session (disk.room d) before t version s) (sym e) (none_some (disk.room d) (λ most. PackHasNoRoom session most before t version) (u.1.1 e))
      | inr e ↦ subst (λ (s : Status). IsPackCauseInRoom session (disk.room d) before t version s) (sym e) tt
    ]

-- ---- a status that has no cause does not come

pub pack_complete : {A : Type 0} (session : OfSession.Ghosts A) (status : Status) (o : Option ℕ) (before : Payloads) (t : session.State) (version : Option (List ℕ)) → IsPackCauseInRoom session o before t version status
    → (status ≡ ending.SinkFault → ⊥) → (status ≡ ending.DiskFault → ⊥) → (PackHasNoRoom session most_bytes before t version → ⊥) → (status ≡ ending.Done) ⊎ (status ≡ ending.NoMemory)
pack_complete session ending.Done o before t version h at_sink at_disk none = inl refl
pack_complete session ending.NoMemory o before t version h at_sink at_disk none = inr refl
pack_complete session ending.StoreRefused o before t version h at_sink at_disk none = absurd (none h)
pack_complete session ending.SinkFault o before t version h at_sink at_disk none = absurd (at_sink refl)
pack_complete session ending.DiskFault o before t version h at_sink at_disk none = absurd (at_disk refl)
pack_complete session ending.SomeRefused o before t version h at_sink at_disk none = absurd h
pack_complete session ending.SourceFault o before t version h at_sink at_disk none = absurd h
pack_complete session ending.InputTooLong o before t version h at_sink at_disk none = absurd h
pack_complete session ending.Usage o before t version h at_sink at_disk none = absurd h
pack_complete session ending.ProgramRefused o before t version h at_sink at_disk none = absurd h

pub views_complete : {K : Type 0} (sink : OfSink.Ghosts K) (old new : K) (text : List ℕ) (status : Status) → Views sink old new text status → (status ≡ ending.SinkFault → ⊥) → (status ≡ ending.DiskFault → ⊥) → (status ≡ ending.Done) ⊎ (status ≡ ending.NoMemory)
views_complete sink old new text status (inl h) at_sink at_disk = inl h.0
views_complete sink old new text status (inr (inl h)) at_sink at_disk = absurd (at_sink h.0)
views_complete sink old new text status (inr (inr h)) at_sink at_disk = elim h.0 [ inl e ↦ absurd (at_disk e) | inr e ↦ inr e ]
