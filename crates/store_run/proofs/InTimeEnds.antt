-- However a call ends, it has answered in time.
use Rattle.std.proofs.Common.{◌≡◌, ◌⊎◌, ◌-◌, inl, inr, ℕ, List, [], ◌++◌, length, take, Option, Some, refl, sym, subst, append-nil}
use Rattle.std.specs.Prelude.{option_to_list}
use Rattle.std.proofs.KnownBytes.{Appends-trans}
use Rattle.std.proofs.Math.Seq.{take-append_seam}
use Rattle.lens_io.specs.Calls.{Took, IsUnasked, Gave}
use Rattle.lens_io.specs.declared.source.Source as OfSource
use Rattle.lens_io.specs.declared.sink.Sink as OfSink
use Rattle.lens_io.specs.declared.disk.Disk as OfDisk
use Rattle.edit_journal.specs.Pieces.{lines_of}
use Rattle.edit_journal.specs.declared.line.Line.{Line}
use Rattle.gate_log.specs.LogOnDisk.{LogState}
use Rattle.script_input.specs.Taking.{GaveFew}
use Rattle.script_input.specs.declared.limits.TheConstants.{PIECE_BYTES}
use Rattle.store_run.specs.Devices.{devices_of}
use Rattle.store_run.specs.Answered.{AllAt, AnswersEndedLines}
use Rattle.script_input.specs.Coming.{ended_lines}
use Rattle.store_run.specs.ApplyCall.{EndsCall}
use Rattle.store_run.specs.Effects.{GivesAt}
use Rattle.store_run.specs.ApplyEnds.{log_full_line, said_at, status_of, SaysStop, ExitsApply}
use Rattle.store_run.specs.InTime.{EndsAtSource, StoreAnswersInTime}
use Rattle.store_run.specs.JournalEnds.{StopsJournal}
use Rattle.store_run.specs.StoreRuns.{run_in_store, AreAnsweredIn, text_of}
use Rattle.store_run.specs.declared.session.StoredAnswer.{StoredAnswer}
use Rattle.store_run.specs.declared.session.StoredSession as OfSession
use Rattle.command_ends.specs.declared.status.Status.{Status}
use Rattle.command_ends.specs.declared.status.Status.TheVariants as ending
use Rattle.store_run.specs.declared.stop.Stop.{Stop}
use Rattle.store_run.specs.declared.stop.Stop.TheVariants.{LogFull, SourceFault, SinkFault, DiskFault, TooLong, NoMemory}
use Rattle.store_run.proofs.InTime.{answered_ended, answered_longer, answered_take, took_none}
use Rattle.store_run.proofs.RunParts.{goes_run}

-- the stop is one of the source where the status is
all_at : (stop : Stop) (taken : ℕ) (rest : List Line) (P : Type 0) (status : Status) → AllAt stop taken rest P → status ≡ status_of stop → EndsAtSource status → P
all_at SourceFault taken rest P status h e at = h.2
all_at TooLong taken rest P status h e at = h.2
all_at LogFull taken rest P status h e (inl f) = cc
all_at LogFull taken rest P status h e (inr f) = cc
all_at SinkFault taken rest P status h e (inl f) = cc
all_at SinkFault taken rest P status h e (inr f) = cc
all_at DiskFault taken rest P status h e (inl f) = cc
all_at DiskFault taken rest P status h e (inr f) = cc
all_at NoMemory taken rest P status h e (inl f) = cc
all_at NoMemory taken rest P status h e (inr f) = cc

never_at_source : (status other : Status) (P : Type 0) → status ≡ other → (other ≡ ending.SinkFault) ⊎ (other ≡ ending.DiskFault) ⊎ (other ≡ ending.NoMemory) → EndsAtSource status → P
never_at_source status other P e (inl f) (inl h) = cc
never_at_source status other P e (inl f) (inr h) = cc
never_at_source status other P e (inr (inl f)) (inl h) = cc
never_at_source status other P e (inr (inl f)) (inr h) = cc
never_at_source status other P e (inr (inr f)) (inl h) = cc
never_at_source status other P e (inr (inr f)) (inr h) = cc

module _ {K : Type 0} (sink : OfSink.Ghosts K) where
  -- what was written at a stop begins with what is done
  gives_some : (stop : Stop) (k k' : K) (done begun : List ℕ) → GivesAt sink k k' stop done begun → (more : List ℕ) × Gave sink k k' (done ++ more)
  gives_some SinkFault k k' done begun g = (g.0, g.2)
  gives_some LogFull k k' done begun g = ([], subst (Gave sink k k') (sym (append-nil done)) g)
  gives_some SourceFault k k' done begun g = ([], subst (Gave sink k k') (sym (append-nil done)) g)
  gives_some DiskFault k k' done begun g = ([], subst (Gave sink k k') (sym (append-nil done)) g)
  gives_some TooLong k k' done begun g = ([], subst (Gave sink k k') (sym (append-nil done)) g)
  gives_some NoMemory k k' done begun g = ([], subst (Gave sink k k') (sym (append-nil done)) g)

  says_some : (k k' : K) (stop : Stop) (status : Status) → SaysStop sink k k' stop status → (more : List ℕ) × Gave sink k k' more
  says_some k k' stop status (inl h) = (said_at stop, h.1)
  says_some k k' stop status (inr h) = (take h.2.0 log_full_line, h.2.2)

  -- no stop of the source is followed by a prefix of a line
  says_all : (k k' : K) (stop : Stop) (taken : ℕ) (rest : List Line) (P : Type 0) (status : Status) → SaysStop sink k k' stop status → AllAt stop taken rest P → EndsAtSource status → P
  says_all k k' stop taken rest P status (inl h) all at = all_at stop taken rest P status all h.0 at
  says_all k k' stop taken rest P status (inr h) all at = never_at_source status ending.SinkFault P h.1 (inl refl) at

module _ {S K D A : Type 0} (source : OfSource.Ghosts S) (sink : OfSink.Ghosts K) (disk : OfDisk.Ghosts D) (session : OfSession.Ghosts A) where
  -- the journal was read to its end, its lines were answered, and this was written behind
  module _ (i i' : S) (k k' : K) (t : session.State) (status : Status) (few : GaveFew source i i' PIECE_BYTES) where
    read_in_time : (bytes : List ℕ) (steps : List (session.State × StoredAnswer)) (more : List ℕ) → Took source i i' bytes → run_in_store session t 0 (lines_of bytes) ≡ Some steps → Gave sink k k' (text_of steps ++ more)
        → StoreAnswersInTime source sink session (i, k) (i', k') t status
    read_in_time bytes steps more took is_run gave =
        let given = text_of steps ++ more in
        let all_answered = answered_ended session t 0 bytes given (record { steps = steps; is_run = is_run; written = take-append_seam (text_of steps) more }) in
        record {
          bytes = bytes;
          took = took;
          few = few;
          given = given;
          gave = gave;
          first = inr (answered_take session t 0 (length bytes - source.last i') bytes given all_answered);
          all = λ _. all_answered;
        }

    -- nothing was taken
    unasked_in_time : (given : List ℕ) → IsUnasked source i i' → Gave sink k k' given → StoreAnswersInTime source sink session (i, k) (i', k') t status
    unasked_in_time given unasked gave = record {
      bytes = [];
      took = took_none source i i' unasked;
      few = few;
      given = given;
      gave = gave;
      first = inl unasked;
      all = λ _. record { steps = []; is_run = refl; written = refl };
    }

    first_longer : (bytes text more : List ℕ) → AnswersEndedLines source session i i' t 0 bytes text → AnswersEndedLines source session i i' t 0 bytes (text ++ more)
    first_longer bytes text more (inl unasked) = inl unasked
    first_longer bytes text more (inr h) = inr (answered_longer session t 0 _ text more h)

    -- the answering stopped, and this was written behind
    stopped_in_time : (k1 : K) (d d' : D) (l l' : LogState) (stop : Stop) → StopsJournal source sink disk session (i, k, d, l) (i', k1, d', l') t 0 stop → SaysStop sink k1 k' stop status
        → StoreAnswersInTime source sink session (i, k) (i', k') t status
    stopped_in_time k1 d d' l l' stop (inl j) says =
        let done = text_of j.among.done in
        let front = gives_some sink stop k k1 done (text_of j.among.begun) j.among.stops.given in
        let behind = says_some sink k1 k' stop status says in
        record {
          bytes = j.bytes;
          took = j.consumes;
          few = few;
          given = (done ++ front.0) ++ behind.0;
          gave = Appends-trans (sink.held k) (sink.held k1) (sink.held k') (done ++ front.0) behind.0 front.1 behind.1;
          first = first_longer j.bytes (done ++ front.0) behind.0 (first_longer j.bytes done front.0 j.first);
          all = λ at.
              answered_longer session t 0 (ended_lines j.bytes) (done ++ front.0) behind.0 (answered_longer session t 0 (ended_lines j.bytes) done front.0
              (says_all sink k1 k' stop (length j.bytes) j.among.rest (AreAnsweredIn session t 0 (ended_lines j.bytes) done) status says j.all at));
        }
    stopped_in_time k1 d d' l l' stop (inr j) says =
        let done = text_of j.among.done in
        let front = gives_some sink stop k k1 done (text_of j.among.begun) j.among.stops.given in
        let behind = says_some sink k1 k' stop status says in
        let all_answered = answered_longer session t 0 (ended_lines j.bytes) (done ++ front.0) behind.0 (answered_longer session t 0 (ended_lines j.bytes) done front.0 j.first) in
        record {
          bytes = j.bytes;
          took = j.consumes;
          few = few;
          given = (done ++ front.0) ++ behind.0;
          gave = Appends-trans (sink.held k) (sink.held k1) (sink.held k') (done ++ front.0) behind.0 front.1 behind.1;
          first = inr (answered_take session t 0 (length j.bytes - source.last i') j.bytes ((done ++ front.0) ++ behind.0) all_answered);
          all = λ _. all_answered;
        }

  pub exits_in_time : (i i' : S) (k k' : K) (d d' : D) (l l' : LogState) (version : List (List ℕ)) (t t' : session.State) (status : Status) → GaveFew source i i' PIECE_BYTES → ExitsApply source sink disk session (i, k, d, l) (i', k', d', l') version t t' status
      → StoreAnswersInTime source sink session (i, k) (i', k') t status
  exits_in_time i i' k k' d d' l l' version t t' status few (inl c) = read_in_time i i' k k' t status few c.bytes c.steps (session.state_text t') c.consumes c.is_run c.given
  exits_in_time i i' k k' d d' l l' version t t' status few (inr (inl e)) =
      let j = e.ends.goes_on in
      let a = j.answers in
      let behind : (more : List ℕ) × Gave sink e.k1 k' more = elim e.short [ inl h ↦ ([], h.1) | inr h ↦ (take h.1.0 (session.state_text t'), h.1.2) ] in
      read_in_time i i' k k' t status few j.bytes a.steps behind.0 j.consumes (goes_run session t t' 0 e.progress.number (lines_of j.bytes) a.steps a.goes)
      (Appends-trans (sink.held k) (sink.held e.k1) (sink.held k') (text_of a.steps) behind.0 a.adds.given behind.1)
  exits_in_time i i' k k' d d' l l' version t t' status few (inr (inr e)) = elim e.stops [
    | inl s ↦ (
        let front = gives_some sink e.stop k e.k1 [] [] s.2.given in
        let behind = says_some sink e.k1 k' e.stop status e.status_is in
        unasked_in_time i i' k k' t status few (front.0 ++ behind.0) s.1 (Appends-trans (sink.held k) (sink.held e.k1) (sink.held k') front.0 behind.0 front.1 behind.1)
        )
    | inr s ↦ stopped_in_time i i' k k' t status few e.k1 s.d1 d' s.l1 l' e.stop s.goes_on e.status_is
  ]

  -- the call from the opening on
  pub call_in_time : (i i' : S) (k k' : K) (d d' : D) (before : List (List ℕ)) (t : session.State) (version : Option (List ℕ)) (status : Status) → GaveFew source i i' PIECE_BYTES
      → EndsCall source sink disk session (devices_of i k d) (devices_of i' k' d') before t version status → StoreAnswersInTime source sink session (i, k) (i', k') t status
  call_in_time i i' k k' d d' before t version status few (inl o) = exits_in_time i i' k k' o.d1 d' o.log o.log' (option_to_list version) t o.t' status few o.exits
  call_in_time i i' k k' d d' before t version status few (inr u) = unasked_in_time i i' k k' t status few [] u.1 u.2.0.1
