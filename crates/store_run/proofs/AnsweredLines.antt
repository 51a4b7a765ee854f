-- Answering some lines and then others, and how that stops.
use Rattle.std.proofs.Common.{◌≡◌, ◌⊎◌, ℕ, ◌+◌, ◌-◌, ◌≤◌, List, [], ◌∷◌, ◌++◌, length, Bool, true, false, ◌||◌, not, inl, inr, Some, Result, Ok, Err, refl, sym, ap, ap₂, subst, ◌∙◌, append_assoc, append-nil, arith, length-append}
use Rattle.std.specs.Prelude.{option_to_list, is_some}
use Rattle.std.proofs.KnownBytes.{Consumes-nil, Consumes-trans}
use Rattle.lens_io.specs.declared.failed.TakeFault.{TakeFault}
use Rattle.lens_io.specs.declared.failed.TakeFault.TheVariants as taking
use Rattle.lens_io.specs.Calls.{Took, IsUnasked, before_last}
use Rattle.lens_io.specs.DiskRuns.{LeavesOnly}
use Rattle.lens_io.specs.declared.source.Source as OfSource
use Rattle.lens_io.specs.declared.sink.Sink as OfSink
use Rattle.lens_io.specs.declared.disk.Disk as OfDisk
use Rattle.gate_log.specs.LogBytes.{records_length}
use Rattle.gate_log.specs.LogOnDisk.{LogState, HoldsPayloads}
use Rattle.gate_log.specs.Steps.{KeepsBehind}
use Rattle.gate_log.proofs.Behind.{none_keeps}
use Rattle.lens_io.specs.Disks.{Steps}
use Rattle.edit_journal.specs.Lines.{is_blank}
use Rattle.edit_journal.specs.Pieces.{FedLines, nothing_fed, fed}
use Rattle.edit_journal.specs.declared.line.Line.{Line}
use Rattle.edit_journal.proofs.Feeding.{lines_at, joins, in_front}
use Rattle.script_input.specs.Taking.{TakenInput, TakesMore, TakesNone, StopsAt, CallsOnce}
use Rattle.script_input.specs.declared.limits.TheConstants.{MOST_BYTES}
use Rattle.script_input.proofs.LastCalls.{but_last}
use Rattle.store_run.specs.Answered.{Answers, StopsAmong, AllAt, AnswersEndedLines, StopsPieces, EndsPieces, ComesOn, AnswersThenTakes, StopsTurn}
use Rattle.script_input.specs.Coming.{ended_lines}
use Rattle.store_run.specs.Effects.{HoldsFirst, StandsOn, Adds, StopsStoring}
use Rattle.store_run.specs.OkLines.{IsAnswer}
use Rattle.store_run.specs.StoreRuns.{StoreGoesOver, AreSteps, AreAnsweredIn, last_stored, text_of, kept_of}
use Rattle.store_run.specs.Stopping.{stop_of_input, IsOwnStop}
use Rattle.store_run.specs.declared.session.StoredAnswer.{StoredAnswer}
use Rattle.store_run.specs.declared.session.StoredSession as OfSession
use Rattle.store_run.specs.declared.journal.StoreProgress.{StoreProgress}
use Rattle.store_run.specs.declared.stop.Stop.{Stop}
use Rattle.store_run.specs.declared.stop.Stop.TheVariants.{LogFull, SourceFault, SinkFault, DiskFault, TooLong, NoMemory}
use Rattle.store_run.proofs.Effects.{adds_none, adds_then, keeps_at, stops_then}
use Rattle.store_run.proofs.RunParts.{text_append, kept_append, refused_then, last_append, chain_append, are_append, goes_none, goes_then, goes_blank, goes_one}
use Rattle.store_run.proofs.InTime.{answered_first, answered_longer, answered_by, answered_take}
use Rattle.texts.proofs.Tests.{or_false}

abbrev pub progress_at : ℕ → Bool → StoreProgress
progress_at number refused = record { number = number; refused = refused }

module _ {K D A : Type 0} (sink : OfSink.Ghosts K) (disk : OfDisk.Ghosts D) (session : OfSession.Ghosts A)
    (only_now : (d : D) (c : List ℕ) → disk.images_since d (disk.moment d) c → disk.images d c)
    (images_hold : (l : LogState) (d : D) (base : List (List ℕ)) (c : List ℕ) → StandsOn disk d l base → disk.images d c → HoldsPayloads base c) where
  adds_as : (k k' : K) (d d' : D) (l l' : LogState) (text text' : List ℕ) (kept kept' : List (List ℕ)) → text ≡ text' → kept ≡ kept'
      → Adds sink disk (k, d, l) (k', d', l') text kept → Adds sink disk (k, d, l) (k', d', l') text' kept'
  adds_as k k' d d' l l' text text' kept kept' e f h =
      subst (λ (x : List (List ℕ)). Adds sink disk (k, d, l) (k', d', l') text' x) f (subst (λ (x : List ℕ). Adds sink disk (k, d, l) (k', d', l') x kept) e h)

  pub stops_as : (k k' : K) (d d' : D) (l l' : LogState) (stop : Stop) (done done' begun begun' : List ℕ) (kept kept' more more' : List (List ℕ)) → done ≡ done' → begun ≡ begun' → kept ≡ kept' → more ≡ more'
      → StopsStoring sink disk (k, d, l) (k', d', l') stop done begun kept more → StopsStoring sink disk (k, d, l) (k', d', l') stop done' begun' kept' more'
  stops_as k k' d d' l l' stop done done' begun begun' kept kept' more more' e f i j h =
      subst (λ (x : List (List ℕ)). StopsStoring sink disk (k, d, l) (k', d', l') stop done' begun' kept' x) j
      (subst (λ (x : List (List ℕ)). StopsStoring sink disk (k, d, l) (k', d', l') stop done' begun' x more) i
      (subst (λ (x : List ℕ). StopsStoring sink disk (k, d, l) (k', d', l') stop done' x kept more) f
      (subst (λ (x : List ℕ). StopsStoring sink disk (k, d, l) (k', d', l') stop x begun kept more) e h)))

  -- out of memory before anything was given or stored
  pub stops_none : (k : K) (d : D) (l : LogState) (begun : List ℕ) (more : List (List ℕ)) → StopsStoring sink disk (k, d, l) (k, d, l) NoMemory [] begun [] more
  stops_none k d l begun more =
      let none = adds_none sink disk only_now images_hold k d l in
      record { given = none.given; stored = none.stored; moments = none.moments; full = tt; behind = none_keeps (l.gate + 0 + records_length more + 1) (disk.content d) }

  -- ---- lines

  pub answers_none : (k : K) (d : D) (l : LogState) (t : session.State) (p : StoreProgress) → Answers sink disk session (k, d, l) (k, d, l) t p [] t p
  answers_none k d l t p = record {
    steps = [];
    goes = goes_none session t p.number;
    at_last = refl;
    chain = tt;
    are = tt;
    refused = sym (or_false p.refused);
    adds = adds_none sink disk only_now images_hold k d l;
  }

  pub answers_blank : (k : K) (d : D) (l : LogState) (t : session.State) (p : StoreProgress) (line : Line) → is_blank line ≡ true → Answers sink disk session (k, d, l) (k, d, l) t p (line ∷ []) t p
  answers_blank k d l t p line blank = record {
    steps = [];
    goes = goes_blank session t p.number line blank;
    at_last = refl;
    chain = tt;
    are = tt;
    refused = sym (or_false p.refused);
    adds = adds_none sink disk only_now images_hold k d l;
  }

  pub answers_one : (k k' : K) (d d' : D) (l l' : LogState) (t t' : session.State) (p p' : StoreProgress) (line : Line) (a : StoredAnswer) → is_blank line ≡ false → session.answer t (p.number + 1) line ≡ Some (t', a) → session.is_step t (p.number + 1) line (t', a) → IsAnswer a
      → p'.number ≡ p.number + 1 → p'.refused ≡ (p.refused || not (is_some a.payload))
      → Adds sink disk (k, d, l) (k', d', l') a.line (option_to_list a.payload)
      → Answers sink disk session (k, d, l) (k', d', l') t p (line ∷ []) t' p'
  answers_one k k' d d' l l' t t' p p' line a full e made is number refused h = record {
    steps = (t', a) ∷ [];
    goes = subst (λ (n : ℕ). StoreGoesOver session t p.number (line ∷ []) ((t', a) ∷ []) t' n) (sym number) (goes_one session t t' p.number line a full e);
    at_last = refl;
    chain = ((p.number + 1, line, e, made), tt);
    are = (is, tt);
    refused = refused ∙ ap (λ b. p.refused || b) (sym (or_false (not (is_some a.payload))));
    adds = adds_as k k' d d' l l' a.line (a.line ++ []) (option_to_list a.payload) (option_to_list a.payload ++ []) (sym (append-nil a.line)) (sym (append-nil (option_to_list a.payload))) h;
  }

  pub answers_then : (k k' k'' : K) (d d' d'' : D) (l l' l'' : LogState) (t t' t'' : session.State) (p p' p'' : StoreProgress) (lines more : List Line)
      → Answers sink disk session (k, d, l) (k', d', l') t p lines t' p' → Answers sink disk session (k', d', l') (k'', d'', l'') t' p' more t'' p''
      → Answers sink disk session (k, d, l) (k'', d'', l'') t p (lines ++ more) t'' p''
  answers_then k k' k'' d d' d'' l l' l'' t t' t'' p p' p'' lines more a b = record {
    steps = a.steps ++ b.steps;
    goes = goes_then session t t' t'' p.number p'.number p''.number lines more a.steps b.steps a.goes b.goes;
    at_last = last_append t a.steps b.steps ∙ ap (λ (u : session.State). last_stored u b.steps) a.at_last ∙ b.at_last;
    chain = chain_append session t t' a.steps b.steps a.at_last a.chain b.chain;
    are = are_append a.steps b.steps a.are b.are;
    refused = refused_then p.refused p'.refused p''.refused a.steps b.steps a.refused b.refused;
    adds = adds_as k k'' d d'' l l'' (text_of a.steps ++ text_of b.steps) (text_of (a.steps ++ b.steps)) (kept_of a.steps ++ kept_of b.steps) (kept_of (a.steps ++ b.steps))
        (sym (text_append a.steps b.steps)) (sym (kept_append a.steps b.steps))
        (adds_then sink disk only_now images_hold k k' k'' d d' d'' l l' l'' (text_of a.steps) (text_of b.steps) (kept_of a.steps) (kept_of b.steps) a.adds b.adds);
  }

  -- ---- stops

  -- at a line, before its answer was made
  pub stops_before : (k : K) (d : D) (l : LogState) (t : session.State) (n : ℕ) (among : List Line) → StopsAmong sink disk session (k, d, l) (k, d, l) t n among NoMemory
  stops_before k d l t n among = record {
    lines = [];
    rest = among;
    parts = refl;
    done = [];
    begun = [];
    t' = t;
    n' = n;
    goes = goes_none session t n;
    chain = tt;
    few = omega arith;
    are_done = tt;
    are_begun = tt;
    stops = stops_none k d l [] [];
  }

  -- at a line whose answer was made
  pub stops_at : (k k' : K) (d d' : D) (l l' : LogState) (t t' : session.State) (n : ℕ) (line : Line) (a : StoredAnswer) (stop : Stop) → is_blank line ≡ false → session.answer t (n + 1) line ≡ Some (t', a) → session.is_step t (n + 1) line (t', a) → IsAnswer a
      → StopsStoring sink disk (k, d, l) (k', d', l') stop [] a.line [] (option_to_list a.payload)
      → StopsAmong sink disk session (k, d, l) (k', d', l') t n (line ∷ []) stop
  stops_at k k' d d' l l' t t' n line a stop full e made is h = record {
    lines = line ∷ [];
    rest = [];
    parts = refl;
    done = [];
    begun = (t', a) ∷ [];
    t' = t';
    n' = n + 1;
    goes = goes_one session t t' n line a full e;
    chain = ((n + 1, line, e, made), tt);
    few = omega arith;
    are_done = tt;
    are_begun = (is, tt);
    stops = stops_as k k' d d' l l' stop [] [] a.line (a.line ++ []) [] [] (option_to_list a.payload) (option_to_list a.payload ++ []) refl (sym (append-nil a.line)) refl (sym (append-nil (option_to_list a.payload))) h;
  }

  -- with further lines behind those
  pub stops_longer : (k k' : K) (d d' : D) (l l' : LogState) (t : session.State) (n : ℕ) (among more : List Line) (stop : Stop) → StopsAmong sink disk session (k, d, l) (k', d', l') t n among stop
      → StopsAmong sink disk session (k, d, l) (k', d', l') t n (among ++ more) stop
  stops_longer k k' d d' l l' t n among more stop s = record {
    lines = s.lines;
    rest = s.rest ++ more;
    parts = ap (λ (x : List Line). x ++ more) s.parts ∙ append_assoc s.lines s.rest more;
    done = s.done;
    begun = s.begun;
    t' = s.t';
    n' = s.n';
    goes = s.goes;
    chain = s.chain;
    few = s.few;
    are_done = s.are_done;
    are_begun = s.are_begun;
    stops = s.stops;
  }

  -- the same lines in other words
  abbrev pub stops_among : (k k' : K) (d d' : D) (l l' : LogState) (t : session.State) (n : ℕ) (among among' : List Line) (stop : Stop) → among' ≡ among → StopsAmong sink disk session (k, d, l) (k', d', l') t n among stop
      → StopsAmong sink disk session (k, d, l) (k', d', l') t n among' stop
  stops_among k k' d d' l l' t n among among' stop e s = record {
    lines = s.lines;
    rest = s.rest;
    parts = e ∙ s.parts;
    done = s.done;
    begun = s.begun;
    t' = s.t';
    n' = s.n';
    goes = s.goes;
    chain = s.chain;
    few = s.few;
    are_done = s.are_done;
    are_begun = s.are_begun;
    stops = s.stops;
  }

  -- behind lines that were answered
  abbrev pub stops_behind : (k k' k'' : K) (d d' d'' : D) (l l' l'' : LogState) (t t' : session.State) (p p' : StoreProgress) (lines among : List Line) (stop : Stop)
      → Answers sink disk session (k, d, l) (k', d', l') t p lines t' p' → StopsAmong sink disk session (k', d', l') (k'', d'', l'') t' p'.number among stop
      → StopsAmong sink disk session (k, d, l) (k'', d'', l'') t p.number (lines ++ among) stop
  stops_behind k k' k'' d d' d'' l l' l'' t t' p p' lines among stop a s = record {
    lines = lines ++ s.lines;
    rest = s.rest;
    parts = ap (λ (x : List Line). lines ++ x) s.parts ∙ sym (append_assoc lines s.lines s.rest);
    done = a.steps ++ s.done;
    begun = s.begun;
    t' = s.t';
    n' = s.n';
    goes = subst (λ (x : List (session.State × StoredAnswer)). StoreGoesOver session t p.number (lines ++ s.lines) x s.t' s.n') (sym (append_assoc a.steps s.done s.begun))
        (goes_then session t t' s.t' p.number p'.number s.n' lines s.lines a.steps (s.done ++ s.begun) a.goes s.goes);
    chain = subst (λ (x : List (session.State × StoredAnswer)). AreSteps session t x) (sym (append_assoc a.steps s.done s.begun)) (chain_append session t t' a.steps (s.done ++ s.begun) a.at_last a.chain s.chain);
    few = s.few;
    are_done = are_append a.steps s.done a.are s.are_done;
    are_begun = s.are_begun;
    stops = stops_as k k'' d d'' l l'' stop (text_of a.steps ++ text_of s.done) (text_of (a.steps ++ s.done)) (text_of s.begun) (text_of s.begun) (kept_of a.steps ++ kept_of s.done) (kept_of (a.steps ++ s.done)) (kept_of s.begun) (kept_of s.begun)
        (sym (text_append a.steps s.done)) refl (sym (kept_append a.steps s.done)) refl
        (stops_then sink disk only_now images_hold k k' k'' d d' d'' l l' l'' stop (text_of a.steps) (text_of s.done) (text_of s.begun) (kept_of a.steps) (kept_of s.done) (kept_of s.begun) a.adds s.stops);
  }

  -- all lines are answered, and nothing is begun
  pub stops_all : (k k' : K) (d d' : D) (l l' : LogState) (t t' : session.State) (p p' : StoreProgress) (lines rest : List Line) (stop : Stop)
      → ((text : List ℕ) (kept : List (List ℕ)) → Adds sink disk (k, d, l) (k', d', l') text kept → StopsStoring sink disk (k, d, l) (k', d', l') stop text [] kept [])
      → Answers sink disk session (k, d, l) (k', d', l') t p lines t' p' → StopsAmong sink disk session (k, d, l) (k', d', l') t p.number (lines ++ rest) stop
  stops_all k k' d d' l l' t t' p p' lines rest stop f a = record {
    lines = lines;
    rest = rest;
    parts = refl;
    done = a.steps;
    begun = [];
    t' = t';
    n' = p'.number;
    goes = subst (λ (x : List (session.State × StoredAnswer)). StoreGoesOver session t p.number lines x t' p'.number) (sym (append-nil a.steps)) a.goes;
    chain = subst (λ (x : List (session.State × StoredAnswer)). AreSteps session t x) (sym (append-nil a.steps)) a.chain;
    few = omega arith;
    are_done = a.are;
    are_begun = tt;
    stops = f (text_of a.steps) (kept_of a.steps) a.adds;
  }

  adds_nil : (k k' : K) (d d' : D) (l l' : LogState) (text : List ℕ) (kept : List (List ℕ)) → Adds sink disk (k, d, l) (k', d', l') text kept
      → (base : List (List ℕ)) → StandsOn disk d l base → LeavesOnly disk d d' (HoldsFirst base (kept ++ []))
  adds_nil k k' d d' l l' text kept h = (adds_as k k' d d' l l' text text kept (kept ++ []) refl (sym (append-nil kept)) h).moments

  behind_all : (k k' : K) (d d' : D) (l l' : LogState) (text : List ℕ) (kept : List (List ℕ)) → Adds sink disk (k, d, l) (k', d', l') text kept
      → Steps (KeepsBehind (l.gate + records_length kept + 0 + 1)) (disk.content d) (disk.content d')
  behind_all k k' d d' l l' text kept h = keeps_at sink disk only_now images_hold d d' (l'.gate + 1) (l.gate + records_length kept + 0 + 1) (omega (arith, h.gate)) h.behind

  pub stops_of : (fault : TakeFault) (k k' : K) (d d' : D) (l l' : LogState) (text : List ℕ) (kept : List (List ℕ)) → Adds sink disk (k, d, l) (k', d', l') text kept
      → StopsStoring sink disk (k, d, l) (k', d', l') (stop_of_input fault) text [] kept []
  stops_of taking.SourceFault k k' d d' l l' text kept h = record { given = h.given; stored = h.stored; moments = adds_nil k k' d d' l l' text kept h; full = tt; behind = behind_all k k' d d' l l' text kept h }
  stops_of taking.TooLong k k' d d' l l' text kept h = record { given = h.given; stored = h.stored; moments = adds_nil k k' d d' l l' text kept h; full = tt; behind = behind_all k k' d d' l l' text kept h }
  stops_of taking.NoMemory k k' d d' l l' text kept h = record { given = h.given; stored = h.stored; moments = adds_nil k k' d d' l l' text kept h; full = tt; behind = behind_all k k' d d' l l' text kept h }

  -- out of memory behind lines that were answered
  pub stops_out : (k k' : K) (d d' : D) (l l' : LogState) (t t' : session.State) (p p' : StoreProgress) (lines rest : List Line)
      → Answers sink disk session (k, d, l) (k', d', l') t p lines t' p' → StopsAmong sink disk session (k, d, l) (k', d', l') t p.number (lines ++ rest) NoMemory
  stops_out k k' d d' l l' t t' p p' lines rest a = stops_all k k' d d' l l' t t' p p' lines rest NoMemory (stops_of taking.NoMemory k k' d d' l l') a

  -- ---- pieces

  pub all_own : (stop : Stop) (taken : ℕ) (rest : List Line) (P : Type 0) → IsOwnStop stop → AllAt stop taken rest P
  all_own SourceFault taken rest P own = absurd own
  all_own TooLong taken rest P own = absurd own
  all_own NoMemory taken rest P own = tt
  all_own LogFull taken rest P own = tt
  all_own DiskFault taken rest P own = tt
  all_own SinkFault taken rest P own = tt

  module _ {S : Type 0} (source : OfSource.Ghosts S) where
    pub comes_first : (i : S) (input : TakenInput) (k : K) (d : D) (l : LogState) (t : session.State) (p : StoreProgress) → input.lines ≡ nothing_fed → input.taken ≡ 0
        → ComesOn source sink disk session (i, k, d, l) (i, k, d, l) input t p t p
    comes_first i input k d l t p lines taken = record {
      bytes = [];
      consumes = Consumes-nil (source.left i);
      count = taken;
      lines = [];
      ended = ap (λ (f : FedLines). f.ended) (sym lines);
      begun = ap (λ (f : FedLines). f.begun) (sym lines);
      answers = answers_none k d l t p;
      first = inl refl;
    }

    module _ (i i' : S) (input : TakenInput) (k k' : K) (d d' : D) (l l' : LogState) (t t' : session.State) (p p' : StoreProgress)
        (c : ComesOn source sink disk session (i, k, d, l) (i', k', d', l') input t p t' p') where
      -- all lines that have ended are answered
      pub comes_over : (k'' : K) (d'' : D) (l'' : LogState) (t'' : session.State) (p'' : StoreProgress) (next : TakenInput) → Answers sink disk session (k', d', l') (k'', d'', l'') t' p' input.lines.ended t'' p''
          → next.lines ≡ lines_at [] input.lines.begun → next.taken ≡ input.taken → ComesOn source sink disk session (i, k, d, l) (i', k'', d'', l'') next t p t'' p''
      comes_over k'' d'' l'' t'' p'' next a lines taken = record {
        bytes = c.bytes;
        consumes = c.consumes;
        count = taken ∙ c.count;
        lines = c.lines ++ input.lines.ended;
        ended = c.ended ∙ sym (append-nil (c.lines ++ input.lines.ended)) ∙ ap (λ (f : FedLines). (c.lines ++ input.lines.ended) ++ f.ended) (sym lines);
        begun = c.begun ∙ ap (λ (f : FedLines). f.begun) (sym lines);
        answers = answers_then k k' k'' d d' d'' l l' l'' t t' t'' p p' p'' c.lines input.lines.ended c.answers a;
        first = first_longer c.first;
      } where
        first_longer : IsUnasked source i i' ⊎ (later : List Line) × (c.lines ≡ ended_lines (before_last source i i' c.bytes) ++ later)
            → IsUnasked source i i' ⊎ (later : List Line) × (c.lines ++ input.lines.ended ≡ ended_lines (before_last source i i' c.bytes) ++ later)
        first_longer (inl unasked) = inl unasked
        first_longer (inr h) = inr (h.0 ++ input.lines.ended, ap (λ (x : List Line). x ++ input.lines.ended) h.1 ∙ append_assoc (ended_lines (before_last source i i' c.bytes)) h.0 input.lines.ended)

      all_answered : AreAnsweredIn session t p.number c.lines (text_of c.answers.steps)
      all_answered = answered_by session t p.number t' p'.number c.lines c.answers.steps c.answers.goes

      -- the answering of the lines that have ended stopped
      pub stops_lines : (k'' : K) (d'' : D) (l'' : LogState) (stop : Stop) → input.taken ≤ MOST_BYTES + 1 → IsOwnStop stop → StopsAmong sink disk session (k', d', l') (k'', d'', l'') t' p'.number input.lines.ended stop
          → StopsPieces source sink disk session (i, k, d, l) (i', k'', d'', l'') t p.number stop
      stops_lines k'' d'' l'' stop few own s =
          let among = stops_among k k'' d d'' l l'' t p.number (c.lines ++ input.lines.ended) (ended_lines c.bytes) stop c.ended
          (stops_behind k k' k'' d d' d'' l l' l'' t t' p p' c.lines input.lines.ended stop c.answers s) in
          record { bytes = c.bytes; consumes = c.consumes; at_most = omega (arith, few, c.count); among = among; all = all_own stop (length c.bytes) among.rest (AreAnsweredIn session t p.number (ended_lines c.bytes) (text_of among.done)) own; first = first_behind (text_of s.done) (text_append c.answers.steps s.done) c.first }
        where
          first_behind : (more : List ℕ) → text_of (c.answers.steps ++ s.done) ≡ text_of c.answers.steps ++ more → IsUnasked source i i' ⊎ (later : List Line) × (c.lines ≡ ended_lines (before_last source i i' c.bytes) ++ later)
              → AnswersEndedLines source session i i' t p.number c.bytes (text_of (c.answers.steps ++ s.done))
          first_behind more e (inl unasked) = inl unasked
          first_behind more e (inr h) =
              let front = ended_lines (before_last source i i' c.bytes) in
              inr (subst (AreAnsweredIn session t p.number front) (sym e) (answered_longer session t p.number front (text_of c.answers.steps) more
              (answered_first session t p.number front h.0 (text_of c.answers.steps) (subst (λ (x : List Line). AreAnsweredIn session t p.number x (text_of c.answers.steps)) h.1 all_answered))))

      -- what feeding some bytes more leaves
      fed_more : (bytes : List ℕ) → fed nothing_fed (c.bytes ++ bytes) ≡ lines_at (c.lines ++ (fed input.lines bytes).ended) (fed input.lines bytes).begun
      fed_more bytes =
          sym (joins nothing_fed c.bytes bytes)
          ∙ ap₂ (λ e b. fed (lines_at e b) bytes) c.ended c.begun
          ∙ in_front c.lines input.lines.ended input.lines.begun bytes

      -- no line that has ended is left
      whole : input.lines.ended ≡ [] → c.lines ≡ ended_lines c.bytes
      whole none = sym (append-nil c.lines) ∙ ap (λ (x : List Line). c.lines ++ x) (sym none) ∙ sym c.ended

      -- one more piece
      pub comes_more : (i'' : S) (next : TakenInput) → TakesMore source i' i'' input next (Ok true) → input.lines.ended ≡ [] → ComesOn source sink disk session (i, k, d, l) (i'', k', d', l') next t p t' p'
      comes_more i'' next m none = record {
        bytes = c.bytes ++ m.bytes;
        consumes = Consumes-trans (source.left i) (source.left i') (source.left i'') c.bytes m.bytes c.consumes m.consumes;
        count = omega (arith, m.taken, c.count, length-append c.bytes m.bytes);
        lines = c.lines;
        ended = ap (λ (f : FedLines). f.ended) (fed_more m.bytes) ∙ ap (λ (f : FedLines). c.lines ++ f.ended) (sym m.grows.lines);
        begun = ap (λ (f : FedLines). f.begun) (fed_more m.bytes) ∙ ap (λ (f : FedLines). f.begun) (sym m.grows.lines);
        answers = c.answers;
        first = inr ([], whole none ∙ ap ended_lines (sym (but_last c.bytes m.bytes (source.last i'') m.once)) ∙ sym (append-nil (ended_lines (before_last source i i'' (c.bytes ++ m.bytes)))));
      }

      -- the end of the source
      pub ends : (i'' : S) (next : TakenInput) → TakesMore source i' i'' input next (Ok false) → input.lines.ended ≡ []
          → EndsPieces source sink disk session (i, k, d, l) (i'', k', d', l') next t p t' p'
      ends i'' next m none =
          let end = m.grows.at_end refl in
          let lines : next.lines ≡ input.lines = m.grows.lines ∙ ap (fed input.lines) end.0 in
          record {
            bytes = c.bytes;
            consumes = subst (Took source i i'') (ap (λ (x : List ℕ). c.bytes ++ x) end.0 ∙ append-nil c.bytes) (Consumes-trans (source.left i) (source.left i') (source.left i'') c.bytes m.bytes c.consumes m.consumes);
            at_end = end.1;
            within = omega (arith, end.2, c.count);
            none = ap (λ (f : FedLines). f.ended) lines ∙ none;
            begun = c.begun ∙ ap (λ (f : FedLines). f.begun) (sym lines);
            answers = subst (λ (x : List Line). Answers sink disk session (k, d, l) (k', d', l') t p x t' p') (whole none) c.answers;
          }

      -- a fault at a piece
      stops_with : (i'' : S) (bytes : List ℕ) (rest : List Line) (stop : Stop) → Took source i i'' bytes → length bytes ≤ MOST_BYTES + 1 → ended_lines bytes ≡ c.lines ++ rest
          → ((text : List ℕ) (kept : List (List ℕ)) → Adds sink disk (k, d, l) (k', d', l') text kept → StopsStoring sink disk (k, d, l) (k', d', l') stop text [] kept [])
          → AllAt stop (length bytes) rest (AreAnsweredIn session t p.number (ended_lines bytes) (text_of c.answers.steps)) → AnswersEndedLines source session i i'' t p.number bytes (text_of c.answers.steps) → StopsPieces source sink disk session (i, k, d, l) (i'', k', d', l') t p.number stop
      stops_with i'' bytes rest stop consumes few e f all first =
          record {
            bytes = bytes;
            consumes = consumes;
            at_most = few;
            among = record {
              lines = c.lines;
              rest = rest;
              parts = e;
              done = c.answers.steps;
              begun = [];
              t' = t';
              n' = p'.number;
              goes = subst (λ (x : List (session.State × StoredAnswer)). StoreGoesOver session t p.number c.lines x t' p'.number) (sym (append-nil c.answers.steps)) c.answers.goes;
              chain = subst (λ (x : List (session.State × StoredAnswer)). AreSteps session t x) (sym (append-nil c.answers.steps)) c.answers.chain;
              few = omega arith;
              are_done = c.answers.are;
              are_begun = tt;
              stops = f (text_of c.answers.steps) (kept_of c.answers.steps) c.answers.adds;
            };
            all = all;
            first = first;
          }

      pub stops_piece : (i'' : S) (next : TakenInput) (fault : TakeFault) → TakesMore source i' i'' input next (Err fault) → input.lines.ended ≡ []
          → StopsPieces source sink disk session (i, k, d, l) (i'', k', d', l') t p.number (stop_of_input fault)
      stops_piece i'' next fault m none = by_fault fault m.once m.stays.none m.stays.stops where
        taken : next.taken ≡ length (c.bytes ++ m.bytes)
        taken = omega (arith, m.taken, c.count, length-append c.bytes m.bytes)

        consumed : Took source i i'' (c.bytes ++ m.bytes)
        consumed = Consumes-trans (source.left i) (source.left i') (source.left i'') c.bytes m.bytes c.consumes m.consumes

        few : length (c.bytes ++ m.bytes) ≤ MOST_BYTES + 1
        few = omega (arith, taken, m.at_most)

        no_lines : m.bytes ≡ [] → ended_lines (c.bytes ++ m.bytes) ≡ c.lines ++ []
        no_lines e =
            ap (λ (x : List ℕ). ended_lines (c.bytes ++ x)) e
            ∙ ap ended_lines (append-nil c.bytes)
            ∙ c.ended ∙ ap (λ (x : List Line). c.lines ++ x) none

        -- nothing was taken, and all is answered
        all_here : m.bytes ≡ [] → AreAnsweredIn session t p.number (ended_lines (c.bytes ++ m.bytes)) (text_of c.answers.steps)
        all_here e = subst (λ (x : List Line). AreAnsweredIn session t p.number x (text_of c.answers.steps)) (sym (no_lines e ∙ append-nil c.lines)) all_answered

        all_first : m.bytes ≡ [] → AnswersEndedLines source session i i'' t p.number (c.bytes ++ m.bytes) (text_of c.answers.steps)
        all_first e = inr (answered_take session t p.number (length (c.bytes ++ m.bytes) - source.last i'') (c.bytes ++ m.bytes) (text_of c.answers.steps) (all_here e))

        -- what the call gave is lost, and all before it is answered
        earlier_answered : source.last i'' ≡ length m.bytes → AreAnsweredIn session t p.number (ended_lines (before_last source i i'' (c.bytes ++ m.bytes))) (text_of c.answers.steps)
        earlier_answered once =
            subst (λ (x : List Line). AreAnsweredIn session t p.number x (text_of c.answers.steps)) (whole none ∙ ap ended_lines (sym (but_last c.bytes m.bytes (source.last i'') once))) all_answered

        by_fault : (f : TakeFault) → CallsOnce {T = Bool} source i' i'' (length m.bytes) (Err f) → TakesNone m.bytes f → StopsAt next.taken f → StopsPieces source sink disk session (i, k, d, l) (i'', k', d', l') t p.number (stop_of_input f)
        by_fault taking.SourceFault once e n = stops_with i'' (c.bytes ++ m.bytes) [] SourceFault consumed few (no_lines e) (stops_of taking.SourceFault k k' d d' l l') (refl, omega (arith, taken, n), all_here e) (all_first e)
        by_fault taking.TooLong once e n = stops_with i'' (c.bytes ++ m.bytes) [] TooLong consumed few (no_lines e) (stops_of taking.TooLong k k' d d' l l') (refl, omega (arith, taken, n), all_here e) (all_first e)
        by_fault taking.NoMemory once e n =
            stops_with i'' (c.bytes ++ m.bytes) (fed input.lines m.bytes).ended NoMemory consumed few (ap (λ (f : FedLines). f.ended) (fed_more m.bytes)) (stops_of taking.NoMemory k k' d d' l l') tt (inr (earlier_answered once))

    -- ---- one turn

    module _ (i i' i'' : S) (input next : TakenInput) (k k' k'' : K) (d d' d'' : D) (l l' l'' : LogState) (t t' t'' : session.State) (p p' p'' : StoreProgress)
        (c : ComesOn source sink disk session (i, k, d, l) (i', k', d', l') input t p t' p') where
      pub none_left : (result : Result Bool TakeFault) (a : AnswersThenTakes source sink disk session (i', k', d', l') (i'', k'', d'', l'') input next t' p' t'' p'' result) → a.mid.lines.ended ≡ []
      none_left result a = ap (λ (f : FedLines). f.ended) a.lines

      comes_by : (result : Result Bool TakeFault) (a : AnswersThenTakes source sink disk session (i', k', d', l') (i'', k'', d'', l'') input next t' p' t'' p'' result)
          → ComesOn source sink disk session (i, k, d, l) (i', k'', d'', l'') a.mid t p t'' p''
      comes_by result a = comes_over i i' input k k' d d' l l' t t' p p' c k'' d'' l'' t'' p'' a.mid a.answers a.lines a.taken

      pub comes_turn : AnswersThenTakes source sink disk session (i', k', d', l') (i'', k'', d'', l'') input next t' p' t'' p'' (Ok true) → ComesOn source sink disk session (i, k, d, l) (i'', k'', d'', l'') next t p t'' p''
      comes_turn a = comes_more i i' a.mid k k'' d d'' l l'' t t'' p p'' (comes_by (Ok true) a) i'' next a.takes (none_left (Ok true) a)

      pub ends_turn : AnswersThenTakes source sink disk session (i', k', d', l') (i'', k'', d'', l'') input next t' p' t'' p'' (Ok false) → EndsPieces source sink disk session (i, k, d, l) (i'', k'', d'', l'') next t p t'' p''
      ends_turn a = ends i i' a.mid k k'' d d'' l l'' t t'' p p'' (comes_by (Ok false) a) i'' next a.takes (none_left (Ok false) a)

      pub stops_turn : (stop : Stop) → input.taken ≤ MOST_BYTES + 1 → StopsTurn source sink disk session (i', k', d', l') (i'', k'', d'', l'') input next t' p' t'' p'' stop
          → StopsPieces source sink disk session (i, k, d, l) (i'', k'', d'', l'') t p.number stop
      stops_turn stop few (inl s) =
          subst (λ (x : S). StopsPieces source sink disk session (i, k, d, l) (x, k'', d'', l'') t p.number stop) (sym s.unasked)
          (stops_lines i i' input k k' d d' l l' t t' p p' c k'' d'' l'' stop few s.own s.among)
      stops_turn stop few (inr h) =
          subst (λ (x : Stop). StopsPieces source sink disk session (i, k, d, l) (i'', k'', d'', l'') t p.number x) (sym h.1)
          (stops_piece i i' h.2.mid k k'' d d'' l l'' t t'' p p'' (comes_by (Err h.0) h.2) i'' next h.0 h.2.takes (none_left (Err h.0) h.2))
