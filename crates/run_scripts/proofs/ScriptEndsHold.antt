-- What stands at each end of a call over a script.
use Rattle.command_ends.specs.Statuses.{IsFinished, status_at_end}
use Rattle.std.proofs.Common.{◌≡◌, ◌⊎◌, inl, inr, ℕ, ◌+◌, ◌<◌, ◌≤◌, List, [], ◌++◌, length, Bool, true, false, Option, Some, None, option_map, Result, Ok, Err, refl, sym, ap, ap₂, subst, ◌∙◌, append-nil, append_assoc, arith}
use Rattle.std.specs.Prelude.{IfOk}
use Rattle.std.specs.declared.alloc.AllocError.{AllocError}
use Rattle.std.proofs.KnownBytes.{Appends-nil, Appends-trans, Consumes-nil}
use Rattle.lens_io.specs.Calls.{Took, IsRead, Gave, GaveFront}
use Rattle.lens_io.specs.declared.failed.TakeFault.{TakeFault}
use Rattle.lens_io.specs.declared.failed.TakeFault.TheVariants as taking
use Rattle.lens_io.specs.declared.sink.Sink as OfSink
use Rattle.lens_io.specs.declared.source.Source as OfSource
use Rattle.edit_journal.specs.declared.line.Line.{Line}
use Rattle.script_input.specs.Taking.{TakenInput}
use Rattle.script_input.specs.declared.limits.TheConstants.{MOST_BYTES}
use Rattle.script_input.proofs.LastCalls.{all_before}
use Rattle.run_scripts.specs.LineEnds.{WritesStopped}
use Rattle.run_scripts.specs.LineRuns.{written}
use Rattle.run_scripts.specs.LineStops.{stop_of, status_of}
use Rattle.run_scripts.specs.declared.stopped.Stopped.TheVariants as stop
use Rattle.run_scripts.proofs.Prefixes.{stopped_behind}
use Rattle.script_input.specs.Coming.{ended_lines, has_separator, journal_lines, HadNoPart, HasLastPiece, HasPart}
use Rattle.script_input.specs.Lines.{program_part, journal}
use Rattle.script_input.specs.Parts.{EndsWhole, IsHead, IsTaken, StopsHead}
use Rattle.run_scripts.specs.Report.{with_state, report_with, report}
use Rattle.run_scripts.specs.ScriptEnds.{EveryRunStaysInStep, Reports, answers_with, LinesStayInStep, AnswersAll, AnswersSome, AnswersFirst, GoesOn, HasAnsweredAll, RefusesPart, WouldWrite, IsCleanStop, Stops, Ended}
use Rattle.run_scripts.specs.ScriptSteps.{Gives, GivesAlone, IsOpened, IsRefusedWith, IsNotOpened}
use Rattle.run_scripts.specs.declared.report.Report.{Report}
use Rattle.run_scripts.specs.declared.script_state.NotOpened.{NotOpened}
use Rattle.run_scripts.specs.declared.script_state.NotOpened.TheVariants as opening
use Rattle.run_scripts.specs.declared.script_state.ScriptState as OfScript
use Rattle.command_ends.specs.declared.status.Status.{Status}
use Rattle.command_ends.specs.declared.status.Status.TheVariants.{Done, ProgramRefused, SourceFault, SinkFault, InputTooLong, NoMemory}
use Rattle.script_input.proofs.TakenParts.{none_behind}

-- ---- statuses

finished : (b : Bool) → IsFinished (status_at_end b)
finished true = inr refl
finished false = inl refl

-- a status that is not the end of a run
not_refused : IsFinished ProgramRefused → ⊥
not_refused (inl e) = cc
not_refused (inr e) = cc

not_source : IsFinished SourceFault → ⊥
not_source (inl e) = cc
not_source (inr e) = cc

not_sink : IsFinished SinkFault → ⊥
not_sink (inl e) = cc
not_sink (inr e) = cc

not_long : IsFinished InputTooLong → ⊥
not_long (inl e) = cc
not_long (inr e) = cc

not_memory : IsFinished NoMemory → ⊥
not_memory (inl e) = cc
not_memory (inr e) = cc

-- ---- the parts of a script

not_both : (b : Bool) → b ≡ false → b ≡ true → ⊥
not_both true e f = cc
not_both false e f = cc

-- the separator came with the last call
pub has_part : {S : Type 0} (source : OfSource.Ghosts S) (old new : S) (input : TakenInput) (front rest part : List ℕ) → IsTaken source old new input front rest → IsHead front part → HasPart source old new (front ++ rest)
has_part source old new input front rest part t head = record {
  last = by_call t.last;
  has = head.has rest;
  stays = λ more. ap program_part (append_assoc front rest more) ∙ head.is_part (rest ++ more) ∙ sym (head.is_part rest);
} where
  by_call : HadNoPart source old new (front ++ rest) → HasLastPiece source old new (front ++ rest)
  by_call (inl (same, none)) = absurd (not_both (has_separator (front ++ rest)) (ap has_separator none) (head.has rest))
  by_call (inr last) = last

-- a prefix of a text has at least what was written before
front_after : {K : Type 0} (sink : OfSink.Ghosts K) (old new : K) (given text : List ℕ) → (count : ℕ) × (length given ≤ count) × WritesStopped text count (sink.held old) (sink.held new) stop.SinkFault
    → (front : GaveFront sink old new text) × (length given ≤ front.0)
front_after sink old new given text (count, few, writes) = ((count, writes.0, writes.1), few)

-- what an option was made from
made_from : {A B : Type 0} (f : A → B) (o : Option A) (b : B) → option_map f o ≡ Some b → (a : A) × (f a ≡ b)
made_from f None b h = cc
made_from f (Some a) b h = (a, let e : f a ≡ b = cc in e)

-- ---- what a script means

module _ {H : Type 0} (script : OfScript.Ghosts H) where
  -- a report of an accepted program part ends with `Done` or `SomeRefused`; any other is the line of a refusal

  abbrev pub IsAnswered : Result script.Accepted script.Refusal → Status → Type 0
  IsAnswered outcome status = (program : script.Accepted) × (outcome ≡ Ok program) × IsFinished status

  abbrev pub IsRefused : Result script.Accepted script.Refusal → List ℕ → Status → Type 0
  IsRefused outcome text status = (refusal : script.Refusal) × (outcome ≡ Err refusal) × (text ≡ script.refusal_line refusal) × (status ≡ ProgramRefused)

  kind_of : (outcome : Result script.Accepted script.Refusal) (lines : List Line) (text : List ℕ) (status : Status)
      → report_with script outcome lines ≡ Some (text, status) → IsAnswered outcome status ⊎ IsRefused outcome text status
  kind_of (Ok program) lines text status h =
      let w = made_from (with_state script) (written script.answer (script.start program) lines) (text, status) h in
      inl (program, refl, subst IsFinished (ap (λ (r : List ℕ × Status). r.1) w.1) (finished w.0.1))
  kind_of (Err refusal) lines text status h =
      let same : (script.refusal_line refusal, ProgramRefused) ≡ (text, status) = cc in
      inr (refusal, refl, sym (ap (λ (r : List ℕ × Status). r.0) same), sym (ap (λ (r : List ℕ × Status). r.1) same))

  no_answers : (outcome : Result script.Accepted script.Refusal) → answers_with script outcome [] ≡ Some []
  no_answers (Ok program) = refl
  no_answers (Err refusal) = refl

  -- ---- a script that is a program part alone

  pub alone_opened : {K : Type 0} (sink : OfSink.Ghosts K) (old new : K) (accepted : Result script.Accepted script.Refusal) (t : script.State) (r : Result Report AllocError) (status : Status)
      → IsOpened script accepted t → IfOk r (λ q. q.text.items ≡ script.state_text t) → IfOk r (λ q. q.status ≡ Done) → Gives sink old new r status → GivesAlone script sink old new accepted status
  alone_opened sink old new accepted t r status o text done gives = record { made = r; is_report = by_report r text done; gives = gives } where
    by_report : (r : Result Report AllocError) → IfOk r (λ q. q.text.items ≡ script.state_text t) → IfOk r (λ q. q.status ≡ Done)
        → IfOk r (λ q. report_with script accepted [] ≡ Some (q.text.items, q.status))
    by_report (Ok q) x y =
        ap (λ o. report_with script o []) o.is
        ∙ ap₂ (λ x s. Some (x, s)) (ap script.state_text (sym o.first) ∙ sym x) (sym y)
    by_report (Err x) y z = tt

  -- the report of a program part that is refused
  refusal_reported : (accepted : Result script.Accepted script.Refusal) (text : List ℕ) (status : Status) → IsRefusedWith script accepted text → status ≡ ProgramRefused
      → report_with script accepted [] ≡ Some (text, status)
  refusal_reported accepted text status r refused =
      ap (λ o. report_with script o []) r.is
      ∙ ap₂ (λ x s. Some (x, s)) (sym r.is_line) (sym refused)

  pub alone_unopened : {K : Type 0} (sink : OfSink.Ghosts K) (old new : K) (accepted : Result script.Accepted script.Refusal) (refused : NotOpened) (r : Result Report AllocError) (status : Status)
      → IsNotOpened script accepted refused → IfOk r (λ q. refused ≡ opening.Refused q.text.items) → IfOk r (λ q. q.status ≡ ProgramRefused) → Gives sink old new r status → GivesAlone script sink old new accepted status
  alone_unopened sink old new accepted refused r status not line is gives = record { made = r; is_report = by_report r line is; gives = gives } where
    by_report : (r : Result Report AllocError) → IfOk r (λ q. refused ≡ opening.Refused q.text.items) → IfOk r (λ q. q.status ≡ ProgramRefused)
        → IfOk r (λ q. report_with script accepted [] ≡ Some (q.text.items, q.status))
    by_report (Ok q) x y = refusal_reported accepted q.text.items q.status (subst (IsNotOpened script accepted) x not) y
    by_report (Err x) y z = tt

-- ---- a script of which every run stays in step

module _ {H : Type 0} (script : OfScript.Ghosts H) (stay : EveryRunStaysInStep script) where
  pub lines_stay : (bytes : List ℕ) (lines : List Line) → LinesStayInStep script (script.accepted (program_part bytes)) lines
  lines_stay bytes lines = by_outcome (script.accepted (program_part bytes)) refl where
    by_outcome : (outcome : Result script.Accepted script.Refusal) → script.accepted (program_part bytes) ≡ outcome → LinesStayInStep script outcome lines
    by_outcome (Ok program) is = stay (program_part bytes) program is lines
    by_outcome (Err refusal) is = tt

  pub none_answered : (bytes : List ℕ) → AnswersSome script bytes []
  none_answered bytes = (journal_lines bytes, record { lines = []; ended = refl; are = no_answers script (script.accepted (program_part bytes)); stays = lines_stay bytes [] })

  pub no_journal : (bytes : List ℕ) → has_separator bytes ≡ false → GoesOn script bytes × AnswersAll script bytes []
  no_journal bytes h = (
    (λ has. absurd (not_both (has_separator bytes) h has)),
    record { lines = []; ended = none_behind (ended_lines bytes) h; are = no_answers script (script.accepted (program_part bytes)); stays = lines_stay bytes [] },
  )

  -- ---- answers that are in time

  module _ {S : Type 0} (source : OfSource.Ghosts S) (old new : S) where
    -- the separator had not come when the source was called last
    pub first_at_part : (bytes : List ℕ) (count : ℕ) → HadNoPart source old new bytes → AnswersFirst script source old new bytes count
    first_at_part bytes count (inl none) = inl none
    first_at_part bytes count (inr p) = inr (record {
      within = p.within;
      few = p.few;
      answers = [];
      answered = (no_journal _ p.not_before).1;
      written = omega arith;
    })

    -- all lines that have ended are answered, and the last call gave nothing
    pub first_of_all : (bytes answers : List ℕ) (count : ℕ) → source.last new ≡ 0 → AnswersAll script bytes answers → length answers ≤ count → AnswersFirst script source old new bytes count
    first_of_all bytes answers count nothing all few = inr (record {
      within = omega (arith, nothing);
      few = omega (arith, nothing);
      answers = answers;
      answered = subst (λ b. AnswersAll script b answers) (sym (all_before bytes (source.last new) nothing)) all;
      written = few;
    })

  -- ---- a call that stopped

  module _ {S K : Type 0} (source : OfSource.Ghosts S) (sink : OfSink.Ghosts K) where
    abbrev pub EndsSo : S × K → S × K → Status → Type 0
    EndsSo = Ended script source sink

    module _ (old new : S × K) (bytes : List ℕ) (took : Took source old.0 new.0 bytes) where
      pub ended_source : length bytes ≤ MOST_BYTES → HasAnsweredAll script source sink old new bytes → EndsSo old new SourceFault
      ended_source few all = record {
        stops = record {
          bytes = bytes;
          took = took;
          at_most = omega (arith, few);
          only_too_long = λ e. cc;
          if_too_long = λ more. absurd (omega (arith, few, more));
          clean = all;
        };
        reports = λ f. absurd (not_source f);
      }

      pub ended_long : length bytes ≤ MOST_BYTES + 1 → MOST_BYTES < length bytes → HasAnsweredAll script source sink old new bytes → EndsSo old new InputTooLong
      ended_long few many all = record {
        stops = record {
          bytes = bytes;
          took = took;
          at_most = few;
          only_too_long = λ e. many;
          if_too_long = λ more. inl refl;
          clean = all;
        };
        reports = λ f. absurd (not_long f);
      }

      pub ended_memory : length bytes ≤ MOST_BYTES + 1 → (text : List ℕ) → AnswersSome script bytes text → AnswersFirst script source old.0 new.0 bytes (length text) → Gave sink old.1 new.1 text → EndsSo old new NoMemory
      ended_memory few text are first gave = record {
        stops = record {
          bytes = bytes;
          took = took;
          at_most = few;
          only_too_long = λ e. cc;
          if_too_long = λ more. inr tt;
          clean = (text, are, gave, first);
        };
        reports = λ f. absurd (not_memory f);
      }

      pub ended_sink : length bytes ≤ MOST_BYTES + 1 → (text : List ℕ) → WouldWrite script source sink old new bytes text → (front : GaveFront sink old.1 new.1 text) → AnswersFirst script source old.0 new.0 bytes front.0
          → EndsSo old new SinkFault
      ended_sink few text would front first = record {
        stops = record {
          bytes = bytes;
          took = took;
          at_most = few;
          only_too_long = λ e. cc;
          if_too_long = λ more. inr tt;
          clean = (text, would, (front, first));
        };
        reports = λ f. absurd (not_sink f);
      }

      pub ended_refused : length bytes ≤ MOST_BYTES + 1 → (refusal : script.Refusal) → RefusesPart script source old.0 new.0 bytes refusal → Gave sink old.1 new.1 (script.refusal_line refusal) → EndsSo old new ProgramRefused
      ended_refused few refusal refuses gave = record {
        stops = record {
          bytes = bytes;
          took = took;
          at_most = few;
          only_too_long = λ e. cc;
          if_too_long = λ more. inr tt;
          clean = (refusal, refuses, gave);
        };
        reports = λ f. absurd (not_refused f);
      }

      -- ---- a whole report

      module _ (end : IsRead source old.0 new.0) (few : length bytes ≤ MOST_BYTES) (goes_on : GoesOn script bytes) where
        -- the program part is refused, so no separator has come
        refused_at_end : (refusal : script.Refusal) → script.accepted (program_part bytes) ≡ Err refusal → RefusesPart script source old.0 new.0 bytes refusal
        refused_at_end refusal none = record { whole = inr (by_test (has_separator bytes) refl, end); refused = none } where
          by_test : (b : Bool) → has_separator bytes ≡ b → has_separator bytes ≡ false
          by_test true has = let is = (goes_on has).1 in cc
          by_test false has = has

        -- the report of an accepted program part was written
        written_report : (text : List ℕ) (status : Status) → report script bytes ≡ Some (text, status) → Gave sink old.1 new.1 text → (program : script.Accepted) → script.accepted (program_part bytes) ≡ Ok program
            → Reports script source sink old new status
        written_report text status h gave program is = record {
          bytes = bytes;
          took = took;
          read = end;
          within = few;
          text = text;
          is_report = h;
          gave = gave;
          program = program;
          is_accepted = is;
          stays = stay (program_part bytes) program is (journal bytes);
        }

        finished_stops : (status : Status) → IsFinished status → Stops script source sink old new status
        finished_stops status f = record {
          bytes = bytes;
          took = took;
          at_most = omega (arith, few);
          only_too_long = λ e. absurd (not_long (subst IsFinished e f));
          if_too_long = λ more. absurd (omega (arith, few, more));
          clean = by_end f;
        } where
          by_end : IsFinished status → IsCleanStop script source sink old new bytes status
          by_end (inl e) = subst (IsCleanStop script source sink old new bytes) (sym e) tt
          by_end (inr e) = subst (IsCleanStop script source sink old new bytes) (sym e) tt

        ended_whole : (text : List ℕ) (status : Status) → report script bytes ≡ Some (text, status) → Gave sink old.1 new.1 text → EndsSo old new status
        ended_whole text status h gave = by_kind (kind_of script (script.accepted (program_part bytes)) (journal bytes) text status h) where
          by_kind : IsAnswered script (script.accepted (program_part bytes)) status ⊎ IsRefused script (script.accepted (program_part bytes)) text status → EndsSo old new status
          by_kind (inl (program, is, f)) = record { stops = finished_stops status f; reports = λ _. written_report text status h gave program is }
          by_kind (inr (refusal, none, line, refused)) =
              subst (EndsSo old new) (sym refused)
              (ended_refused (omega (arith, few)) refusal (refused_at_end refusal none) (subst (Gave sink old.1 new.1) line gave))

    -- The report that was made is given, behind answers that were written before. The last call of the source gave nothing.
    module _ (s s' : S) (k mid k' : K) (bytes : List ℕ) (took : Took source s s' bytes) (end : IsRead source s s') (nothing : source.last s' ≡ 0) (few : length bytes ≤ MOST_BYTES)
        (goes_on : GoesOn script bytes) (given : List ℕ) (are : AnswersAll script bytes given) (gave : Gave sink k mid given) where
      pub ended_report : (r : Result Report AllocError) (status : Status) → IfOk r (λ q. report script bytes ≡ Some (given ++ q.text.items, q.status)) → Gives sink mid k' r status
          → EndsSo (s, k) (s', k') status
      ended_report (Ok q) status h (inl (same, all)) =
          subst (EndsSo (s, k) (s', k')) (sym same)
          (ended_whole (s, k) (s', k') bytes took end few goes_on (given ++ q.text.items) q.status h (Appends-trans (sink.held k) (sink.held mid) (sink.held k') given q.text.items gave all))
      ended_report (Ok q) status h (inr (same, front)) =
          subst (EndsSo (s, k) (s', k')) (sym same)
          (let f = front_after sink k k' given (given ++ q.text.items) (stopped_behind stop.SinkFault (sink.held k) (sink.held mid) (sink.held k') given q.text.items gave front) in
          ended_sink (s, k) (s', k') bytes took (omega (arith, few)) (given ++ q.text.items) (inr (inr (end, (q.status, h)))) f.0 (first_of_all source s s' bytes given f.0.0 nothing are f.1))
      ended_report (Err e) status h (same, all) =
          subst (EndsSo (s, k) (s', k')) (sym same)
          (ended_memory (s, k) (s', k') bytes took (omega (arith, few)) given ([], are) (first_of_all source s s' bytes given (length given) nothing are (omega arith))
          (subst (Gave sink k k') (append-nil given) (Appends-trans (sink.held k) (sink.held mid) (sink.held k') given [] gave all)))

    -- ---- before the journal

    -- memory ran out before anything was taken
    pub ended_never : (s : S) (k : K) → EndsSo (s, k) (s, k) NoMemory
    ended_never s k = ended_memory (s, k) (s, k) [] (Consumes-nil (source.left s)) (omega arith) [] (none_answered []) (inl (refl, refl)) (Appends-nil (sink.held k))

    -- a fault came before the separator
    pub ended_head : (s s' : S) (k : K) (fault : TakeFault) → StopsHead source s s' fault → EndsSo (s, k) (s', k) (status_of (stop_of fault))
    ended_head s s' k taking.SourceFault h =
        let none = no_journal h.bytes h.not_yet in
        ended_source (s, k) (s', k) h.bytes h.consumes h.stops (none.0, ([], none.1, Appends-nil (sink.held k)))
    ended_head s s' k taking.TooLong h =
        let none = no_journal h.bytes h.not_yet in
        ended_long (s, k) (s', k) h.bytes h.consumes h.at_most h.stops (none.0, ([], none.1, Appends-nil (sink.held k)))
    ended_head s s' k taking.NoMemory h =
        ended_memory (s, k) (s', k) h.bytes h.consumes h.at_most [] (none_answered h.bytes) (first_at_part source s s' h.bytes 0 h.not_yet) (Appends-nil (sink.held k))

    -- the input is a program part alone
    pub ended_alone : (s s' : S) (k k' : K) (bytes : List ℕ) (status : Status) → EndsWhole source s s' bytes → GivesAlone script sink k k' (script.accepted (program_part bytes)) status
        → EndsSo (s, k) (s', k') status
    ended_alone s s' k k' bytes status e g =
        ended_report s s' k k k' bytes e.consumes e.at_end e.gave_nothing e.within (no_journal bytes e.no_separator).0 [] (no_journal bytes e.no_separator).1 (Appends-nil (sink.held k)) g.made status (by_report g.made g.is_report) g.gives where
          by_report : (r : Result Report AllocError) → IfOk r (λ q. report_with script (script.accepted (program_part bytes)) [] ≡ Some (q.text.items, q.status))
              → IfOk r (λ q. report script bytes ≡ Some ([] ++ q.text.items, q.status))
          by_report (Ok q) x = ap (λ lines. report_with script (script.accepted (program_part bytes)) lines) e.no_journal ∙ x
          by_report (Err x) y = tt

    -- ---- behind the separator, where no state was made from the program part

    module _ (s s' : S) (k k' : K) (input : TakenInput) (front rest part : List ℕ) (t : IsTaken source s s' input front rest) (head : IsHead front part) where
      first_written : (count : ℕ) → AnswersFirst script source s s' (front ++ rest) count
      first_written count = first_at_part source s s' (front ++ rest) count t.last

      -- the program part is refused
      ended_refusal : (line : List ℕ) (status : Status) → IsRefusedWith script (script.accepted part) line
          → (status ≡ ProgramRefused) × Gave sink k k' line ⊎ (status ≡ SinkFault) × GaveFront sink k k' line → EndsSo (s, k) (s', k') status
      ended_refusal line status r gives = by_gift gives where
        refuses : RefusesPart script source s s' (front ++ rest) r.refusal
        refuses = record { whole = inl (has_part source s s' input front rest part t head); refused = ap script.accepted (head.is_part rest) ∙ r.is }

        by_gift : (status ≡ ProgramRefused) × Gave sink k k' line ⊎ (status ≡ SinkFault) × GaveFront sink k k' line → EndsSo (s, k) (s', k') status
        by_gift (inl (same, all)) =
            subst (EndsSo (s, k) (s', k')) (sym same) (ended_refused (s, k) (s', k') (front ++ rest) t.consumes t.few r.refusal refuses (subst (Gave sink k k') r.is_line all))
        by_gift (inr (same, part_of)) =
            subst (EndsSo (s, k) (s', k')) (sym same)
            (ended_sink (s, k) (s', k') (front ++ rest) t.consumes t.few line (inr (inl (r.refusal, refuses, r.is_line))) part_of (first_written part_of.0))

      pub ended_unopened : (refused : NotOpened) (r : Result Report AllocError) (status : Status)
          → IsNotOpened script (script.accepted part) refused → IfOk r (λ q. refused ≡ opening.Refused q.text.items) → IfOk r (λ q. q.status ≡ ProgramRefused) → Gives sink k k' r status
          → EndsSo (s, k) (s', k') status
      ended_unopened refused (Ok q) status not line is gives =
          ended_refusal q.text.items status (subst (IsNotOpened script (script.accepted part)) line not) (by_gift gives) where
            by_gift : Gives sink k k' (Ok q) status → (status ≡ ProgramRefused) × Gave sink k k' q.text.items ⊎ (status ≡ SinkFault) × GaveFront sink k k' q.text.items
            by_gift (inl (same, all)) = inl (same ∙ is, all)
            by_gift (inr (same, part_of)) = inr (same, part_of)
      ended_unopened refused (Err e) status not line is (same, all) =
          subst (EndsSo (s, k) (s', k')) (sym same)
          (ended_memory (s, k) (s', k') (front ++ rest) t.consumes t.few [] (none_answered (front ++ rest)) (first_written 0) all)
