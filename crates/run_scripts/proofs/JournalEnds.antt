-- The ends of a call behind the separator, where the program part is accepted.
use Rattle.std.proofs.Common.{◌≡◌, inl, inr, ℕ, ◌+◌, ◌-◌, ◌≤◌, List, [], ◌++◌, length, take, Bool, Option, Some, None, option_map, Result, Ok, Err, sym, ap, ap₂, subst, ◌∙◌, append-nil, append_assoc, length-append, arith}
use Rattle.std.specs.Prelude.{IfOk, option_to_list}
use Rattle.std.specs.declared.alloc.AllocError.{AllocError}
use Rattle.std.proofs.KnownBytes.{Consumes-trans}
use Rattle.lens_io.specs.Calls.{Took}
use Rattle.lens_io.specs.declared.sink.Sink as OfSink
use Rattle.lens_io.specs.declared.source.Source as OfSource
use Rattle.edit_journal.specs.Pieces.{FedLines, nothing_fed, fed, last_line}
use Rattle.edit_journal.specs.declared.line.Line.{Line}
use Rattle.edit_journal.proofs.Feeding.{joins, all_lines_given}
use Rattle.script_input.specs.Taking.{GaveFew}
use Rattle.script_input.specs.declared.limits.TheConstants.{MOST_BYTES, PIECE_BYTES}
use Rattle.script_input.proofs.LastCalls.{but_last}
use Rattle.run_scripts.specs.LineEnds.{Stage, AreAnswered, ComesTo, AnswersBefore, AnswersFirst as StreamFirst, StopsRun, EndsRun}
use Rattle.run_scripts.specs.LineRuns.{come, answers_text, of_steps, run_lines, written, written_after}
use Rattle.run_scripts.specs.declared.progress.Progress.{Progress}
use Rattle.run_scripts.specs.Answers.{Answer}
use Rattle.run_scripts.specs.declared.stopped.Stopped.{Stopped}
use Rattle.run_scripts.specs.declared.stopped.Stopped.TheVariants as stop
use Rattle.run_scripts.proofs.RunSteps.{at_end}
use Rattle.script_input.specs.Coming.{journal_lines}
use Rattle.script_input.specs.Lines.{program_part, journal}
use Rattle.script_input.specs.Parts.{IsHead, IsTaken}
use Rattle.run_scripts.specs.ScriptSteps.{Gives, EndsReport}
use Rattle.run_scripts.specs.ScriptEnds.{EveryRunStaysInStep, answers_with, AnswersAll, AnswersBut, AnswersFirst, GoesOn}
use Rattle.run_scripts.specs.LineStops.{status_of}
use Rattle.run_scripts.specs.Report.{with_state, report_with, report}
use Rattle.run_scripts.specs.declared.report.Report.{Report}
use Rattle.run_scripts.specs.declared.script_state.ScriptState as OfScript
use Rattle.command_ends.specs.declared.status.Status.{Status}
use Rattle.run_scripts.proofs.ScriptEndsHold.{EndsSo, has_part, lines_stay, first_at_part, ended_source, ended_long, ended_memory, ended_sink, ended_report}

-- the answer lines of a run, from what it comes to
text_of : {T : Type 0} (t : T) (o : Option (List (T × Answer))) (text : List ℕ) (refused : Bool) (state : T) → option_map (of_steps t) o ≡ Some (text, refused, state) → option_map answers_text o ≡ Some text
text_of t None text refused state e = cc
text_of {T} t (Some steps) text refused state e =
    let same : of_steps t steps ≡ (text, refused, state) = cc in
    ap (λ (w : List ℕ × Bool × T). Some w.0) same

module _ {H S K : Type 0} (script : OfScript.Ghosts H) (stay : EveryRunStaysInStep script) (source : OfSource.Ghosts S) (sink : OfSink.Ghosts K)
    (s : S) (old new : Stage S K script.State) (front rest part : List ℕ) (t : IsTaken source s old.source old.input front rest) (head : IsHead front part)
    (program : script.Accepted) (is : script.accepted part ≡ Ok program) (first : old.state ≡ script.start program) where
  abbrev Answered : List Line → List ℕ → Type 0
  Answered lines text = AreAnswered script.answer old.state lines text

  -- all bytes, where these were taken behind the separator
  abbrev whole : List ℕ → List ℕ
  whole more = front ++ (rest ++ more)

  took_whole : (more : List ℕ) → Took source old.source new.source more → Took source s new.source (whole more)
  took_whole more c = subst (Took source s new.source) (append_assoc front rest more) (Consumes-trans (source.left s) (source.left old.source) (source.left new.source) (front ++ rest) more t.consumes c)

  length_whole : (more : List ℕ) → length (whole more) ≡ old.input.taken + length more
  length_whole more = ap length (sym (append_assoc front rest more)) ∙ length-append (front ++ rest) more ∙ ap (λ n. n + length more) (sym t.count)

  accepted_whole : (more : List ℕ) → script.accepted (program_part (whole more)) ≡ Ok program
  accepted_whole more = ap script.accepted (head.is_part (rest ++ more)) ∙ is

  fed_whole : (more : List ℕ) → fed nothing_fed (rest ++ more) ≡ fed old.input.lines more
  fed_whole more = sym (joins nothing_fed rest more) ∙ ap (λ l. fed l more) (sym t.lines)

  lines_whole : (more : List ℕ) → journal_lines (whole more) ≡ (fed old.input.lines more).ended
  lines_whole more = head.ended (rest ++ more) ∙ ap (λ (l : FedLines). l.ended) (fed_whole more)

  goes_on : (more : List ℕ) → GoesOn script (whole more)
  goes_on more = λ _. (program, accepted_whole more)

  -- ---- answers

  answers : (more : List ℕ) (lines others : List Line) (text : List ℕ) → (fed old.input.lines more).ended ≡ lines ++ others → Answered lines text → AnswersBut script (whole more) others text
  answers more lines others text ended a = record {
    lines = lines;
    ended = lines_whole more ∙ ended;
    are = ap (λ o. answers_with script o lines) (accepted_whole more)
        ∙ ap (λ u. option_map answers_text (run_lines script.answer u 0 lines)) (sym first)
        ∙ text_of old.state (run_lines script.answer old.state 0 lines) text a.refused a.state a.is;
    stays = lines_stay script stay (whole more) lines;
  }

  answers_all : (more : List ℕ) (lines others : List Line) (text : List ℕ) → others ≡ [] → (fed old.input.lines more).ended ≡ lines ++ others → Answered lines text
      → AnswersAll script (whole more) text
  answers_all more lines others text none ended a = subst (λ o. AnswersBut script (whole more) o text) none (answers more lines others text ended a)

  -- the last call gave no more than a piece: also where it was one before the journal
  few_last : (room : ℕ) → room ≤ PIECE_BYTES → GaveFew source old.source new.source room → source.last new.source ≤ PIECE_BYTES
  few_last room small (inl same) = subst (λ x. source.last x ≤ PIECE_BYTES) (sym same) (has_part source s old.source old.input front rest part t head).last.few
  few_last room small (inr few) = omega (arith, small, few)

  in_time : source.last new.source ≤ PIECE_BYTES → (more : List ℕ) (count : ℕ) → AnswersBefore script.answer old.state old.input (source.last new.source) more count
      → AnswersFirst script source s new.source (whole more) count
  in_time few more count b =
      let cut : whole more ≡ whole b.earlier ++ b.piece =
      ap whole b.pieces ∙ ap (λ r. front ++ r) (sym (append_assoc rest b.earlier b.piece)) ∙ sym (append_assoc front (rest ++ b.earlier) b.piece) in
      let before : whole b.earlier ≡ take (length (whole more) - source.last new.source) (whole more) =
      sym (ap (λ l. take (length l - source.last new.source) l) cut ∙ but_last (whole b.earlier) b.piece (source.last new.source) b.by_last) in
      inr (record {
        within = omega (arith, b.by_last, ap length cut, length-append (whole b.earlier) b.piece);
        few = few;
        answers = b.text;
        answered = subst (λ l. AnswersAll script l b.text) before
            (answers b.earlier (fed old.input.lines b.earlier).ended [] b.text (sym (append-nil (fed old.input.lines b.earlier).ended)) b.answered);
        written = b.written;
      })

  first_answers : (room : ℕ) → room ≤ PIECE_BYTES → GaveFew source old.source new.source room → (more : List ℕ) (count : ℕ) → StreamFirst script.answer source sink old new more count
      → AnswersFirst script source s new.source (whole more) count
  first_answers room small few more count (inl (same, none)) =
      subst (λ x. AnswersFirst script source s x (whole more) count) (sym same)
      (subst (λ bytes. AnswersFirst script source s old.source bytes count) (sym (ap whole none ∙ ap (λ r. front ++ r) (append-nil rest)))
      (first_at_part script stay source s old.source (front ++ rest) count t.last))
  first_answers room small few more count (inr b) = in_time (few_last room small few) more count b

  -- ---- a run that stopped before its end

  pub run_stops : (room : ℕ) → room ≤ PIECE_BYTES → GaveFew source old.source new.source room → (more : List ℕ) (stopped : Stopped) → Took source old.source new.source more → old.input.taken + length more ≤ MOST_BYTES + 1
      → StopsRun script.answer source sink old new more stopped → EndsSo script stay source sink (s, old.sink) (new.source, new.sink) (status_of stopped)
  run_stops room small few more stop.SourceFault c most h =
      ended_source script stay source sink (s, old.sink) (new.source, new.sink) (whole more) (took_whole more c) (omega (arith, length_whole more, h.leaves.1))
      (goes_on more, (h.text, answers_all more h.lines h.rest h.text h.leaves.0 h.ended h.answered, h.writes.1))
  run_stops room small few more stop.TooLong c most h =
      ended_long script stay source sink (s, old.sink) (new.source, new.sink) (whole more) (took_whole more c) (omega (arith, length_whole more, most)) (omega (arith, length_whole more, h.leaves.1))
      (goes_on more, (h.text, answers_all more h.lines h.rest h.text h.leaves.0 h.ended h.answered, h.writes.1))
  run_stops room small few more stop.SinkFault c most h =
      ended_sink script stay source sink (s, old.sink) (new.source, new.sink) (whole more) (took_whole more c) (omega (arith, length_whole more, most)) h.text
      (inl (goes_on more, (h.rest, answers more h.lines h.rest h.text h.ended h.answered))) (h.count, h.writes.0, h.writes.1) (first_answers room small few more h.count (h.answers_first tt))
  run_stops room small few more stop.NoMemory c most h =
      ended_memory script stay source sink (s, old.sink) (new.source, new.sink) (whole more) (took_whole more c) (omega (arith, length_whole more, most)) h.text
      (h.rest, answers more h.lines h.rest h.text h.ended h.answered)
      (subst (AnswersFirst script source s new.source (whole more)) h.writes.0 (first_answers room small few more h.count (h.answers_first tt))) h.writes.1

  -- ---- a run that came to its end

  -- the lines of the whole journal
  journal_whole : (more : List ℕ) → journal (whole more) ≡ (fed old.input.lines more).ended ++ option_to_list (last_line (fed old.input.lines more).begun)
  journal_whole more =
      head.behind (rest ++ more) ∙ sym (all_lines_given (rest ++ more))
      ∙ ap (λ (l : FedLines). l.ended ++ option_to_list (last_line l.begun)) (fed_whole more)

  -- the answers to the lines over which a run has come
  are_answered : (lines : List Line) (given : List ℕ) (u : script.State) (p : Progress) → ComesTo script.answer old.state lines given u p → Answered lines (given ++ p.text.items)
  are_answered lines given u p comes = record {
    refused = p.refused;
    state = u;
    is = ap (λ l. written script.answer old.state l) (sym (append-nil lines)) ∙ comes [] ∙ at_end script.answer u (come given p);
  }

  module _ (k : K) (more : List ℕ) (p : Progress) (e : EndsRun script.answer source sink old new more p) where
    report_whole : (q : Report) → EndsReport script new.state p new.input.lines.begun q → report script (whole more) ≡ Some (e.given ++ q.text.items, q.status)
    report_whole q r =
        let last = option_to_list (last_line new.input.lines.begun) in
        let made = r.progress in
        let lines : journal (whole more) ≡ (fed old.input.lines more).ended ++ last =
        journal_whole more ∙ ap (λ l. (fed old.input.lines more).ended ++ option_to_list (last_line l)) e.begun in
        let runs : written script.answer old.state (journal (whole more)) ≡ Some (e.given ++ made.text.items, made.refused, r.state) =
        ap (written script.answer old.state) lines
        ∙ e.comes last
        ∙ ap (λ l. written_after script.answer new.state (come e.given p) l) (sym (append-nil last))
        ∙ r.goes e.given [] ∙ at_end script.answer r.state (come e.given made) in
        let same : (e.given ++ made.text.items) ++ script.state_text r.state ≡ e.given ++ q.text.items =
        append_assoc e.given made.text.items (script.state_text r.state) ∙ ap (λ x. e.given ++ x) (sym r.text) in
        ap (λ o. report_with script o (journal (whole more))) (accepted_whole more)
        ∙ ap (λ u. option_map (with_state script) (written script.answer u (journal (whole more)))) (sym first)
        ∙ ap (λ o. option_map (with_state script) o) runs
        ∙ ap₂ (λ x s. Some (x, s)) same (sym r.status)

    pub run_ends : (r : Result Report AllocError) (status : Status) → Took source old.source new.source more → IfOk r (EndsReport script new.state p new.input.lines.begun) → Gives sink new.sink k r status
        → EndsSo script stay source sink (s, old.sink) (new.source, k) status
    run_ends r status c h gives =
        let ended = (fed old.input.lines more).ended in
        ended_report script stay source sink s new.source old.sink new.sink k (whole more) (took_whole more c) e.at_end e.gave_nothing (omega (arith, length_whole more, e.within)) (goes_on more) e.given
        (answers more ended [] e.given (sym (append-nil ended)) all) e.gave r status (by_report r h) gives where
          all : Answered (fed old.input.lines more).ended e.given
          all = subst (Answered (fed old.input.lines more).ended) (ap (λ x. e.given ++ x) e.nothing_left ∙ append-nil e.given)
              (are_answered (fed old.input.lines more).ended e.given new.state p e.comes)

          by_report : (r : Result Report AllocError) → IfOk r (EndsReport script new.state p new.input.lines.begun) → IfOk r (λ q. report script (whole more) ≡ Some (e.given ++ q.text.items, q.status))
          by_report (Ok q) x = report_whole q x
          by_report (Err x) y = tt
