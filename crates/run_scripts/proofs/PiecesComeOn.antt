-- An input as it comes, piece by piece: how far a run has come.
use Rattle.std.proofs.Common.{◌≡◌, ◌≤◌, ◌+◌, inl, inr, ℕ, List, [], ◌++◌, length, Bool, false, Option, Some, Ok, Err, refl, sym, ap, subst, ◌∙◌, append_assoc, append-nil, length-append, arith}
use Rattle.std.specs.Io.KnownBytes.{Appends}
use Rattle.std.proofs.KnownBytes.{Appends-nil, Appends-trans, Consumes-nil, Consumes-trans}
use Rattle.lens_io.specs.Calls.{Took, Gave}
use Rattle.lens_io.specs.declared.failed.TakeFault.{TakeFault}
use Rattle.lens_io.specs.declared.failed.TakeFault.TheVariants as taking
use Rattle.lens_io.specs.declared.sink.Sink as OfSink
use Rattle.lens_io.specs.declared.source.Source as OfSource
use Rattle.edit_journal.specs.Pieces.{FedLines, fed}
use Rattle.edit_journal.specs.declared.line.Line.{Line}
use Rattle.run_scripts.specs.Answers.{Answer}
use Rattle.edit_journal.proofs.Feeding.{lines_at, joins, in_front}
use Rattle.run_scripts.specs.LineRuns.{Come, come, written, written_after}
use Rattle.run_scripts.specs.declared.progress.Progress.{Progress}
use Rattle.run_scripts.proofs.RunSteps.{at_start, at_end}
use Rattle.script_input.specs.Taking as input_taking
use Rattle.script_input.specs.Taking.{GaveFew, TakenInput, TakesMore, TakesNone, StopsAt}
use Rattle.script_input.specs.declared.limits.TheConstants.{MOST_BYTES}
use Rattle.run_scripts.specs.LineEnds.{Stage, AnswersLines, StopsLines, StopsPiece, CallsOnce, AnswersPiece, WritesStopped, LeavesLines, AreAnswered, AnswersFirst, CutsShort, StopsRun, AnswersPieces, ComesOn}
use Rattle.run_scripts.specs.LineStops.{stop_of}
use Rattle.run_scripts.specs.declared.stopped.Stopped.{Stopped}
use Rattle.run_scripts.specs.declared.stopped.Stopped.TheVariants.{SourceFault, TooLong, SinkFault, NoMemory}
use Rattle.run_scripts.proofs.AnsweredLines.{stops_given}
use Rattle.run_scripts.proofs.Prefixes.{stopped_behind, leaves_any}

abbrev make : ℕ → Bool → List ℕ → Come
make n r x = record { number = n; refused = r; text = x }

-- the loop with these
abbrev pub stage : {S K T : Type 0} → S → K → TakenInput → T → Stage S K T
stage s k input t = record { source = s; sink = k; input = input; state = t }

-- the last call gave few, or there was none and the one before it did
pub few_more : {S : Type 0} (source : OfSource.Ghosts S) (s s' s'' : S) (room room' : ℕ) → room' ≡ room → GaveFew source s s' room → GaveFew source s' s'' room → GaveFew source s s'' room'
few_more source s s' s'' room room' e before (inr few) = inr (omega (arith, few, e))
few_more source s s' s'' room room' e (inl same) (inl now) = inl (now ∙ same)
few_more source s s' s'' room room' e (inr few) (inl now) = inr (subst (λ x. source.last x ≤ room') (sym now) (omega (arith, few, e)))

module _ {S K T : Type 0} (answer : T → ℕ → Line → Option (T × Answer)) (source : OfSource.Ghosts S) (sink : OfSink.Ghosts K) where
  -- ---- a piece that did not come

  module _ (old : Stage S K T) (s : S) (input : TakenInput) (p : Progress) (written : p.text.items ≡ []) where
    abbrev held : Option (List ℕ)
    held = sink.held old.sink

    abbrev missed : Stage S K T
    missed = stage s old.sink input old.state

    same_call : (fault : TakeFault) (count : ℕ) → input_taking.CallsOnce {T = Bool} source old.source s count (Err fault) → CallsOnce source old.source s count (Err (stop_of fault))
    same_call taking.SourceFault count h = h
    same_call taking.TooLong count h = h
    same_call taking.NoMemory count h = h

    by_fault : (bytes : List ℕ) (fault : TakeFault) → TakesNone bytes fault → StopsAt input.taken fault → StopsPiece answer source sink old missed bytes p (stop_of fault)
    by_fault bytes taking.SourceFault e n = (e, Appends-nil held, omega (arith, n))
    by_fault bytes taking.TooLong e n = (e, Appends-nil held, omega (arith, n))
    by_fault bytes taking.NoMemory e n = stops_given answer (old.state, p) (fed old.input.lines bytes).ended held held NoMemory (subst (Appends held held) (sym written) (Appends-nil held))

    -- nothing was taken, or the bytes are lost since memory ran out
    pub piece_fault : (fault : TakeFault) → TakesMore source old.source s old.input input (Err fault) → AnswersPiece answer source sink old missed p p (Err (stop_of fault))
    piece_fault fault m = record {
      bytes = m.bytes;
      consumes = m.consumes;
      once = same_call fault (length m.bytes) m.once;
      taken = m.taken;
      at_most = omega (arith, m.at_most);
      ends = by_fault m.bytes fault m.stays.none m.stays.stops;
    }

  -- ---- before the first piece: the source is as it was

  module _ (old : Stage S K T) (k : K) (input : TakenInput) (t : T) (p : Progress) (number : p.number ≡ 0) (refused : p.refused ≡ false) (text : p.text.items ≡ []) where
    abbrev first : Stage S K T
    first = stage old.source k input t

    from_start : (lines : List Line) → written answer old.state lines ≡ written_after answer old.state (come [] p) lines
    from_start lines = sym (at_start answer old.state (come [] p) lines number refused text)

    -- the lines that had ended before are answered
    pub comes_on_first : (p' : Progress) → AnswersLines answer (old.state, p) old.input.lines.ended (sink.held old.sink) (sink.held k) (t, p')
        → input.lines ≡ lines_at [] old.input.lines.begun → input.taken ≡ old.input.taken → p'.text.items ≡ [] → ComesOn answer source sink old first p'
    comes_on_first p' a lines taken written = record {
      more = [];
      consumes = Consumes-nil (source.left old.source);
      count = omega (arith, taken);
      given = a.text;
      gave = a.appends;
      lines = lines;
      written = written;
      comes = λ rest. from_start (old.input.lines.ended ++ rest) ∙ a.goes [] rest;
    }

    -- the run stopped at them
    pub stops_first : (stopped : Stopped) → old.input.taken ≤ MOST_BYTES + 1 → StopsLines answer (old.state, p) old.input.lines.ended (sink.held old.sink) (sink.held k) stopped
        → AnswersPieces answer source sink old first (Err stopped)
    stops_first stopped few stop =
        let part = stopped_behind stopped (sink.held old.sink) (sink.held old.sink) (sink.held k) [] stop.text (Appends-nil (sink.held old.sink)) stop.writes in
        record {
          more = [];
          consumes = Consumes-nil (source.left old.source);
          at_most = omega (arith, few);
          has_ended = record {
            lines = stop.lines;
            rest = stop.rest;
            ended = stop.parts;
            text = stop.text;
            answered = record {
              refused = stop.refused;
              state = stop.state;
              is = ap (λ l. written answer old.state l) (sym (append-nil stop.lines))
                  ∙ from_start (stop.lines ++ []) ∙ stop.goes [] [] ∙ at_end answer stop.state (make stop.number stop.refused stop.text);
            };
            count = part.0;
            writes = part.2;
            leaves = leaves_any stopped (old.input.taken + 0) stop.rest (sink.held old.sink) (sink.held k) stop.text stop.writes;
            answers_first = λ _. inl (refl, refl);
          };
        }

  -- ---- one more piece

  module _ (old now new : Stage S K T) (p p' : Progress) (c : ComesOn answer source sink old now p) where
    -- the lines that have ended so far
    abbrev ended : List Line
    ended = (fed old.input.lines c.more).ended

    -- what feeding some bytes more leaves
    fed_more : (bytes : List ℕ) → fed old.input.lines (c.more ++ bytes) ≡ lines_at (ended ++ (fed now.input.lines bytes).ended) (fed now.input.lines bytes).begun
    fed_more bytes =
        sym (joins old.input.lines c.more bytes)
        ∙ ap (λ e. fed (lines_at e (fed old.input.lines c.more).begun) bytes) (sym (append-nil ended))
        ∙ in_front ended [] (fed old.input.lines c.more).begun bytes
        ∙ ap (λ l. lines_at (ended ++ (fed l bytes).ended) (fed l bytes).begun) (sym c.lines)

    all_consumed : (bytes : List ℕ) → Took source now.source new.source bytes → Took source old.source new.source (c.more ++ bytes)
    all_consumed bytes h = Consumes-trans (source.left old.source) (source.left now.source) (source.left new.source) c.more bytes c.consumes h

    all_given : (text : List ℕ) → Gave sink now.sink new.sink text → Gave sink old.sink new.sink (c.given ++ text)
    all_given text h = Appends-trans (sink.held old.sink) (sink.held now.sink) (sink.held new.sink) c.given text c.gave h

    all_answered : AreAnswered answer old.state ended c.given
    all_answered = record {
      refused = p.refused;
      state = now.state;
      is = ap (λ l. written answer old.state l) (sym (append-nil ended))
          ∙ c.comes [] ∙ at_end answer now.state (come c.given p)
          ∙ ap (λ x. Some (x, p.refused, now.state)) (ap (λ x. c.given ++ x) c.written ∙ append-nil c.given);
    }

    pub comes_on_piece : (more : Bool) → AnswersPiece answer source sink now new p p' (Ok more) → ComesOn answer source sink old new p'
    comes_on_piece more a =
        let e = a.ends in
        let next = (fed now.input.lines a.bytes).ended in
        record {
          more = c.more ++ a.bytes;
          consumes = all_consumed a.bytes a.consumes;
          count = omega (arith, a.taken, c.count, length-append c.more a.bytes);
          given = c.given ++ e.answers.text;
          gave = all_given e.answers.text e.answers.appends;
          lines = e.lines ∙ ap (λ (l : FedLines). lines_at [] l.begun) (sym (fed_more a.bytes));
          written = e.written;
          comes = λ rest.
              ap (λ (l : FedLines). written answer old.state (l.ended ++ rest)) (fed_more a.bytes)
              ∙ ap (λ l. written answer old.state l) (append_assoc ended next rest)
              ∙ c.comes (next ++ rest) ∙ e.answers.goes c.given rest;
        }

    -- the end of the source
    pub run_ends : AnswersPiece answer source sink now new p p' (Ok false) → AnswersPieces answer source sink old new (Ok p')
    run_ends a =
        let all = comes_on_piece false a in
        let end = a.ends.at_end refl in
        let within : old.input.taken + length all.more ≤ MOST_BYTES = omega (arith, end.2, c.count, length-append c.more a.bytes, ap length end.0) in
        record {
          more = all.more;
          consumes = all.consumes;
          at_most = omega (arith, within);
          has_ended = record {
            at_end = end.1;
            gave_nothing = a.once ∙ ap length end.0;
            within = within;
            given = all.given;
            gave = all.gave;
            nothing_left = all.written;
            none = ap (λ (l : FedLines). l.ended) all.lines;
            begun = ap (λ (l : FedLines). l.begun) (sym all.lines);
            comes = all.comes;
          };
        }

    -- a stop at the piece
    pub run_stops : (stopped : Stopped) → AnswersPiece answer source sink now new p p' (Err stopped) → AnswersPieces answer source sink old new (Err stopped)
    run_stops stopped a = record {
      more = c.more ++ a.bytes;
      consumes = all_consumed a.bytes a.consumes;
      at_most = omega (arith, taken, a.at_most);
      has_ended = by_stop stopped a.once a.ends;
    } where
      taken : new.input.taken ≡ old.input.taken + length (c.more ++ a.bytes)
      taken = omega (arith, a.taken, c.count, length-append c.more a.bytes)

      first_before : (count : ℕ) → source.last new.source ≡ length a.bytes → length c.given ≤ count → AnswersFirst answer source sink old new (c.more ++ a.bytes) count
      first_before count once h = inr (record { earlier = c.more; piece = a.bytes; pieces = refl; by_last = once; text = c.given; answered = all_answered; written = h })

      nothing_written : Gave sink now.sink new.sink [] → Gave sink old.sink new.sink c.given
      nothing_written h = subst (Gave sink old.sink new.sink) (append-nil c.given) (all_given [] h)

      no_lines : a.bytes ≡ [] → (fed old.input.lines (c.more ++ a.bytes)).ended ≡ ended ++ []
      no_lines e =
          ap (λ (l : FedLines). l.ended) (fed_more a.bytes)
          ∙ ap (λ b. ended ++ (fed now.input.lines b).ended) e
          ∙ ap (λ (l : FedLines). ended ++ l.ended) c.lines

      -- nothing was taken
      at_fault : (stop : Stopped) → (CutsShort stop → ⊥) → a.bytes ≡ [] → WritesStopped c.given (length c.given) (sink.held old.sink) (sink.held new.sink) stop
          → LeavesLines (old.input.taken + length (c.more ++ a.bytes)) [] stop → StopsRun answer source sink old new (c.more ++ a.bytes) stop
      at_fault stop whole e writes leaves = record {
        lines = ended;
        rest = [];
        ended = no_lines e;
        text = c.given;
        answered = all_answered;
        count = length c.given;
        writes = writes;
        leaves = leaves;
        answers_first = λ short. absurd (whole short);
      }

      at_lines : (stop : Stopped) → source.last new.source ≡ length a.bytes → StopsLines answer (now.state, p) (fed now.input.lines a.bytes).ended (sink.held now.sink) (sink.held new.sink) stop
          → StopsRun answer source sink old new (c.more ++ a.bytes) stop
      at_lines stop once l =
          let part = stopped_behind stop (sink.held old.sink) (sink.held now.sink) (sink.held new.sink) c.given l.text c.gave l.writes in
          record {
            lines = ended ++ l.lines;
            rest = l.rest;
            ended = ap (λ (f : FedLines). f.ended) (fed_more a.bytes) ∙ ap (λ k. ended ++ k) l.parts ∙ sym (append_assoc ended l.lines l.rest);
            text = c.given ++ l.text;
            answered = record {
              refused = l.refused;
              state = l.state;
              is = ap (λ k. written answer old.state k) (ap (λ k. ended ++ k) (sym (append-nil l.lines)))
                  ∙ c.comes (l.lines ++ []) ∙ l.goes c.given [] ∙ at_end answer l.state (make l.number l.refused (c.given ++ l.text));
            };
            count = part.0;
            writes = part.2;
            leaves = leaves_any stop (old.input.taken + length (c.more ++ a.bytes)) l.rest (sink.held now.sink) (sink.held new.sink) l.text l.writes;
            answers_first = λ _. first_before part.0 once part.1;
          }

      by_stop : (stop : Stopped) → CallsOnce source now.source new.source (length a.bytes) (Err stop) → StopsPiece answer source sink now new a.bytes p stop → StopsRun answer source sink old new (c.more ++ a.bytes) stop
      by_stop SourceFault once x = at_fault SourceFault (λ short. short) x.0 (refl, nothing_written x.1) (refl, omega (arith, taken, x.2))
      by_stop TooLong once x = at_fault TooLong (λ short. short) x.0 (refl, nothing_written x.1) (refl, omega (arith, taken, x.2))
      by_stop SinkFault once x = at_lines SinkFault once x
      by_stop NoMemory once x = at_lines NoMemory once x
