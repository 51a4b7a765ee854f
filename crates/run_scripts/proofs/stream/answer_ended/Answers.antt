use Rattle.std.proofs.Common.{◌≡◌, ◌∷◌, [], ◌++◌, refl, sym, ap, subst, ◌∙◌, append_assoc, append-nil, length, arith}
use Rattle.std.specs.Bool.{then_some}
use Rattle.std.specs.Prelude.{MatchResult}
use Rattle.script_input.proofs.EndedLines.{taken_line, none_taken}
use Rattle.script_input.proofs.Outcomes.{as_error}
use Rattle.run_scripts.specs.LineEnds.{AnswersLines, StopsLines}
use Rattle.run_scripts.proofs.AnsweredLines.{with_progress, nothing_answered, answers_on, stops_on, stops_before, stops_given, then_given}
use Rattle.run_scripts.proofs.stream.answer_ended.Goals as goal

pub lines-init : goal.lines-init
lines-init g c =
    let answer = g.A.ScriptState.answer in
    let state = g.A.ScriptState.state in
    let held = g.K.Sink.held in
    let old = with_progress (state c.args.state.now) c.args.progress.now in
    record {
      goes = ([], refl, nothing_answered answer old (held c.args.sink.now));
      begun = refl;
      count = refl;
      number = omega arith;
      sink_faults = omega arith;
      empty_takes = omega arith;
    }

pub returns-in_err-answer_line-in-Ok-true-clause-answers : goal.returns-in_err-answer_line-in-Ok-true-clause-answers
returns-in_err-answer_line-in-Ok-true-clause-answers g c =
    let answer = g.A.ScriptState.answer in
    let state = g.A.ScriptState.state in
    let held = g.K.Sink.held in
    let old = with_progress (state c.args.state.now) c.args.progress.now in
    let mid = with_progress (state c.lines.state) c.lines.progress in
    let h = c.lines.invariant.goes in
    let new = c.take_line_into.new.self in
    let line = c.take_line_into.new.line in
    let taken = taken_line line new.lines c.lines.input.lines (ap (λ b. (then_some b line, new.lines)) (sym c.in-Ok-true.field-0-test) ∙ c.in-Ok-true.ensures.taken) in
    let after = c.answer_line.new in
    let ended = c.args.input.now.lines.ended in
    let rest = new.lines.ended in
    let stopped = c.in_err-answer_line-in-Ok-true.field-0.0 in
    let wide = stops_before answer mid (line ∷ []) rest (held c.lines.sink) (held after.sink) stopped c.in_err-answer_line-in-Ok-true.ensures.answers in
    as_error c.from_residual.result (λ r. MatchResult r
    (λ _. AnswersLines answer old ended (held c.args.sink.now) (held after.sink) (state after.state, after.progress))
    (StopsLines answer old ended (held c.args.sink.now) (held after.sink))) stopped
    (stops_on answer old mid h.0 (held c.args.sink.now) (held c.lines.sink) h.2 ended (line ∷ rest) (held after.sink) stopped (h.1 ∙ ap (λ l. h.0 ++ l) taken.0) wide)
    c.from_residual.ensures.1

pub lines-preserved : goal.lines-preserved
lines-preserved g c =
    let answer = g.A.ScriptState.answer in
    let state = g.A.ScriptState.state in
    let held = g.K.Sink.held in
    let old = with_progress (state c.args.state.now) c.args.progress.now in
    let mid = with_progress (state c.lines.state) c.lines.progress in
    let h = c.lines.invariant.goes in
    let new = c.take_line_into.new.self in
    let line = c.take_line_into.new.line in
    let taken = taken_line line new.lines c.lines.input.lines (ap (λ b. (then_some b line, new.lines)) (sym c.in-Ok-true.field-0-test) ∙ c.in-Ok-true.ensures.taken) in
    let after = c.answer_line.new in
    let e = c.in_ok-answer_line-in-Ok-true.ensures in
    record {
      goes = (
        h.0 ++ line ∷ [],
        h.1 ∙ ap (λ l. h.0 ++ l) taken.0 ∙ sym (append_assoc h.0 (line ∷ []) new.lines.ended),
        answers_on answer old mid h.0 (held c.args.sink.now) (held c.lines.sink) h.2 (state after.state, after.progress) (line ∷ []) (held after.sink) e.answers,
      );
      begun = taken.1 ∙ c.lines.invariant.begun;
      count = c.in-Ok-true.ensures.count ∙ c.lines.invariant.count;
      number = omega (arith, e.number, c.lines.invariant.number, ap length taken.0);
      sink_faults = omega (arith, c.lines.invariant.sink_faults, e.sink_faults.0);
      empty_takes = omega (arith, c.lines.invariant.empty_takes, e.sink_faults.1);
    }

pub returns-in-Ok-false-clause-answers : goal.returns-in-Ok-false-clause-answers
returns-in-Ok-false-clause-answers g c =
    let answer = g.A.ScriptState.answer in
    let state = g.A.ScriptState.state in
    let held = g.K.Sink.held in
    let old = with_progress (state c.args.state.now) c.args.progress.now in
    let mid = with_progress (state c.lines.state) c.lines.progress in
    let h = c.lines.invariant.goes in
    let ended = c.args.input.now.lines.ended in
    let new = c.take_line_into.new.self in
    let none = none_taken new.lines c.lines.input.lines (ap (λ b. (then_some b c.take_line_into.new.line, new.lines)) (sym c.in-Ok-false.field-0-test) ∙ c.in-Ok-false.ensures.taken) in
    let all : ended ≡ h.0 = h.1 ∙ ap (λ l. h.0 ++ l) none.0 ∙ append-nil h.0 in
    let after = c.give_answers.new in
    subst (λ e. MatchResult c.give_answers.result
    (λ _. AnswersLines answer old e (held c.args.sink.now) (held after.sink) (state c.lines.state, after.progress))
    (StopsLines answer old e (held c.args.sink.now) (held after.sink))) (sym all)
    (then_given answer old mid h.0 (held c.args.sink.now) (held c.lines.sink) h.2 c.give_answers.result after.progress (held after.sink) c.give_answers.ensures.given c.give_answers.ensures.stopped)

pub returns-in-Err-clause-answers : goal.returns-in-Err-clause-answers
returns-in-Err-clause-answers g c =
    let answer = g.A.ScriptState.answer in
    let state = g.A.ScriptState.state in
    let held = g.K.Sink.held in
    let old = with_progress (state c.args.state.now) c.args.progress.now in
    let mid = with_progress (state c.lines.state) c.lines.progress in
    let h = c.lines.invariant.goes in
    let next = c.lines.input.lines.ended in
    let held' = held c.out_of_memory.new.sink in
    let stopped = c.out_of_memory.result in
    stops_on answer old mid h.0 (held c.args.sink.now) (held c.lines.sink) h.2 c.args.input.now.lines.ended next held' stopped h.1
    (stops_given answer mid next (held c.lines.sink) held' stopped c.out_of_memory.ensures.writes)
