use Rattle.std.proofs.Common.{arith}
use Rattle.depth_seq.proofs.Passed.{passes_below, passes_children, stops_at_end, stops_at_child}
use Rattle.depth_seq.proofs.walks.passed_behind.Goals as goal

pub returns-then-kept-depth-clause-answer : goal.returns-then-kept-depth-clause-answer
returns-then-kept-depth-clause-answer c = λ ds at a g.
    stops_at_end c.args.kept.now c.args.depth c.args.number at c.args.passed ds a (omega arith) c.if-kept-depth.true c.requires g

pub returns-then-kept-depth-2-clause-answer : goal.returns-then-kept-depth-2-clause-answer
returns-then-kept-depth-2-clause-answer c = λ ds at a.
    passes_below c.args.kept.now c.args.depth c.args.number at c.args.passed ds a (omega arith)

pub returns-then-kept-number-clause-answer : goal.returns-then-kept-number-clause-answer
returns-then-kept-number-clause-answer c = λ ds at a g.
    stops_at_child c.args.kept.now c.args.depth c.args.number at c.args.passed ds a (omega arith) c.if-kept-number.true c.requires g

pub returns-clause-answer : goal.returns-clause-answer
returns-clause-answer c = λ ds at a.
    passes_children c.args.kept.now c.args.depth c.args.number at c.args.passed ds a (omega arith) c.if-kept-number.false c.requires
