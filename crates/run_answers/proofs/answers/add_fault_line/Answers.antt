use Rattle.std.proofs.Common.{◌++◌, ap, ◌∙◌}
use Rattle.run_answers.proofs.answers.add_fault_line.Goals as goal

pub returns-clause-line : goal.returns-clause-line
returns-clause-line c = λ cause is.
    c.in_ok-extend_from_slice.ensures.items ∙ ap (λ l. c.args.text.now.items ++ l) (c.as_slice.ensures ∙ c.in_ok-line.ensures.line cause is)
