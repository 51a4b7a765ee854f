use Rattle.run_answers.specs.ItemViews.{answer_tree}
use Rattle.run_answers.proofs.AnswersHaveLines.{has_tree}
use Rattle.embed_session.proofs.MadeChanges.{answer_keeps, kept_counts}
use Rattle.embed_session.proofs.stepping.answer.Goals as goal

pub returns-clause-change : goal.returns-clause-change
returns-clause-change c =
    let answer = c.in_ok-answer.answer in let tree = has_tree answer c.in_ok-answer.ensures.has_line in
    answer_keeps (answer_tree answer) tree.0 c.args.line.now c.outcome_of-outcome.result c.change_of.result tree.1 c.outcome_of-outcome.ensures
    (c.change_of.ensures c.args.line.now c.in_ok-answer.ensures.of_item)

pub returns-clause-counts_fit : goal.returns-clause-counts_fit
returns-clause-counts_fit c =
    let answer = c.in_ok-answer.answer in let tree = has_tree answer c.in_ok-answer.ensures.has_line in
    kept_counts c.args.line.now c.outcome_of-outcome.result c.change_of.result
    (answer_keeps (answer_tree answer) tree.0 c.args.line.now c.outcome_of-outcome.result c.change_of.result tree.1 c.outcome_of-outcome.ensures
    (c.change_of.ensures c.args.line.now c.in_ok-answer.ensures.of_item))
