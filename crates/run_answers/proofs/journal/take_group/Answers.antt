use Rattle.std.proofs.Common.{◌≡◌, subst}
use Rattle.edit_module.specs.Views.{entry_trees, word_trees}
use Rattle.edit_session.specs.Views.{triple_tree}
use Rattle.run_answers.specs.AnswerLines.{HasAnswerLine}
use Rattle.run_answers.specs.declared.answers.PairAnswer.TheVariants.{GroupCarried}
use Rattle.run_answers.proofs.AnswersHaveLines.{words_counted}
use Rattle.run_answers.proofs.StepCounts.{each_counted}
use Rattle.run_answers.proofs.journal.take_group.Goals as goal

pub returns-in-Ok-clause-has_line : goal.returns-in-Ok-clause-has_line
returns-in-Ok-clause-has_line g c =
    let lens = c.args.session.now.lens in
    let is = c.group_entries.ensures in
    let same : c.args.entries ≡ c.group_entries.result = cc in
    subst (λ es. HasAnswerLine (GroupCarried es c.in-Ok.words)) same
    (words_counted c.args.entries c.in-Ok.words
    (each_counted (g.L.EditLens.left_type lens) (g.L.EditLens.right_type lens) (g.L.EditLens.carried lens) (entry_trees c.args.entries) (triple_tree c.args.session.now.triple)
    (triple_tree c.step_all.new.self.triple, word_trees c.in-Ok.words) c.in-Ok.ensures.steps))
