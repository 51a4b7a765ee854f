use Rattle.edit_module.specs.Views.{word_tree, entry_tree}
use Rattle.edit_session.specs.Views.{triple_tree}
use Rattle.run_answers.proofs.StepCounts.{carried_fits}
use Rattle.run_answers.proofs.journal.take_entry.Goals as goal

pub returns-in-Ok-clause-has_line : goal.returns-in-Ok-clause-has_line
returns-in-Ok-clause-has_line g c =
    let lens = c.args.session.now.lens in
    carried_fits (g.L.EditLens.left_type lens) (g.L.EditLens.right_type lens) (g.L.EditLens.carried lens)
    (triple_tree c.args.session.now.triple) (entry_tree c.args.entry) (triple_tree c.step.new.self.triple, word_tree c.in-Ok.word) c.in-Ok.ensures.steps
