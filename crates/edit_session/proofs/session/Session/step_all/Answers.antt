use Rattle.std.proofs.lemmas.Result.{err_from_is_err_and}
use Rattle.edit_module.specs.Views.{entry_trees}
use Rattle.edit_session.specs.Views.{triple_tree}
use Rattle.edit_session.proofs.StepsCarry.{each_no_memory}
use Rattle.edit_session.proofs.session.Session.step_all.Goals as goal

pub returns-in_err-triple-clause-applies : goal.returns-in_err-triple-clause-applies
returns-in_err-triple-clause-applies g c =
    let lens = c.self.inside.lens in
    let p = err_from_is_err_and c.from_residual.result c.from_residual.ensures.1 in
    rw (← c.self.view_is, p.1, p.2, ← c.entries.ensures) (each_no_memory (g.L.EditLens.left_type lens) (g.L.EditLens.right_type lens) (g.L.EditLens.carried lens)
    (triple_tree c.self.inside.triple) (entry_trees c.entries.result.now) c.in_err-triple.field-0.0 c.in_err-triple.ensures.steps)
