use Rattle.std.proofs.Common.{Some}
use Rattle.program_accepted.specs.Program.{lens_of}
use Rattle.doc_values.specs.Types.{ty_tree}
use Rattle.hub_run.proofs.ViewsRead.{view_found}
use Rattle.hub_run.proofs.views.view_with_left.Goals as goal

pub returns-in-Ok-clause-view : goal.returns-in-Ok-clause-view
returns-in-Ok-clause-view c = λ text h. view_found (Some (ty_tree c.args.left.now)) c.args.number text c.in-Ok.view c.with_left.result (c.in-Ok.ensures.accepted text h) c.with_left.ensures.same

pub returns-in-Err-clause-view : goal.returns-in-Err-clause-view
returns-in-Err-clause-view c = λ text h. c.refused_view.ensures.refused (Some (ty_tree c.args.left.now)) (lens_of text) (c.in-Err.ensures.accepted text h)
