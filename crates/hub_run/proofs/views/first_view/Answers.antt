use Rattle.std.proofs.Common.{None}
use Rattle.program_accepted.specs.Program.{lens_of}
use Rattle.hub_run.proofs.ViewsRead.{first_found}
use Rattle.hub_run.proofs.views.first_view.Goals as goal

pub returns-in-Ok-clause-view : goal.returns-in-Ok-clause-view
returns-in-Ok-clause-view c = λ text h. first_found text c.in-Ok.view (c.in-Ok.ensures.accepted text h)

pub returns-in-Err-clause-view : goal.returns-in-Err-clause-view
returns-in-Err-clause-view c = λ text h. c.refused_view.ensures.refused None (lens_of text) (c.in-Err.ensures.accepted text h)
