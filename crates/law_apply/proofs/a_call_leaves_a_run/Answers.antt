use Rattle.law_apply.proofs.CallsLeaveRuns.{leaves_run, finishes_run}
use Rattle.law_apply.proofs.a_call_leaves_a_run.Goals as goal

pub returns-clause-leaves : goal.returns-clause-leaves
returns-clause-leaves g c old new status store image a is = leaves_run g.S.Source g.K.Sink g.D.Disk old new status store a image is

pub returns-clause-finishes : goal.returns-clause-finishes
returns-clause-finishes g c old new status store a h = finishes_run g.S.Source g.K.Sink g.D.Disk old new status store a h
