use Rattle.law_stores.proofs.CallsAreRuns.{leaves_first_lines, finishes_lines}
use Rattle.law_stores.proofs.a_call_leaves_a_run.Goals as goal

pub returns-clause-leaves : goal.returns-clause-leaves
returns-clause-leaves g c old new status store image a is =
    leaves_first_lines g.S.Source g.K.Sink g.D.Disk g.A.StoredSession old new status store a image is

pub returns-clause-finishes : goal.returns-clause-finishes
returns-clause-finishes g c old new status store a h = finishes_lines g.S.Source g.K.Sink g.D.Disk g.A.StoredSession old new status store a h
