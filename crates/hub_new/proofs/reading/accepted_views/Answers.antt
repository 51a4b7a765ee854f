use Rattle.hub_new.proofs.ViewPrograms.{part_found}
use Rattle.hub_new.proofs.reading.accepted_views.Goals as goal

pub returns-clause-accepted : goal.returns-clause-accepted
returns-clause-accepted c = λ part h. part_found part c.args.pieces.now h c.views.result (c.views.ensures.views h.ended h.begun h.holds)
