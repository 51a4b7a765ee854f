use Rattle.store_copy.proofs.remaking.back.Goals as goal

pub returns-clause-remakes : goal.returns-clause-remakes
returns-clause-remakes g c = c.remake.ensures.remakes c.requires
