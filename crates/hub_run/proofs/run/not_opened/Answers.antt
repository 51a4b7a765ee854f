use Rattle.hub_run.specs.Lenses.{lenses_of}
use Rattle.hub_run.proofs.HubStarts.{refused_with}
use Rattle.hub_run.proofs.run.not_opened.Goals as goal

pub returns-in-Ok : goal.returns-in-Ok
returns-in-Ok c = λ part none. refused_with (lenses_of part) c.args.refused.now c.in-Ok.line c.in-Ok.ensures.refusal c.in-Ok.ensures.line none
