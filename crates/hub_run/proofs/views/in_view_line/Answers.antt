use Rattle.hub_run.proofs.FoundViews.{part_in_view}
use Rattle.hub_run.proofs.views.in_view_line.Goals as goal

pub returns : goal.returns
returns c = part_in_view c.view_line.result c.in_ok-line.line c.args.number c.args.refused.now c.in_ok-line.ensures.line c.view_line.ensures
