use Rattle.hub_run.proofs.FoundViews.{in_view_line_is}
use Rattle.hub_run.proofs.views.refusal_line.Goals as goal

pub returns-in-InView-clause-line : goal.returns-in-InView-clause-line
returns-in-InView-clause-line c = in_view_line_is c.in_view_line.result c.in-InView.number c.in-InView.refused c.args.refused.now c.in-InView.is c.in_view_line.ensures
