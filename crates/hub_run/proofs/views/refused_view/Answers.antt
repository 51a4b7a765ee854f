use Rattle.std.proofs.Common.{subst}
use Rattle.program_accepted.specs.Refused.{IsProgramRefusal}
use Rattle.hub_run.proofs.FoundViews.{view_syntax, view_typing}
use Rattle.hub_run.proofs.views.refused_view.Goals as goal

pub returns-in-Syntax-clause-refused : goal.returns-in-Syntax-clause-refused
returns-in-Syntax-clause-refused c = λ ty outcome h. view_syntax ty c.args.number outcome c.in-Syntax.fault (subst (IsProgramRefusal outcome) c.in-Syntax.is h)

pub returns-in-Typing-clause-refused : goal.returns-in-Typing-clause-refused
returns-in-Typing-clause-refused c = λ ty outcome h. view_typing ty c.args.number outcome c.in-Typing.fault (subst (IsProgramRefusal outcome) c.in-Typing.is h)
