use Rattle.std.proofs.Common.{sym, subst}
use Rattle.editstore_main.specs.StoreEnds.{RemakesKind}
use Rattle.editstore_main.proofs.top.run_order.Goals as goal

pub returns-in-Pair-clause-ends : goal.returns-in-Pair-clause-ends
returns-in-Pair-clause-ends g c =
    subst (λ kind. RemakesKind g.K.Sink g.D.Disk g.E.Disk (c.args.sink.now, c.args.from.now, c.args.to.now) (c.remake.new.sink, c.remake.new.from, c.remake.new.to) c.remake.result kind c.args.order.upkeep) (sym c.in-Pair.is) c.remake.ensures.remakes

pub returns-in-Hub-clause-ends : goal.returns-in-Hub-clause-ends
returns-in-Hub-clause-ends g c =
    subst (λ kind. RemakesKind g.K.Sink g.D.Disk g.E.Disk (c.args.sink.now, c.args.from.now, c.args.to.now) (c.remake-in-Hub.new.sink, c.remake-in-Hub.new.from, c.remake-in-Hub.new.to) c.remake-in-Hub.result kind c.args.order.upkeep) (sym c.in-Hub.is) c.remake-in-Hub.ensures.remakes
