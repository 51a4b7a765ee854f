use Rattle.std.proofs.Common.{sym, subst, ◌∙◌}
use Rattle.std.proofs.lemmas.Option.{same_Some}
use Rattle.editstore_main.specs.StoreEnds.{EndsStoreOrder}
use Rattle.editstore_main.proofs.top.editstore.Goals as goal

pub returns-in-Some-clause-pair : goal.returns-in-Some-clause-pair
returns-in-Some-clause-pair g c = λ upkeep named.
    subst (EndsStoreOrder g.K.Sink g.D.Disk g.E.Disk (c.args.sink.now, c.args.from.now, c.args.to.now) (c.run_order.new.sink, c.run_order.new.from, c.run_order.new.to) c.run_order.result) (same_Some _ _ (c.in-Some.ensures.order ∙ named)) c.run_order.ensures.ends

pub returns-in-Some-clause-hub : goal.returns-in-Some-clause-hub
returns-in-Some-clause-hub g c = λ upkeep named.
    subst (EndsStoreOrder g.K.Sink g.D.Disk g.E.Disk (c.args.sink.now, c.args.from.now, c.args.to.now) (c.run_order.new.sink, c.run_order.new.from, c.run_order.new.to) c.run_order.result) (same_Some _ _ (c.in-Some.ensures.order ∙ named)) c.run_order.ensures.ends
