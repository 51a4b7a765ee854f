use Rattle.std.proofs.Common.{refl, sym, subst}
use Rattle.store_run.specs.Refusals.{WritesRefusal}
use Rattle.store_run.specs.declared.refusals.StoreRefusal.{StoreRefusal}
use Rattle.store_run.specs.declared.refusals.StoreRefusal.TheVariants.{NotALog, LogExists, LogFull, BadRecord, NotConsistent, NothingToUndo}
use Rattle.store_run.proofs.RefusalEnds.{refuses_given}
use Rattle.store_run.proofs.refusals.refuse.Goals as goal

pub returns-in-NotALog-clause-refuses : goal.returns-in-NotALog-clause-refuses
returns-in-NotALog-clause-refuses g c = refuses_given g.K.Sink c.args.sink.now c.give_refusal.new.sink _ NotALog _ _ refl c.in-NotALog.is c.give_refusal.ensures.gives

pub returns-in-LogExists-clause-refuses : goal.returns-in-LogExists-clause-refuses
returns-in-LogExists-clause-refuses g c = refuses_given g.K.Sink c.args.sink.now c.give_refusal-in-LogExists.new.sink _ LogExists _ _ refl c.in-LogExists.is c.give_refusal-in-LogExists.ensures.gives

pub returns-in-LogFull-clause-refuses : goal.returns-in-LogFull-clause-refuses
returns-in-LogFull-clause-refuses g c = refuses_given g.K.Sink c.args.sink.now c.give_refusal-in-LogFull.new.sink _ LogFull _ _ refl c.in-LogFull.is c.give_refusal-in-LogFull.ensures.gives

pub returns-in-BadRecord-clause-refuses : goal.returns-in-BadRecord-clause-refuses
returns-in-BadRecord-clause-refuses g c =
    let sink = g.K.Sink in
    subst (λ (r : StoreRefusal). WritesRefusal sink c.args.sink.now c.give_made.new.sink r c.give_made.result) (sym c.in-BadRecord.is)
    (c.give_made.ensures.refuses (BadRecord c.in-BadRecord.number) c.bad_record_line.ensures)

pub returns-in-NotConsistent-clause-refuses : goal.returns-in-NotConsistent-clause-refuses
returns-in-NotConsistent-clause-refuses g c =
    let sink = g.K.Sink in
    subst (λ (r : StoreRefusal). WritesRefusal sink c.args.sink.now c.give_made-in-NotConsistent.new.sink r c.give_made-in-NotConsistent.result) (sym c.in-NotConsistent.is)
    (c.give_made-in-NotConsistent.ensures.refuses (NotConsistent c.in-NotConsistent.number) c.not_consistent_line.ensures)

pub returns-in-NothingToUndo-clause-refuses : goal.returns-in-NothingToUndo-clause-refuses
returns-in-NothingToUndo-clause-refuses g c = refuses_given g.K.Sink c.args.sink.now c.give_refusal-in-NothingToUndo.new.sink _ NothingToUndo _ _ refl c.in-NothingToUndo.is c.give_refusal-in-NothingToUndo.ensures.gives
