use Rattle.hub_records.proofs.WrittenStands.{change_stands, view_stands, snapshot_stands}
use Rattle.hub_records.proofs.laws.written_records_stand.Goals as goal

pub returns-clause-change : goal.returns-clause-change
returns-clause-change c = λ ps p s change hub words before reads counts numbers steps. change_stands ps p s before change hub words reads counts numbers steps

pub returns-clause-view : goal.returns-clause-view
returns-clause-view c = λ ps p s text program form hub before reads is accepted may more. view_stands ps p s before text program form hub reads is accepted may more

pub returns-clause-snapshot : goal.returns-clause-snapshot
returns-clause-snapshot c = λ ps p s before reads typed all whole. snapshot_stands ps p s before reads typed all whole
