use Rattle.store_session.specs.WrittenStands.{one_stands, all_stand}
use Rattle.store_session.proofs.standing_laws.written_records_stand.Goals as goal

pub returns-clause-one : goal.returns-clause-one
returns-clause-one c = one_stands

pub returns-clause-all : goal.returns-clause-all
returns-clause-all c = all_stand
