use Rattle.store_session.specs.WrittenStands.{first_program_stands, program_alone_stands}
use Rattle.store_session.proofs.standing_laws.program_stands.Goals as goal

pub returns-clause-current : goal.returns-clause-current
returns-clause-current c = program_alone_stands

pub returns-clause-first : goal.returns-clause-first
returns-clause-first c = first_program_stands
