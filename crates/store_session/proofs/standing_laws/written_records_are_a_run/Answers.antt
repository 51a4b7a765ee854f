use Rattle.store_session.proofs.LastTriple.{run_of, count_of}
use Rattle.store_session.proofs.standing_laws.written_records_are_a_run.Goals as goal

pub returns-clause-triple : goal.returns-clause-triple
returns-clause-triple g c = λ ws s end h k. run_of _ s end ws h k

pub returns-clause-count : goal.returns-clause-count
returns-clause-count g c = λ ws s end h. count_of s end ws h
