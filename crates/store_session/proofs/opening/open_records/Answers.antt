use Rattle.store_session.proofs.Openings.{bad_first}
use Rattle.store_session.proofs.opening.open_records.Goals as goal

pub returns-in-Err : goal.returns-in-Err
returns-in-Err c = record { stands = bad_first c.args.payloads.now c.in-Err.fault c.in-Err.ensures.lens }
