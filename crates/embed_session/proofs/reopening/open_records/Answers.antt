use Rattle.store_session.proofs.Openings.{bad_first}
use Rattle.embed_session.proofs.reopening.open_records.Goals as goal

pub returns-in-Err-clause-stands : goal.returns-in-Err-clause-stands
returns-in-Err-clause-stands c = bad_first c.args.payloads.now c.in-Err.fault c.in-Err.ensures.lens
