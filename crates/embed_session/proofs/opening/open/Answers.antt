use Rattle.embed_session.proofs.RefusedPrograms.{refused_opened}
use Rattle.embed_session.proofs.opening.open.Goals as goal

pub returns-in-Err : goal.returns-in-Err
returns-in-Err c = refused_opened c.args.program.now c.closed.result (c.closed.ensures c.args.program.now c.in-Err.ensures.begun)
