use Rattle.embed_session.proofs.RefusedPrograms.{refused_resumed}
use Rattle.embed_session.proofs.resuming.resume.Goals as goal

pub returns-in-Err : goal.returns-in-Err
returns-in-Err c =
    refused_resumed c.args.program.now c.args.left.now c.args.comp.now c.args.right.now c.closed.result (c.closed.ensures c.args.program.now c.in-Err.ensures.begun)
