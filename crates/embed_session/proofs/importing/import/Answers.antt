use Rattle.embed_session.proofs.RefusedPrograms.{refused_imported}
use Rattle.embed_session.proofs.importing.import.Goals as goal

pub returns-in-Err : goal.returns-in-Err
returns-in-Err c =
    refused_imported c.args.program.now c.args.side c.args.document.now c.closed.result (c.closed.ensures c.args.program.now c.in-Err.ensures.begun)
