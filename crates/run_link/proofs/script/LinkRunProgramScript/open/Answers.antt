use Rattle.program_accepted.specs.Program.{lens_of}
use Rattle.run_link.proofs.script.LinkRunProgramScript.open.Goals as goal

pub returns-in-Err : goal.returns-in-Err
returns-in-Err c = λ part h. c.refusal.ensures (lens_of part) (c.in-Err.ensures.lens part h)
