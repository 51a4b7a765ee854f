use Rattle.program_accepted.specs.Program.{lens_of}
use Rattle.run_pair.proofs.pair.PairRunProgramScript.open.Goals as goal

pub returns-in-Err : goal.returns-in-Err
returns-in-Err c = λ part h. c.not_opened.ensures (lens_of part) (c.in-Err.ensures.lens part h)
