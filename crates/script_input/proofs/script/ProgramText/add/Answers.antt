use Rattle.std.proofs.Common.{◌++◌, sym, ◌∙◌, length-append, arith}
use Rattle.script_input.proofs.ProgramTexts.{long_line}
use Rattle.script_input.proofs.script.ProgramText.add.Goals as goal

pub returns-in-TooLong : goal.returns-in-TooLong
returns-in-TooLong c = λ part text h line.
    omega (arith, long_line text (sym c.in-TooLong.is ∙ line), length-append (part ++ text) c.args.end.now, length-append part text)
