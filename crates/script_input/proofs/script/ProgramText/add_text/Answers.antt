use Rattle.std.proofs.Common.{◌++◌, ap, ◌∙◌, nat_lt, arith}
use borrow.Author.Tests.{ltb-true, ltb-false}
use Rattle.lens_syntax.specs.declared.reading.TheConstants.{MOST_PROGRAM_BYTES}
use Rattle.script_input.proofs.ProgramTexts.{still_long, added}
use Rattle.script_input.proofs.script.ProgramText.add_text.Goals as goal

pub returns-then-self : goal.returns-then-self
returns-then-self c = λ part h. still_long c.args.self.now.is_long c.args.self.now.text.items part c.args.bytes.now c.args.end.now c.if-self.true h

pub returns : goal.returns
returns c = λ part h.
    added c.args.self.now.is_long (nat_lt MOST_PROGRAM_BYTES c.len.result) c.args.self.now.text.items c.extend_from_slice-2.new.self.items part c.args.bytes.now c.args.end.now c.if-self.false h
    (c.in_ok-extend_from_slice-2.ensures.items ∙ ap (λ t. t ++ c.args.end.now) c.in_ok-extend_from_slice.ensures.items)
    (λ e. omega (arith, ltb-true MOST_PROGRAM_BYTES c.len.result e, c.len.ensures))
    (λ e. omega (arith, ltb-false MOST_PROGRAM_BYTES c.len.result e, c.len.ensures))
