use Rattle.std.proofs.Common.{inl}
use Rattle.store_new.proofs.giving.refuse_program.Goals as goal

pub returns-in-Ok-clause-refuses : goal.returns-in-Ok-clause-refuses
returns-in-Ok-clause-refuses g c = λ outcome is.
    let line = c.in-Ok.ensures.line outcome is in
    inl (c.in-Ok.line, record { refusal = line.refusal; is = line.is; is_line = line.is_line }, rw c.as_slice.ensures at c.give_line.ensures.gives)
