use Rattle.store_new.proofs.importing.step_applied.Goals as goal

pub unreachable-requires : goal.unreachable-requires
unreachable-requires g c =
    let none = c.in-Err-NoApply.ensures.applies c.requires.applies.0 c.requires.applies.1 in
    cc
