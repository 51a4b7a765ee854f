use Rattle.lens_types.specs.declared.known.KnownLens.{KnownLens}
use Rattle.lens_types.proofs.Entries.{measured_lens}
use Rattle.lens_types.proofs.checking.defined_lens.Goals as goal

pub without_lens_alias-requires-clause-measured : goal.without_lens_alias-requires-clause-measured
without_lens_alias-requires-clause-measured c =
    let known : KnownLens =
    record { lens = c.args.lens; scope = c.len.result; parts = c.in-Some.parts; height = c.lens_height-height.result; sides = c.in_ok-sides.sides } in
    measured_lens c.args.earlier.now known c.len.ensures c.in-Some.ensures.1 c.lens_height-height.ensures c.in_ok-sides.ensures.1
