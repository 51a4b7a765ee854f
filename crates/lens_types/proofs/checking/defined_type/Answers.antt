use Rattle.lens_types.specs.declared.known.KnownType.{KnownType}
use Rattle.lens_types.proofs.Entries.{measured_type}
use Rattle.lens_types.proofs.checking.defined_type.Goals as goal

pub without_type_alias-requires-clause-measured : goal.without_type_alias-requires-clause-measured
without_type_alias-requires-clause-measured c =
    let known : KnownType = record { ty = c.args.ty; scope = c.len.result; parts = c.in-Some.parts; height = c.type_height-height.result } in
    measured_type c.args.earlier.now known c.len.ensures c.in-Some.ensures.1 c.type_height-height.ensures
