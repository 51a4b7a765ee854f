use Rattle.std.proofs.Common.{refl}
use Rattle.lens_types.proofs.Entries.{type_measures, no_type}
use Rattle.lens_types.proofs.earlier.Earlier.type_parts.Goals as goal

pub returns-in-Some : goal.returns-in-Some
returns-in-Some c = (type_measures c.args.self.now c.len.result c.args.name.now c.in-Some.known c.in-Some.ensures c.len.ensures).parts

pub returns-in-None : goal.returns-in-None
returns-in-None c = rw (no_type c.args.self.now c.len.result c.args.name.now c.in-None.ensures c.len.ensures) refl
