use Rattle.std.proofs.Common.{refl}
use Rattle.lens_types.proofs.Entries.{lens_measures, no_lens}
use Rattle.lens_types.proofs.earlier.Earlier.lens_height.Goals as goal

pub returns-in-Some : goal.returns-in-Some
returns-in-Some c = (lens_measures c.args.self.now c.len.result c.args.name.now c.in-Some.known c.in-Some.ensures c.len.ensures).height

pub returns-in-None : goal.returns-in-None
returns-in-None c = rw (no_lens c.args.self.now c.len.result c.args.name.now c.in-None.ensures c.len.ensures) refl
