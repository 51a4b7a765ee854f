use Rattle.lens_types.proofs.Entries.{lens_alias, lens_itself}
use Rattle.lens_types.proofs.Nodes.{lens_tree-named}
use Rattle.lens_types.proofs.checking.without_lens_alias.Goals as goal

pub returns : goal.returns
returns c =
    rw (c.in-Named.is, lens_tree-named) (lens_alias c.args.earlier.now c.args.known.scope c.in-Named.name c.in-Some.other c.in-Some.ensures c.requires.scope)

pub returns-2 : goal.returns-2
returns-2 c = lens_itself c.args.earlier.now c.args.known c.requires.scope c.requires.measured
