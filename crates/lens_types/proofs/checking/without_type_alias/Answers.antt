use Rattle.lens_types.proofs.Entries.{type_alias, type_itself}
use Rattle.lens_types.proofs.Nodes.{type_tree-named}
use Rattle.lens_types.proofs.checking.without_type_alias.Goals as goal

pub returns : goal.returns
returns c =
    rw (c.in-Named.is, type_tree-named) (type_alias c.args.earlier.now c.args.known.scope c.in-Named.name c.in-Some.other c.in-Some.ensures c.requires.scope)

pub returns-2 : goal.returns-2
returns-2 c = type_itself c.args.earlier.now c.args.known c.requires.scope c.requires.measured
