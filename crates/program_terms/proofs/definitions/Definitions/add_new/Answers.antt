use Rattle.std.proofs.Common.{sym, ◌∙◌}
use Rattle.indexmap.proofs.CallerLemmas.{insert_entry-new}
use Rattle.program_terms.proofs.FindDefinition.{absent, added}
use Rattle.program_terms.proofs.definitions.Definitions.add_new.Goals as goal

pub returns-clause-added : goal.returns-clause-added
returns-clause-added c =
    let old = c.args.self.now.entries in
    let none = absent c.args.name old.entries (sym c.requires) in
    added c.args.name c.args.def old.entries c.insert.new.self.entries (c.in_ok-insert.ensures.entries ∙ insert_entry-new _ old c.args.name c.args.def none)
