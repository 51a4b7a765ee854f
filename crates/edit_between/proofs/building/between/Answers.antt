use Rattle.doc_values.specs.Documents.{doc_tree}
use Rattle.doc_values.specs.Types.{ty_tree}
use Rattle.edit_between.proofs.BetweenActs.{made-leads}
use Rattle.edit_between.proofs.building.between.Goals as goal

pub returns-clause-leads : goal.returns-clause-leads
returns-clause-leads c = made-leads (ty_tree c.args.ty.now) (doc_tree c.args.from.now) (doc_tree c.args.to.now) c.build.result c.requires.from c.requires.to c.build.ensures
