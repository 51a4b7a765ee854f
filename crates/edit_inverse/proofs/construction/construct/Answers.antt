use Rattle.doc_values.specs.Documents.{doc_tree}
use Rattle.doc_values.specs.Types.{ty_tree}
use Rattle.edit_inverse.proofs.Constructs.{made-acts}
use Rattle.edit_inverse.proofs.construction.construct.Goals as goal

pub returns-clause-makes : goal.returns-clause-makes
returns-clause-makes c = made-acts (ty_tree c.args.ty.now) (doc_tree c.args.doc.now) c.build.result c.requires c.build.ensures
