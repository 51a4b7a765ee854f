use Rattle.doc_values.specs.Types.{ty_tree}
use Rattle.edit_inverse.proofs.walk.spliced.Goals as goal

pub returns-clause-back : goal.returns-clause-back
returns-clause-back c = c.in_ok-back.ensures.back (ty_tree c.args.ty.now)

pub returns-clause-meets : goal.returns-clause-meets
returns-clause-meets c = c.in_ok-back.ensures.meets (ty_tree c.args.ty.now)
