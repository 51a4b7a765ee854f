use Rattle.doc_values.specs.Types.{ty_tree}
use Rattle.edit_module.specs.Views.{word_tree}
use Rattle.bridge_core.specs.Bridges.{bridge_tree}
use Rattle.bridge_core.proofs.Walks.{carried-acts, refused-gone}
use Rattle.bridge_core.proofs.carrying.carry.Goals as goal

pub returns-clause-refused : goal.returns-clause-refused
returns-clause-refused c =
    refused-gone c.only_what_is_gone_is_refused.ensures (ty_tree c.args.ty.now) (bridge_tree c.args.bridge.now) (word_tree c.args.word.now) c.walk.result c.walk.ensures

pub returns-clause-acts : goal.returns-clause-acts
returns-clause-acts c =
    carried-acts c.a_carried_word_acts.ensures (ty_tree c.args.ty.now) (bridge_tree c.args.bridge.now) (word_tree c.args.word.now) c.walk.result c.walk.ensures
