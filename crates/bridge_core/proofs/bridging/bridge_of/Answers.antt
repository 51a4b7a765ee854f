use Rattle.std.proofs.Common.{ap, ◌∙◌}
use Rattle.doc_values.specs.Documents.{doc_tree}
use Rattle.doc_values.specs.Types.{ty_tree}
use Rattle.edit_module.specs.Views.{word_tree}
use Rattle.bridge_core.specs.Bridges.{BridgeTree, bridge_tree}
use Rattle.bridge_core.specs.Bridged.{bridge}
use Rattle.bridge_core.proofs.BridgeItems.{bridge_tree-Same}
use Rattle.bridge_core.proofs.Walks.{value-spans}
use Rattle.bridge_core.proofs.bridging.bridge_of.Goals as goal

pub returns-in-Ok-clause-spans : goal.returns-in-Ok-clause-spans
returns-in-Ok-clause-spans c =
    let ty = ty_tree c.args.ty.now in
    let word = word_tree c.args.word.now in
    let doc = doc_tree c.args.doc.now in
    value-spans c.a_bridge_spans.ensures ty word (bridge_tree c.in-Ok.made.bridge) doc (doc_tree c.in-Ok.made.value)
    c.requires.well_formed c.requires.typed c.in-Ok.ensures.value
    (c.in-Ok.ensures.bridge ∙ ap (λ (b : BridgeTree). bridge ty word doc b) bridge_tree-Same)
