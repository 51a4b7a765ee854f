use Rattle.std.proofs.Common.{ap, ◌∙◌, rules}
use Rattle.serde_json.specs.View.{view}
use Rattle.serde_json.specs.Written.{has_float}
use Rattle.doc_values.specs.Documents.{doc_tree}
use Rattle.edit_json.proofs.Writing.{whatever_ok}
use Rattle.lens_core.specs.Complements.{comp_tree}
use Rattle.lens_forms.specs.Forms.{form_tree}
use Rattle.store_records.proofs.PayloadTrees.{snapshot_whole, snapshot_low, read_low}
use Rattle.store_records.proofs.payloads.snapshot_payload.Goals as goal

pub payload_of-payload-requires : goal.payload_of-payload-requires
payload_of-payload-requires c =
    ap has_float c.in_ok-tree.ensures.tree ∙ snapshot_whole (form_tree c.args.typed.now) (doc_tree c.args.left.now) (comp_tree c.args.comp.now) (doc_tree c.args.right.now)

pub returns-clause-reads_back : goal.returns-clause-reads_back
returns-clause-reads_back c =
    let l = form_tree c.args.typed.now in
    let low = snapshot_low l (doc_tree c.args.left.now) (comp_tree c.args.comp.now) (doc_tree c.args.right.now) (search rules) (search rules) (search rules) in
    read_low c.payload_of-payload.result (view c.in_ok-tree.tree) _ c.in_ok-tree.ensures.tree low c.payload_of-payload.ensures.reads_back

pub returns-clause-left_ints : goal.returns-clause-left_ints
returns-clause-left_ints c = whatever_ok c.payload_of-payload.result c.in_ok-tree.ensures.left_ints

pub returns-clause-right_ints : goal.returns-clause-right_ints
returns-clause-right_ints c = whatever_ok c.payload_of-payload.result c.in_ok-tree.ensures.right_ints
