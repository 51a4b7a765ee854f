use Rattle.std.proofs.Common.{rules}
use Rattle.doc_values.specs.Documents.{doc_tree}
use Rattle.lens_core.specs.Complements.{comp_tree}
use Rattle.lens_forms.specs.Forms.{form_tree}
use Rattle.store_session.specs.ConsistencyDecided.{all_decided}
use Rattle.store_session.proofs.snapshot_reading.is_in_step.Goals as goal

pub returns-clause-tested : goal.returns-clause-tested
returns-clause-tested c =
    let t = c.args.triple.now in
    all_decided c.consistent.result (form_tree c.args.typed.now) (doc_tree t.left) (comp_tree t.comp) (doc_tree t.right) (search rules) c.consistent.ensures
