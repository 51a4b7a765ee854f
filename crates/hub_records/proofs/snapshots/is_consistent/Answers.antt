use Rattle.std.proofs.Common.{rules}
use Rattle.doc_values.specs.Documents.{doc_tree}
use Rattle.lens_core.specs.Complements.{comp_tree}
use Rattle.lens_forms.specs.Forms.{form_tree}
use Rattle.store_session.specs.ConsistencyDecided.{all_decided}
use Rattle.hub_records.proofs.snapshots.is_consistent.Goals as goal

pub returns : goal.returns
returns c =
    let v = c.args.shown.now in
    all_decided c.consistent.result (form_tree c.args.typed.now) (doc_tree c.args.hub.now) (comp_tree v.comp) (doc_tree v.doc.value) (search rules) (rw c.deref.ensures at c.consistent.ensures)
