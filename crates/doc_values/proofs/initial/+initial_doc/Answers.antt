use Rattle.std.proofs.Common.{◌≡◌, ◌≤◌, length, ap, subst, arith}
use Rattle.std.specs.Prelude.{IfOk}
use Rattle.doc_values.specs.Documents.{DocTrees, docs_tree}
use Rattle.doc_values.specs.declared.ty.Fields.{out-Fields}
use Rattle.doc_values.proofs.Lists.{initial_done, fields_tree-out}
use Rattle.doc_values.proofs.initial.+initial_doc.Goals as goal

pub initial_fields-returns : goal.initial_fields-returns
initial_fields-returns t c =
    let fields = (out-Fields c.args.fields.now).items in
    let same = c.deref-field-items.ensures.value in
    let past : length fields.items ≤ c.loop-field.field-index = omega (arith, ap length same) in
    let done = initial_done c.loop-field.items.items fields.items c.loop-field.field-index past (rw same at c.loop-field.invariant) in
    rw (fields_tree-out c.args.fields.now)
    (subst (λ (ds : DocTrees). IfOk c.from_vec.result (λ d. docs_tree d ≡ ds)) done c.from_vec.ensures)
