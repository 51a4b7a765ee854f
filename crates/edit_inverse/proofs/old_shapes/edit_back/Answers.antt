use Rattle.std.proofs.Common.{◌≡◌, IfOk, sym, subst}
use Rattle.hold_shapes.specs.declared.edit.ShapeEdit.{ShapeEdit}
use Rattle.doc_values.specs.Documents.{docs_tree}
use Rattle.doc_values.specs.Types.{ty_tree}
use Rattle.edit_module.specs.Views.{word_tree}
use Rattle.edit_inverse.specs.Construct.{construct_each}
use Rattle.edit_inverse.specs.Inverse.{inverse_shape}
use Rattle.edit_inverse.proofs.old_shapes.edit_back.Goals as goal

pub returns-in-Hang : goal.returns-in-Hang
returns-in-Hang c =
    let ws = construct_each (ty_tree c.args.inner.now) (docs_tree c.args.docs.now) in
    let P : ShapeEdit → Type 0 = λ e. IfOk c.hung_back.result (λ w. word_tree w ≡ inverse_shape e c.args.shape.now ws) in
    subst P (sym c.in-Hang.is) (c.hung_back.ensures ws)
