use Rattle.std.proofs.Common.{ap, arith}
use Rattle.doc_values.specs.Types.{highest}
use Rattle.doc_values.proofs.Heights.{field_height}
use Rattle.program_writing.proofs.ty_text.+put_ty.Goals as goal

pub put_ty_fields-put_ty-requires : goal.put_ty_fields-put_ty-requires
put_ty_fields-put_ty-requires t c =
    let low = field_height c.as_slice-field-items.result.now c.loop-field.field-index c.field-item.result c.loop-field-test.true c.field-item.is in
    let same = ap highest c.as_slice-field-items.ensures in
    (omega (arith, low, same), tt)
