use Rattle.std.proofs.Common.{ap, arith}
use Rattle.lens_types.proofs.Sizes.{field_smaller}
use Rattle.lens_types.specs.Sizes.{fields_size}
use Rattle.lens_types.proofs.types.+check_type.Goals as goal

pub check_fields-check_type-requires : goal.check_fields-check_type-requires
check_fields-check_type-requires t c =
    let low = field_smaller c.as_slice-field-items.result.now c.loop-field.field-index c.field-item.result c.loop-field-test.true c.field-item.is in
    let same = ap fields_size c.as_slice-field-items.ensures in
    (omega (arith, low, same), tt)
