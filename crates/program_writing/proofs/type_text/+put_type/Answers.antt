use Rattle.std.proofs.Common.{ap, arith}
use Rattle.program_terms.proofs.Levels.{field_levels, field_within}
use Rattle.program_writing.proofs.type_text.+put_type.Goals as goal

pub put_fields-put_type-requires : goal.put_fields-put_type-requires
put_fields-put_type-requires t c =
    let low = field_within c.as_slice-field-items.result.now c.loop-field.field-index c.field-item.result c.loop-field-test.true c.field-item.is in
    let same = ap field_levels c.as_slice-field-items.ensures in
    (omega (arith, low, same), tt)
