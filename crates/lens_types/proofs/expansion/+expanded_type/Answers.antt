use Rattle.std.proofs.Common.{take, ap, arith}
use Rattle.lens_types.specs.Entries.{earlier_tree}
use Rattle.lens_types.specs.Sizes.{fields_size}
use Rattle.lens_types.proofs.Lists.{fields_done}
use Rattle.lens_types.proofs.Sizes.{field_smaller}
use Rattle.lens_types.proofs.expansion.+expanded_type.Goals as goal

pub expanded_fields-expanded_type-ty-requires : goal.expanded_fields-expanded_type-ty-requires
expanded_fields-expanded_type-ty-requires t c =
    let low = field_smaller c.as_slice-field-items.result.now c.loop-field.field-index c.field-item.result c.loop-field-test.true c.field-item.is in
    let same = ap fields_size c.as_slice-field-items.ensures in
    (omega (arith, low, same), tt)

pub expanded_fields-returns : goal.expanded_fields-returns
expanded_fields-returns t c =
    let xs = c.as_slice-field-items.result.now in
    rw (← c.as_slice-field-items.ensures)
    (fields_done (take c.args.scope (earlier_tree c.args.earlier.now)) xs c.loop-field.items.items c.loop-field.field-index (omega arith) c.loop-field.invariant)
