use Rattle.std.proofs.Common.{◌+◌, ap, sym, ◌∙◌, arith}
use Rattle.lens_types.specs.Heights.{capped}
use Rattle.lens_types.proofs.CappedHeights.{capped-next, height-record}
use Rattle.lens_types.proofs.Nodes.{type_tree-rec}
use Rattle.lens_types.proofs.Sizes.{field_smaller}
use Rattle.lens_types.specs.Sizes.{fields_size}
use Rattle.lens_types.proofs.heights.+type_height.Goals as goal

pub fields_height-type_height-requires : goal.fields_height-type_height-requires
fields_height-type_height-requires t c =
    let low = field_smaller c.as_slice-field-items.result.now c.loop-field.field-index c.field-item.result c.loop-field-test.true c.field-item.is in
    let same = ap fields_size c.as_slice-field-items.ensures in
    (omega (arith, low, same), tt)

pub type_height-returns-in-Rec : goal.type_height-returns-in-Rec
type_height-returns-in-Rec t c =
    rw (c.in-Rec.is, type_tree-rec)
    (c.next_height.ensures ∙ ap (λ h. capped (h + 1)) c.fields_height.ensures ∙ capped-next _ ∙ ap capped (sym (height-record _)))
