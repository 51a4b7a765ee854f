use Rattle.std.proofs.Common.{length, nat_eq, ap, sym, ◌∙◌}
use Rattle.lens_types.proofs.SideTypes.{left_partition, right_partition}
use Rattle.lens_types.proofs.sides.partition_side.Goals as goal

pub returns-in-Left : goal.returns-in-Left
returns-in-Left c =
    let some = ap (λ xs. nat_eq (length xs) 0) (sym c.as_slice.ensures.value) ∙ sym c.is_empty.ensures ∙ c.if-is_empty.false in
    rw (c.in-Left.is, left_partition c.args.tags.items some) c.list_of_alternatives.ensures

pub returns-in-Right : goal.returns-in-Right
returns-in-Right c =
    let some = ap (λ xs. nat_eq (length xs) 0) (sym c.as_slice.ensures.value) ∙ sym c.is_empty.ensures ∙ c.if-is_empty.false in
    rw (c.in-Right.is, right_partition c.args.tags.items some) c.record_of_lists.ensures
