use Rattle.program_terms.specs.Views.{lens_tree}
use Rattle.lens_types.specs.Earlier.{expanded_form}
use Rattle.lens_types.specs.Entries.{earlier_tree}
use Rattle.lens_types.proofs.SideTypes.{left_side, right_side}
use Rattle.lens_types.proofs.lenses.same_middle.Goals as goal

pub returns : goal.returns
returns c =
    let es = c.args.earlier.now in
    let first = lens_tree c.args.first.now in
    let second = lens_tree c.args.second.now in
    c.same_types.ensures (expanded_form (earlier_tree es) first) (expanded_form (earlier_tree es) second)
    (right_side es c.len.result first _ c.len.ensures (rw c.in_ok-left.ensures.first at c.side_type-left.ensures))
    (left_side es c.len-2.result second _ c.len-2.ensures (rw c.in_ok-left.ensures.second at c.side_type-right.ensures))
