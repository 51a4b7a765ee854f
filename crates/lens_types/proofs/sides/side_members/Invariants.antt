use Rattle.std.proofs.Common.{◌≡◌, ◌++◌, drop}
use Rattle.lens_types.specs.SideTypes.{members_on}
use Rattle.lens_types.proofs.sides.side_members.Given as goal

abbrev pub invariant-loop-pair : goal.invariant-loop-pair
invariant-loop-pair l =
    l.members.items ++ members_on l.side (drop l.pair-index l.pairs) ≡ members_on l.side l.pairs
