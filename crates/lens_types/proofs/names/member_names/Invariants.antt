use Rattle.std.proofs.Common.{◌≡◌, ◌++◌, map, drop}
use Rattle.lens_types.specs.Repeats.{sided, sided_members}
use Rattle.lens_types.proofs.names.member_names.Given as goal

abbrev pub invariant-loop-member : goal.invariant-loop-member
invariant-loop-member l =
    map sided l.names.items ++ sided_members (drop l.member-index l.members) ≡ sided_members l.members
