use Rattle.std.proofs.Common.{◌≡◌, drop}
use Rattle.file_trees.specs.FileTrees.{members_view}
use Rattle.file_forms.specs.Orders.{first_named}
use Rattle.file_values.proofs.members.first_named.Given as goal

abbrev pub invariant-loop-member : goal.invariant-loop-member
invariant-loop-member l = first_named l.name (members_view (drop l.member-index l.members)) ≡ first_named l.name (members_view l.members)
