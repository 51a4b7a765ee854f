use Rattle.std.proofs.Common.{◌≡◌, drop}
use Rattle.file_trees.specs.FileTrees.{members_view}
use Rattle.file_forms.specs.Orders.{by_name}
use Rattle.file_values.specs.Reading.{lent_members}
use Rattle.file_values.proofs.members.by_name.Given as goal

abbrev pub invariant-loop-i : goal.invariant-loop-i
invariant-loop-i l = lent_members l.map.entries ≡ by_name (members_view (drop l.i l.members))
