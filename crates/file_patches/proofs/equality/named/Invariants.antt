use Rattle.std.proofs.Common.{◌≡◌, drop}
use Rattle.file_trees.specs.FileTrees.{members_view}
use Rattle.file_patches.specs.Equality.{named}
use Rattle.file_patches.proofs.equality.named.Given as goal

abbrev pub invariant-loop-member : goal.invariant-loop-member
invariant-loop-member l = named l.name (members_view (drop l.member-index l.member-items)) ≡ named l.name (members_view l.member-items)
