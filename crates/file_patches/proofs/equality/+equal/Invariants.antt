use Rattle.std.proofs.Common.{◌≡◌, drop}
use Rattle.file_trees.specs.FileTrees.{items_view, members_view}
use Rattle.file_patches.specs.Equality.{items_equal, members_equal}
use Rattle.file_patches.proofs.equality.+equal.Given as goal

abbrev pub invariant-are_items_equal-loop-i : goal.invariant-are_items_equal-loop-i
invariant-are_items_equal-loop-i l =
    items_equal (items_view (drop l.i l.items.items)) (items_view (drop l.i l.others.items)) ≡ items_equal (items_view l.items.items) (items_view l.others.items)

abbrev pub invariant-are_members_equal-loop-member : goal.invariant-are_members_equal-loop-member
invariant-are_members_equal-loop-member l =
    members_equal (members_view (drop l.member-index l.member-items)) (members_view l.others.items) ≡ members_equal (members_view l.member-items) (members_view l.others.items)
