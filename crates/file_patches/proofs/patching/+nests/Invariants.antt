use Rattle.std.proofs.Common.{◌≡◌, leb, drop}
use Rattle.json.specs.Tree.{items_depth, members_depth}
use Rattle.file_trees.specs.FileTrees.{items_view, members_view}
use Rattle.file_patches.proofs.patching.+nests.Given as goal

abbrev pub invariant-items_nest_within-loop-item : goal.invariant-items_nest_within-loop-item
invariant-items_nest_within-loop-item l =
    leb (items_depth (items_view (drop l.item-index l.item-items))) l.levels ≡ leb (items_depth (items_view l.item-items)) l.levels

abbrev pub invariant-members_nest_within-loop-member : goal.invariant-members_nest_within-loop-member
invariant-members_nest_within-loop-member l =
    leb (members_depth (members_view (drop l.member-index l.member-items))) l.levels ≡ leb (members_depth (members_view l.member-items)) l.levels
