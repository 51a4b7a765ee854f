use Rattle.std.proofs.Common.{◌≡◌, drop}
use Rattle.json.specs.Strict.{keys}
use Rattle.texts.specs.Keys.{key_from, key_place}
use Rattle.file_trees.specs.FileTrees.{members_view}
use Rattle.file_patches.proofs.places.member_position.Given as goal

abbrev pub invariant-loop-i : goal.invariant-loop-i
invariant-loop-i l = key_from l.i l.name (keys (members_view (drop l.i l.members.items))) ≡ key_place l.name (keys (members_view l.members.items))
