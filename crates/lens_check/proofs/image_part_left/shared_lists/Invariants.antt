use Rattle.std.proofs.Common.{◌≡◌, map}
use Rattle.lens_check.specs.PartLists.{trees_in, trees_of}
use Rattle.lens_check.proofs.image_part_left.shared_lists.Given as goal

abbrev pub invariant-loop-list : goal.invariant-loop-list
invariant-loop-list l = map trees_of l.shared.items ≡ map trees_in l.yielded
