use Rattle.std.proofs.Common.{◌≡◌, [], map, replicate}
use Rattle.lens_check.specs.PartLists.{trees_in}
use Rattle.lens_check.proofs.image_part_left.empty_lists.Given as goal

abbrev pub invariant-loop : goal.invariant-loop
invariant-loop l = map trees_in l.lists.items ≡ replicate l.counter []
