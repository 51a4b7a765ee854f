use Rattle.std.proofs.Common.{◌≡◌, map, take, drop}
use Rattle.lens_types.specs.Repeats.{sided, first_repeat, repeat_after}
use Rattle.lens_types.proofs.RepeatedNames.{key_name}
use Rattle.lens_types.proofs.names.first_repeat.Given as goal

abbrev pub invariant-loop-name : goal.invariant-loop-name
invariant-loop-name l = record {
  so_far : map key_name l.known.keys ≡ map sided (take l.name-index l.names);
  repeat : repeat_after (map sided (take l.name-index l.names)) (map sided (drop l.name-index l.names)) ≡ first_repeat (map sided l.names);
}
