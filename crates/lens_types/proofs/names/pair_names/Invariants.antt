use Rattle.std.proofs.Common.{◌≡◌, ◌++◌, map, drop}
use Rattle.lens_types.specs.Repeats.{sided, pair_names}
use Rattle.lens_types.proofs.names.pair_names.Given as goal

abbrev pub invariant-loop-pair : goal.invariant-loop-pair
invariant-loop-pair l =
    map sided l.names.items ++ pair_names (drop l.pair-index l.pairs) ≡ pair_names l.pairs
