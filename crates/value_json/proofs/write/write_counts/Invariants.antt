use Rattle.std.proofs.Common.{◌≡◌, take, map}
use Rattle.serde_json.specs.View.{view}
use Rattle.value_json.specs.Numbers.{count_tree}
use Rattle.value_json.proofs.write.write_counts.Given as goal

abbrev pub invariant-loop-count : goal.invariant-loop-count
invariant-loop-count l = map view l.items.items ≡ map count_tree (take l.count-index l.counts)
