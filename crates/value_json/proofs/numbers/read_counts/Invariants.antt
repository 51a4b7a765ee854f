use Rattle.std.proofs.Common.{◌≡◌, ◌++◌, drop, option_map}
use Rattle.serde_json.specs.View.{items_view}
use Rattle.value_json.specs.Numbers.{counts_of}
use Rattle.value_json.proofs.numbers.read_counts.Given as goal

-- the counts so far, and those of what is left, are those of all
abbrev pub invariant-loop-item : goal.invariant-loop-item
invariant-loop-item l = counts_of (items_view l.items) ≡ option_map (λ ns. l.counts.items ++ ns) (counts_of (items_view (drop l.item-index l.items)))
