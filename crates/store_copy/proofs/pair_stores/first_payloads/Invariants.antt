use Rattle.std.proofs.Common.{◌≡◌, take}
use Rattle.store_copy.proofs.pair_stores.first_payloads.Given as goal

-- the payloads up to this one
abbrev pub invariant-loop-next : goal.invariant-loop-next
invariant-loop-next l = l.front.items ≡ take l.next l.records
