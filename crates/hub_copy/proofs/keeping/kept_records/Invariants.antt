use Rattle.std.proofs.Common.{◌≡◌, ◌-◌, ◌++◌, drop}
use Rattle.hub_copy.specs.KeptRecords.{kept_records}
use Rattle.hub_copy.proofs.keeping.kept_records.Given as goal

-- what was kept, and what is kept of the payloads that are left, is what is kept of all
abbrev pub invariant-loop-at : goal.invariant-loop-at
invariant-loop-at l =
    l.kept.items ++ kept_records (l.number - l.at) (drop l.at l.records) ≡ kept_records l.number l.records
