use Rattle.std.proofs.Common.{◌≡◌, true, Some}
use Rattle.gate_log.specs.LogOnDisk.{IsBehind}
use Rattle.case_logs.proofs.logs.fill.Given as goal

abbrev pub invariant-pairs : goal.invariant-pairs
invariant-pairs l = record {
  sound : l.log.sound ≡ true;
  behind : IsBehind (Some l.disk.bytes) (λ _. ⊥) l.log;
}

abbrev pub invariant-times : goal.invariant-times
invariant-times l = record {
  sound : l.log.sound ≡ true;
  behind : IsBehind (Some l.disk.bytes) (λ _. ⊥) l.log;
}
