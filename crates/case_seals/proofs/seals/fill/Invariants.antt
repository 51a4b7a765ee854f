use Rattle.std.proofs.Common.{◌≡◌, true, Some}
use Rattle.gate_log.specs.LogOnDisk.{IsBehind}
use Rattle.case_seals.proofs.seals.fill.Given as goal

abbrev pub invariant-loop-i : goal.invariant-loop-i
invariant-loop-i l = record {
  sound : l.log.sound ≡ true;
  behind : IsBehind (Some l.disk.bytes) (λ _. ⊥) l.log;
}
