use Rattle.std.proofs.Common.{◌≡◌, ◌+◌, drop, length}
use Rattle.sealed_log.specs.SealedLists.{unsealed, unsealed_from, last_seal}
use Rattle.sealed_log.proofs.SealedLists.{behind_payloads}
use Rattle.sealed_log.proofs.lists.unseal.Given as goal

abbrev pub invariant-loop-i : goal.invariant-loop-i
invariant-loop-i l = record {
  all : behind_payloads l.payloads.items (unsealed_from l.last (l.i + 1) (drop l.i l.stored)) ≡ unsealed l.stored;
  seal : l.last ≡ last_seal l.payloads.items;
  count : length l.payloads.items ≡ l.i;
}
