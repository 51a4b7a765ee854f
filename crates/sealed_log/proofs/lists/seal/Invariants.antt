use Rattle.std.proofs.Common.{◌≡◌, ◌+◌, ◌++◌, drop}
use Rattle.sealed_log.specs.SealedLists.{sealed, sealed_from}
use Rattle.sealed_log.proofs.lists.seal.Given as goal

-- what is made and what is left is all
abbrev pub invariant-loop-i : goal.invariant-loop-i
invariant-loop-i l = l.records.items ++ sealed_from l.before (l.i + 1) (drop l.i l.payloads) ≡ sealed l.payloads
