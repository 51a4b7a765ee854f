use Rattle.std.proofs.Common.{◌≡◌, ◌++◌}
use Rattle.edit_journal.proofs.GroupItems.{carried_from}
use Rattle.edit_journal.proofs.write.put_carried.Given as goal

abbrev pub invariant-loop-i : goal.invariant-loop-i
invariant-loop-i l =
    (l.out.before ≡ l.initial.out.before)
    × (l.out.tokens ++ carried_from l.entries l.words l.i ≡ l.initial.out.tokens ++ carried_from l.entries l.words 0)
