use Rattle.std.proofs.Common.{◌≡◌, ◌++◌}
use Rattle.hub_session.proofs.CarriedLists.{carried_from}
use Rattle.hub_session.proofs.lines.put_all.Given as goal

abbrev pub invariant-loop-carried : goal.invariant-loop-carried
invariant-loop-carried l =
    (l.out.before ≡ l.initial.out.before)
    × (l.out.tokens ++ carried_from l.words l.carried-index ≡ l.initial.out.tokens ++ carried_from l.words 0)
