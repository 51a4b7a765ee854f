use Rattle.std.proofs.Common.{◌≡◌, ◌++◌}
use Rattle.hub_session.proofs.CarriedLists.{words_from}
use Rattle.hub_session.proofs.lines.put_words.Given as goal

abbrev pub invariant-loop-word : goal.invariant-loop-word
invariant-loop-word l =
    (l.out.before ≡ l.initial.out.before)
    × (l.out.tokens ++ words_from l.words l.word-index ≡ l.initial.out.tokens ++ words_from l.words 0)
