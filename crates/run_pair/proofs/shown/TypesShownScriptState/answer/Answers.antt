use Rattle.std.proofs.Common.{[], refl, sym, append-nil}
use Rattle.run_pair.proofs.shown.TypesShownScriptState.answer.Goals as goal

pub returns-clause-answer : goal.returns-clause-answer
returns-clause-answer c = record { line = []; answers = refl; adds = sym (append-nil _) }
