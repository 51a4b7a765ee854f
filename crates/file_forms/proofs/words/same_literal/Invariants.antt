use Rattle.std.proofs.Common.{◌≡◌, drop}
use Rattle.file_forms.specs.Misfits.{same_literal}
use Rattle.file_forms.proofs.words.same_literal.Given as goal

abbrev pub invariant-loop-i : goal.invariant-loop-i
invariant-loop-i l = same_literal (drop l.i l.words) ≡ same_literal l.words
