use Rattle.std.proofs.Common.{◌≡◌, drop}
use Rattle.file_forms.specs.Misfits.{member_twice}
use Rattle.file_forms.proofs.words.member_twice.Given as goal

abbrev pub invariant-loop-i : goal.invariant-loop-i
invariant-loop-i l = member_twice (drop l.i l.words) ≡ member_twice l.words
