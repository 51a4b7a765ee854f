use Rattle.std.proofs.Common.{◌≡◌, drop}
use Rattle.file_forms.specs.Forms.{forms_view}
use Rattle.file_forms.specs.Misfits.{tag_twice}
use Rattle.file_forms.proofs.fit.tag_twice.Given as goal

abbrev pub invariant-loop-i : goal.invariant-loop-i
invariant-loop-i l = tag_twice (forms_view (drop l.i l.tags)) ≡ tag_twice (forms_view l.tags)
