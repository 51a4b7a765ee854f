use Rattle.std.proofs.Common.{◌≡◌, drop}
use Rattle.file_forms.specs.Forms.{forms_view}
use Rattle.file_forms.specs.Misfits.{same_slot}
use Rattle.file_forms.proofs.fit.same_slot.Given as goal

abbrev pub invariant-loop-i : goal.invariant-loop-i
invariant-loop-i l = same_slot (forms_view (drop l.i l.tags)) ≡ same_slot (forms_view l.tags)
