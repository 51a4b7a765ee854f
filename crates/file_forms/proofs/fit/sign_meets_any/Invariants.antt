use Rattle.std.proofs.Common.{◌≡◌, drop}
use Rattle.file_forms.specs.Forms.{forms_view}
use Rattle.file_forms.specs.Signs.{sign_view}
use Rattle.file_forms.specs.Slots.{sign_meets_any}
use Rattle.file_forms.proofs.fit.sign_meets_any.Given as goal

abbrev pub invariant-loop-other : goal.invariant-loop-other
invariant-loop-other l =
    sign_meets_any (sign_view l.own) (forms_view (drop l.other-index l.others)) ≡ sign_meets_any (sign_view l.own) (forms_view l.others)
