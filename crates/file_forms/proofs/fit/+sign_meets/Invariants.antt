use Rattle.std.proofs.Common.{◌≡◌, drop}
use Rattle.file_forms.specs.Forms.{forms_view}
use Rattle.file_forms.specs.Signs.{sign_view}
use Rattle.file_forms.specs.Slots.{sign_meets_any}
use Rattle.file_forms.proofs.fit.+sign_meets.Given as goal

abbrev pub invariant-sign_meets_tags-loop-tag : goal.invariant-sign_meets_tags-loop-tag
invariant-sign_meets_tags-loop-tag l =
    sign_meets_any (sign_view l.own) (forms_view (drop l.tag-index l.tag-items)) ≡ sign_meets_any (sign_view l.own) (forms_view l.tag-items)
