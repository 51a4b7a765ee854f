use Rattle.std.proofs.Common.{◌≡◌, drop}
use Rattle.file_forms.specs.Forms.{forms_view}
use Rattle.file_forms.specs.Slots.{some_meets_any}
use Rattle.file_forms.proofs.fit.+meets.Given as goal

abbrev pub invariant-some_meets_any-loop-tag : goal.invariant-some_meets_any-loop-tag
invariant-some_meets_any-loop-tag l =
    some_meets_any (forms_view (drop l.tag-index l.tag-items)) (forms_view l.others) ≡ some_meets_any (forms_view l.tag-items) (forms_view l.others)
