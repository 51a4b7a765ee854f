use Rattle.std.proofs.Common.{◌≡◌, drop}
use Rattle.file_forms.specs.Forms.{forms_view}
use Rattle.file_forms.specs.Misfits.{part_misfit}
use Rattle.file_forms.proofs.fit.+fit.Given as goal

abbrev pub invariant-part_misfit-loop-field : goal.invariant-part_misfit-loop-field
invariant-part_misfit-loop-field l = part_misfit (forms_view (drop l.field-index l.field-items)) ≡ part_misfit (forms_view l.field-items)
