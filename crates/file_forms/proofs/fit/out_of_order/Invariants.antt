use Rattle.std.proofs.Common.{◌≡◌, ◌-◌, drop}
use Rattle.file_forms.specs.Forms.{forms_view}
use Rattle.file_forms.specs.Misfits.{out_of_order}
use Rattle.file_forms.proofs.fit.out_of_order.Given as goal

abbrev pub invariant-loop-i : goal.invariant-loop-i
invariant-loop-i l = out_of_order (forms_view (drop (l.i - 1) l.fields)) ≡ out_of_order (forms_view l.fields)
