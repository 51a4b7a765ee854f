use Rattle.file_forms.specs.Forms.{file_form_tree}
use Rattle.file_forms.proofs.FirstMisfit.{fit_returned}
use Rattle.file_forms.proofs.form.FileForm.misfit.Goals as goal

pub returns-clause-fit : goal.returns-clause-fit
returns-clause-fit c = fit_returned c.first_misfit.result (file_form_tree c.args.self.now) c.first_misfit.ensures
