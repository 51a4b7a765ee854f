use Rattle.std.proofs.Common.{ap, ◌∙◌}
use Rattle.lens_forms.specs.Forms.{form_tree}
use Rattle.lens_core.specs.Complements.{comp_tree}
use Rattle.lens_check.specs.FitTest.{fits}
use Rattle.lens_check.proofs.FitTests.{fit_test}
use Rattle.lens_check.proofs.fit.conforms.Goals as goal

pub returns : goal.returns
returns c =
    fit_test _ (form_tree c.args.typed.now) (comp_tree c.args.comp.now) (c.fits_form.ensures ∙ ap (λ f. fits (form_tree f) (comp_tree c.args.comp.now)) c.form.ensures.is)
