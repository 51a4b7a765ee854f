use Rattle.lens_steps.specs.LawsOfForms.{form_laws}
use Rattle.lens_steps.proofs.laws.typed_forms_are_lawful.Goals as goal

pub returns : goal.returns
returns c = form_laws
