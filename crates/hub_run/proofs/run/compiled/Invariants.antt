use Rattle.std.proofs.Common.{◌≡◌, map, take}
use Rattle.lens_forms.specs.Forms.{form_tree}
use Rattle.hub_run.specs.RunStates.{forms_of_lenses}
use Rattle.hub_run.proofs.run.compiled.Given as goal

abbrev pub invariant-loop-lens : goal.invariant-loop-lens
invariant-loop-lens l = forms_of_lenses l.lenses.items ≡ map form_tree (take l.lens-index l.typed)
