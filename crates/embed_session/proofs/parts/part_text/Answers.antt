use Rattle.edit_session.specs.Views.{triple_tree}
use Rattle.run_answers.proofs.InStep.{in_step_fits}
use Rattle.lens_forms.specs.Forms.{form_tree}
use Rattle.embed_session.proofs.parts.part_text.Goals as goal

pub complement_text-requires : goal.complement_text-requires
complement_text-requires c = record {
  fits = rw (c.typed-typed.ensures, c.lens.ensures, c.comp.ensures.comp)
      (in_step_fits (form_tree c.args.session.now.lens.typed) (triple_tree c.args.session.now.triple) c.comp.ensures.consistent);
}
