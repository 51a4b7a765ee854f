use Rattle.edit_session.specs.Views.{triple_tree}
use Rattle.run_answers.proofs.InStep.{in_step_fits}
use Rattle.lens_forms.specs.Forms.{form_tree}
use Rattle.embed_session.proofs.parts.snapshot_text.Goals as goal

pub snapshot_payload-requires-clause-comp_fits : goal.snapshot_payload-requires-clause-comp_fits
snapshot_payload-requires-clause-comp_fits c =
    rw (c.typed-typed.ensures, c.lens.ensures, c.comp.ensures.comp)
    (in_step_fits (form_tree c.args.session.now.lens.typed) (triple_tree c.args.session.now.triple) c.comp.ensures.consistent)
