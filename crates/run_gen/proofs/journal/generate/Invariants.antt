use Rattle.lens_forms.specs.Forms.{form_tree}
use Rattle.edit_session.specs.Views.{triple_tree}
use Rattle.run_gen.proofs.Progress.{IsAt}
use Rattle.run_gen.proofs.journal.generate.Given as goal

abbrev pub invariant-loop-number : goal.invariant-loop-number
invariant-loop-number l =
    IsAt l.fn.count l.fn.seed l.number l.progress.seed l.progress.names l.progress.nums (form_tree l.session.lens.typed) (triple_tree l.session.triple)
