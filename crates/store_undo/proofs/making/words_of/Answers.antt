use Rattle.std.proofs.Common.{sym, subst}
use Rattle.lens_forms.specs.Forms.{form_tree}
use Rattle.lens_core.specs.Consistency.{IsConsistent}
use Rattle.edit_session.specs.Step.{IsInStep}
use Rattle.edit_session.specs.Views.{triple_tree}
use Rattle.store_undo.proofs.making.words_of.Goals as goal

pub replace-requires : goal.replace-requires
replace-requires c = record {
  consistent = subst (λ l. IsInStep (IsConsistent (form_tree l.typed)) (triple_tree c.in_ok-earlier.earlier)) (sym c.in_ok-words.ensures.lens) c.in_ok-earlier.ensures.consistent;
}
