-- What is known of a session whose lens is that of a form.
use Rattle.std.proofs.Common.{Option, subst}
use Rattle.texts.specs.declared.side.Side.{Side}
use Rattle.doc_values.specs.Documents.{DocTree}
use Rattle.doc_values.specs.Types.{TyTree}
use Rattle.edit_module.specs.Words.{WordTree}
use Rattle.lens_forms.specs.Forms.{FormTree, left_type, right_type}
use Rattle.lens_core.specs.Complements.{CompTree, Fits}
use Rattle.lens_core.specs.Translation.{Translated, translate}
use Rattle.lens_core.proofs.LawsOfWords.{consistent_is_typed}
use Rattle.edit_session.specs.Step.{TripleTree, IsInStep}
use Rattle.lens_core.specs.LensOf.{IsLensOf}
use Rattle.run_answers.specs.ItemRuns.{IsInStepFor}

-- the complement of a triple that is in step fits the form
pub in_step_fits : (form : FormTree) (t : TripleTree) → IsInStepFor form t → Fits form t.comp
in_step_fits form t h = (consistent_is_typed form t.left t.comp t.right h).comp_fits

module _ (left right : TyTree) (start : CompTree) (holds : DocTree → CompTree → DocTree → Type 0)
    (translation : Side → CompTree → WordTree → Option Translated) (form : FormTree) (l : IsLensOf left right start holds translation form) where
  pub lens_fits : (t : TripleTree) → IsInStep holds t → Fits form t.comp
  lens_fits t h = in_step_fits form t ((l.relates t.left t.comp t.right).0 h)

  -- what is so of the lens's types and translation is so of those of the form
  pub of_form : (P : TyTree → TyTree → (Side → CompTree → WordTree → Option Translated) → Type 0) → P left right translation → P (left_type form) (right_type form) (translate form)
  of_form P h = subst (λ f. P (left_type form) (right_type form) f) l.translates (subst (λ r. P (left_type form) r translation) l.right_is (subst (λ k. P k right translation) l.left_is h))
