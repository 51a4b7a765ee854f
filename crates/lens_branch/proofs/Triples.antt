-- A consistent triple, with the document of the edited side first.
use Rattle.std.proofs.Common.{◌≡◌, sym, subst}
use Rattle.texts.specs.declared.side.Side.{Side}
use Rattle.doc_values.specs.Documents.{DocTree}
use Rattle.edit_module.specs.Words.{PrimitiveTree}
use Rattle.lens_forms.specs.Forms.{FormTree}
use Rattle.lens_core.specs.Complements.{CompTree}
use Rattle.lens_core.specs.Translation.{translate_one}
use Rattle.lens_core.specs.Laws.{Carries}

pub carries_at : (l : FormTree) (s : Side) (p : PrimitiveTree) (x' : DocTree) (c c' : CompTree) (y y' : DocTree) → c ≡ c' → y ≡ y' → Carries l s x' y' (translate_one l s c' p) → Carries l s x' y (translate_one l s c p)
carries_at l s p x' c c' y y' f g h =
    subst (λ z. Carries l s x' y (translate_one l s z p)) (sym f) (subst (λ z. Carries l s x' z (translate_one l s c' p)) (sym g) h)
