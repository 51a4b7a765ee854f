-- The lens of a form by what the trait `EditLens` says of it, and the lens of what stands for a form.
use Rattle.lens_forms.specs.Forms.{FormTree, left_type, right_type}
use Rattle.lens_core.specs.Complements.{missing}
use Rattle.lens_core.specs.Consistency.{IsConsistent}
use Rattle.lens_core.specs.Translation.{translate}
use Rattle.lens_core.specs.declared.lens.EditLens as OfLens

-- the lens of a form
abbrev pub form_lens : OfLens.Ghosts FormTree
form_lens =
    record {
      left_type = left_type;
      right_type = right_type;
      start = missing;
      holds = IsConsistent;
      carried = translate;
    }

-- the lens of what stands for another, which has a lens
abbrev pub lens_by : {L F : Type 0} → (L → F) → OfLens.Ghosts F → OfLens.Ghosts L
lens_by f lens = record {
  left_type = λ l. lens.left_type (f l);
  right_type = λ l. lens.right_type (f l);
  start = λ l. lens.start (f l);
  holds = λ l. lens.holds (f l);
  carried = λ l. lens.carried (f l);
}
