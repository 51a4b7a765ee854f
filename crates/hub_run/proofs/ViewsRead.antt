-- A view that is read: its program, and its lens behind the left type that is wanted.
use Rattle.std.proofs.Common.{◌≡◌, ℕ, List, Option, None, Result, Ok, Err, sym, ap, subst, ◌∙◌}
use Rattle.std.specs.Prelude.{MatchResult}
use Rattle.program_accepted.specs.Program.{IsAccepted}
use Rattle.program_accepted.specs.declared.program.Accepted.{Accepted}
use Rattle.doc_values.specs.Types.{TyTree}
use Rattle.lens_forms.specs.Forms.{form_tree}
use Rattle.program_terms.specs.Views.{program_tree}
use Rattle.hub_run.specs.FoundLenses.{IsRefusedHub}
use Rattle.hub_run.specs.Lenses.{form_of_view, view_with, with_left}
use Rattle.hub_run.specs.PiecePrograms.{IsViewOf}
use Rattle.hub_run.specs.declared.views.HubRefused.{HubRefused}
use Rattle.hub_run.specs.declared.views.HubRefused.TheVariants.{TooManyViews, InView, ViewsDiffer, NoMemory}

-- view 0 has any left type
pub first_found : (text : List ℕ) (a : Accepted) → IsAccepted text (program_tree a.program) (form_tree a.lens)
    → IsViewOf None 0 text (program_tree a.program) (form_tree a.lens)
first_found text a is = record { read = is.read; has_lens = ap (view_with None 0) is.has_lens }

-- what is found of a view whose program is accepted
module _ (left : Option TyTree) (number : ℕ) (text : List ℕ) (a : Accepted) (is : IsAccepted text (program_tree a.program) (form_tree a.lens)) where
  of_view : form_of_view left number text ≡ with_left left number (form_tree a.lens)
  of_view = ap (view_with left number) is.has_lens

  refused_too : (refused : HubRefused) → IsRefusedHub (with_left left number (form_tree a.lens)) refused → IsRefusedHub (form_of_view left number text) refused
  refused_too TooManyViews h = (h.0, of_view ∙ h.1, h.2)
  refused_too (InView v refused) h = (h.0, of_view ∙ h.1, h.2)
  refused_too (ViewsDiffer v) h = (h.0, of_view ∙ h.1, h.2)
  refused_too NoMemory h = tt

  same_found : (same : Accepted) → same ≡ a → with_left left number (form_tree a.lens) ≡ Ok (form_tree a.lens)
      → IsViewOf left number text (program_tree same.program) (form_tree same.lens)
  same_found same e found = subst (λ (x : Accepted). IsViewOf left number text (program_tree x.program) (form_tree x.lens)) (sym e)
      (record { read = is.read; has_lens = of_view ∙ found })

pub view_found : (left : Option TyTree) (number : ℕ) (text : List ℕ) (a : Accepted) (r : Result Accepted HubRefused) → IsAccepted text (program_tree a.program) (form_tree a.lens)
    → MatchResult r (λ same. (same ≡ a) × (with_left left number (form_tree a.lens) ≡ Ok (form_tree a.lens))) (IsRefusedHub (with_left left number (form_tree a.lens)))
    → MatchResult r (λ same. IsViewOf left number text (program_tree same.program) (form_tree same.lens)) (IsRefusedHub (form_of_view left number text))
view_found left number text a (Ok same) is h = same_found left number text a is same h.0 h.1
view_found left number text a (Err refused) is h = refused_too left number text a is refused h
