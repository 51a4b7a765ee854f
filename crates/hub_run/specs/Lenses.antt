-- The lenses of the views of a program part, or why it is refused, and the line of a refusal.
-- Read it from the end: `hub_refusal_line`, then `lenses_of`.
use Rattle.std.specs.Prelude.{ℕ, List, [], ◌∷◌, ◌++◌, length, Option, None, Some, Result, Ok, Err, if◌then◌else◌}
use Rattle.std.specs.Prelude.{nat_lt, codes, decimal}
use Rattle.doc_values.specs.Types.{TyTree, is_same_ty}
use Rattle.lens_forms.specs.Forms.{FormTree, left_type}
use Rattle.program_accepted.specs.Program.{Refusal, lens_of}
use Rattle.answer_text.specs.Lines.{program_refused_line}
use Rattle.answer_text.specs.RefusalLines.{reason}
use Rattle.hub_run.specs.Pieces.{pieces}

-- there are more than 64 views; the program of a view is refused; the left type of a view is not that of view 0
pub data HubRefusal : Type 0 where
  too_many_views : HubRefusal
  in_view : ℕ → Refusal → HubRefusal
  views_differ : ℕ → HubRefusal

-- ---- the lenses

-- a form whose left type is to be this one, if there is one
abbrev pub with_left : Option TyTree → ℕ → FormTree → Result FormTree HubRefusal
with_left None v form = Ok form
with_left (Some ty) v form = if is_same_ty ty (left_type form) then Ok form else Err (views_differ v)

-- the form of the view with this number: its program is read first, and then its left type is looked at
abbrev pub view_with : Option TyTree → ℕ → Result FormTree Refusal → Result FormTree HubRefusal
view_with ty v (Ok form) = with_left ty v form
view_with ty v (Err refusal) = Err (in_view v refusal)

abbrev pub form_of_view : Option TyTree → ℕ → List ℕ → Result FormTree HubRefusal
form_of_view ty v piece = view_with ty v (lens_of piece)

-- the left type of the first of these forms, if there is one
abbrev pub first_left : List FormTree → Option TyTree
first_left [] = None
first_left (form ∷ forms) = Some (left_type form)

-- What is found, behind forms that were found before; the first view that is refused refuses them all.
abbrev pub then_forms : (List FormTree → Result (List FormTree) HubRefusal) → List FormTree → Result FormTree HubRefusal
    → Result (List FormTree) HubRefusal
then_forms others before (Ok form) = others (before ++ form ∷ [])
then_forms others before (Err refusal) = Err refusal

-- the forms of the views before, and of these pieces behind them
abbrev pub forms_from : List (List ℕ) → List FormTree → Result (List FormTree) HubRefusal
forms_from [] before = Ok before
forms_from (piece ∷ others) before =
    then_forms (forms_from others) before (form_of_view (first_left before) (length before) piece)

-- the lenses of these pieces, of which there are at most 64
abbrev pub forms_of : List (List ℕ) → Result (List FormTree) HubRefusal
forms_of ps = if nat_lt 64 (length ps) then Err too_many_views else forms_from ps []

-- the lenses of a program part
abbrev pub lenses_of : List ℕ → Result (List FormTree) HubRefusal
lenses_of part = forms_of (pieces part)

-- ---- the line of a refusal

-- `view V REASON`
abbrev pub view_reason : ℕ → List ℕ → List ℕ
view_reason v why = codes "view " ++ decimal v ++ codes " " ++ why

-- `program refused: too-many-views`, `program refused: view V REASON` and `program refused: views-differ V`
abbrev pub hub_refusal_line : HubRefusal → List ℕ
hub_refusal_line too_many_views = program_refused_line (codes "too-many-views")
hub_refusal_line (in_view v refusal) = program_refused_line (view_reason v (reason refusal))
hub_refusal_line (views_differ v) = program_refused_line (codes "views-differ " ++ decimal v)
