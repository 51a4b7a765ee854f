-- The forms of a program part that is accepted: all are typed, and all have the left type of the first.
use Rattle.std.proofs.Common.{◌≡◌, ℕ, List, [], ◌∷◌, ◌++◌, length, Bool, true, false, cond, Option, Some, None, Result, Ok, Err, IsTrue, refl, sym, ap, subst, ◌∙◌}
use Rattle.std.specs.Prelude.{nat_lt}
use Rattle.doc_values.specs.Types.{TyTree, is_same_ty}
use Rattle.doc_values.proofs.SameTypes.{is_same_ty-equal}
use Rattle.lens_forms.specs.Forms.{FormTree, left_type}
use Rattle.lens_forms.specs.Typing.{is_typed}
use Rattle.program_accepted.specs.Program.{Refusal, lens_of}
use Rattle.program_accepted.proofs.AcceptedForms.{accepted_typed}
use Rattle.view_hub.specs.Laws.{SameLeft, HaveOneLeftType}
use Rattle.hub_run.specs.FormLenses.{form_lens}
use Rattle.hub_run.specs.FoundLenses.{AllTyped, HasLeft}
use Rattle.hub_run.specs.Lenses.{HubRefusal, too_many_views, views_differ, with_left, view_with, form_of_view, first_left, then_forms, forms_from, forms_of, lenses_of}
use Rattle.hub_run.specs.Pieces.{is_cut, pieces, pieces_from}
use Rattle.script_input.specs.Lines.{cut, up_to_line_end}

abbrev Same : TyTree → List FormTree → Type 0
Same = SameLeft form_lens

abbrev HaveOne : List FormTree → Type 0
HaveOne = HaveOneLeftType form_lens

-- all forms have the left type of the first, if there is one
abbrev pub OneLeft : List FormTree → Type 0
OneLeft [] = Unit {0}
OneLeft (form ∷ forms) = Same (left_type form) forms

pub typed_more : (forms : List FormTree) (form : FormTree) → AllTyped forms → IsTrue (is_typed form) → AllTyped (forms ++ form ∷ [])
typed_more [] form all is = (is, tt)
typed_more (first ∷ forms) form all is = (all.0, typed_more forms form all.1 is)

same_more : (ty : TyTree) (forms : List FormTree) (form : FormTree) → Same ty forms → left_type form ≡ ty → Same ty (forms ++ form ∷ [])
same_more ty [] form all is = (is, tt)
same_more ty (first ∷ forms) form all is = (all.0, same_more ty forms form all.1 is)

pub one_more : (forms : List FormTree) (form : FormTree) → OneLeft forms → HasLeft (first_left forms) form → OneLeft (forms ++ form ∷ [])
one_more [] form all is = tt
one_more (first ∷ forms) form all is = same_more (left_type first) forms form all is

pub some_left : (forms : List FormTree) (form : FormTree) → OneLeft (forms ++ form ∷ []) → HaveOne (forms ++ form ∷ [])
some_left [] form all = all
some_left (first ∷ forms) form all = all

-- ---- one view

found_left : (ty : Option TyTree) (v : ℕ) (found form : FormTree) → with_left ty v found ≡ Ok form → (found ≡ form) × HasLeft ty form
found_left None v found form h = let same : found ≡ form = cc in (same, tt)
found_left (Some ty) v found form h = by_test (is_same_ty ty (left_type found)) (is_same_ty-equal ty (left_type found)) h where
  by_test : (b : Bool) → (b ≡ true → ty ≡ left_type found) → cond b (Ok found) (Err (views_differ v)) ≡ Ok form → (found ≡ form) × (left_type form ≡ ty)
  by_test true is e = let same : found ≡ form = cc in (same, ap left_type (sym same) ∙ sym (is refl))
  by_test false is e = cc

pub found_view : (ty : Option TyTree) (v : ℕ) (text : List ℕ) (form : FormTree) → form_of_view ty v text ≡ Ok form → (lens_of text ≡ Ok form) × HasLeft ty form
found_view ty v text form h = by_outcome (lens_of text) refl h where
  by_outcome : (o : Result FormTree Refusal) → lens_of text ≡ o → view_with ty v o ≡ Ok form → (lens_of text ≡ Ok form) × HasLeft ty form
  by_outcome (Ok found) is e = let l = found_left ty v found form e in (is ∙ ap Ok l.0, l.1)
  by_outcome (Err refusal) is e = cc

-- ---- all views

-- the forms that were found with one view more
with_view : (p : List ℕ) (ps : List (List ℕ)) (before forms : List FormTree) (o : Result FormTree HubRefusal) → form_of_view (first_left before) (length before) p ≡ o → AllTyped before → OneLeft before
    → ((more : List FormTree) → AllTyped more → OneLeft more → forms_from ps more ≡ Ok forms → AllTyped forms × OneLeft forms) → then_forms (forms_from ps) before o ≡ Ok forms → AllTyped forms × OneLeft forms
with_view p ps before forms (Ok form) is typed one rest e =
    let f = found_view (first_left before) (length before) p form is in
    rest (before ++ form ∷ []) (typed_more before form typed (accepted_typed p form f.0)) (one_more before form one f.1) e
with_view p ps before forms (Err refusal) is typed one rest e = cc

pub forms_are : (ps : List (List ℕ)) (before forms : List FormTree) → AllTyped before → OneLeft before → forms_from ps before ≡ Ok forms → AllTyped forms × OneLeft forms
forms_are [] before forms typed one h = let same : before ≡ forms = cc in subst (λ fs. AllTyped fs × OneLeft fs) same (typed, one)
forms_are (p ∷ ps) before forms typed one h =
    with_view p ps before forms (form_of_view (first_left before) (length before) p) refl typed one (λ more t o e. forms_are ps more forms t o e) h

-- there is a form at least
no_end : (before : List FormTree) (form : FormTree) → before ++ form ∷ [] ≡ [] → ⊥
no_end [] form e = cc
no_end (first ∷ before) form e = cc

not_empty : (ps : List (List ℕ)) (before : List FormTree) (o : Result FormTree HubRefusal)
    → ((more : List FormTree) (form : FormTree) → forms_from ps (more ++ form ∷ []) ≡ Ok [] → ⊥) → then_forms (forms_from ps) before o ≡ Ok [] → ⊥
not_empty ps before (Ok form) rest e = rest before form e
not_empty ps before (Err refusal) rest e = cc

never_empty : (ps : List (List ℕ)) (before : List FormTree) (form : FormTree) → forms_from ps (before ++ form ∷ []) ≡ Ok [] → ⊥
never_empty [] before form h = let same : before ++ form ∷ [] ≡ [] = cc in no_end before form same
never_empty (p ∷ ps) before form h =
    not_empty ps (before ++ form ∷ []) (form_of_view (first_left (before ++ form ∷ [])) (length (before ++ form ∷ [])) p) (λ more f e. never_empty ps more f e) h

some_forms : (p : List ℕ) (ps : List (List ℕ)) (before forms : List FormTree) → forms_from (p ∷ ps) before ≡ Ok forms → OneLeft forms → HaveOne forms
some_forms p ps before [] h one =
    absurd (not_empty ps before (form_of_view (first_left before) (length before) p) (λ more f e. never_empty ps more f e) h)
some_forms p ps before (form ∷ forms) h one = one

pub of_pieces : (ps : List (List ℕ)) (forms : List FormTree) → forms_of ps ≡ Ok forms → forms_from ps [] ≡ Ok forms
of_pieces ps forms h = by_test (nat_lt 64 (length ps)) h where
  by_test : (b : Bool) → cond b (Err too_many_views) (forms_from ps []) ≡ Ok forms → forms_from ps [] ≡ Ok forms
  by_test true e = cc
  by_test false e = e

-- a program part has a piece at least
abbrev HasFirst : List (List ℕ) → Type 0
HasFirst all = (p : List ℕ) × (ps : List (List ℕ)) × (all ≡ p ∷ ps)

piece_first : (b : Bool) (begun : List ℕ) (others more : List (List ℕ)) → HasFirst more → HasFirst (cond b (begun ∷ others) more)
piece_first true begun others more h = (begun, others, refl)
piece_first false begun others more h = h

some_piece : (begun : List ℕ) (lines : List (List ℕ)) → HasFirst (pieces_from begun lines)
some_piece begun [] = (begun, [], refl)
some_piece begun (line ∷ lines) =
    piece_first (is_cut (up_to_line_end line)) begun (pieces_from [] lines) (pieces_from (begun ++ line) lines) (some_piece (begun ++ line) lines)

pub accepted_forms : (part : List ℕ) (forms : List FormTree) → lenses_of part ≡ Ok forms → AllTyped forms × HaveOne forms
accepted_forms part forms h =
    let from = of_pieces (pieces part) forms h in
    let s = some_piece [] (cut part) in
    let a = forms_are (pieces part) [] forms tt tt from in
    (a.0, some_forms s.0 s.1 [] forms (ap (λ ps. forms_from ps []) (sym s.2) ∙ from) a.1)
