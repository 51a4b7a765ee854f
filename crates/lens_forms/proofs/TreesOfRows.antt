-- The rows of a form as trees, one row after the other.
use Rattle.std.proofs.Common.{◌≡◌, ℕ, suc, ◌+◌, ◌<◌, List, length, map, drop, drop-cons, get_or, add-one, sym, ap, ◌∙◌, rules}
use Rattle.doc_values.specs.Types.{ty_tree}
use Rattle.doc_values.specs.declared.ty.Ty.{Ty}
use Rattle.lens_forms.specs.Forms.{form_tree, RowTrees, both, only_left, only_right, row_both, row_left, row_right, row_tree, form_rows_of, with_form_row}
use Rattle.lens_forms.specs.declared.form.Form.{Form}
use Rattle.lens_forms.specs.declared.form.FormRow.{FormRow, the_lemmas as row_lemmas}
use Rattle.lens_forms.specs.declared.form.FormRow.TheVariants.{Both, OnlyLeft, OnlyRight}

-- ---- one row as a tree

pub row_tree-both : (a b : List ℕ) (l : Form) → row_tree (Both a b l) ≡ row_both a b (form_tree l)
row_tree-both a b l = search (rules, row_lemmas)

pub row_tree-left : (a : List ℕ) (t : Ty) → row_tree (OnlyLeft a t) ≡ row_left a (ty_tree t)
row_tree-left a t = search (rules, row_lemmas)

pub row_tree-right : (b : List ℕ) (t : Ty) → row_tree (OnlyRight b t) ≡ row_right b (ty_tree t)
row_tree-right b t = search (rules, row_lemmas)

-- ---- the rows one after the other

-- the rows from one on
abbrev pub rows_from : List FormRow → ℕ → RowTrees
rows_from rows i = form_rows_of (map row_tree (drop i rows))

pub rows_next : (rows : List FormRow) (i : ℕ) (r : FormRow) → i < length rows → r ≡ get_or rows i r
    → form_rows_of (map row_tree (drop i rows)) ≡ with_form_row (row_tree r) (form_rows_of (map row_tree (drop (i + 1) rows)))
rows_next rows i r h is =
    rw (drop-cons rows i r h, add-one) (ap (λ (q : FormRow). with_form_row (row_tree q) (form_rows_of (map row_tree (drop (suc i) rows)))) (sym is))

pub next_both : (rows : List FormRow) (i : ℕ) (r : FormRow) (a b : List ℕ) (l : Form) → i < length rows → r ≡ get_or rows i r → r ≡ Both a b l
    → rows_from rows i ≡ both a b (form_tree l) (rows_from rows (i + 1))
next_both rows i r a b l h is row = rows_next rows i r h is ∙ ap (λ q. with_form_row q (rows_from rows (i + 1))) (ap row_tree row ∙ row_tree-both a b l)

pub next_left : (rows : List FormRow) (i : ℕ) (r : FormRow) (a : List ℕ) (t : Ty) → i < length rows → r ≡ get_or rows i r → r ≡ OnlyLeft a t
    → rows_from rows i ≡ only_left a (ty_tree t) (rows_from rows (i + 1))
next_left rows i r a t h is row = rows_next rows i r h is ∙ ap (λ q. with_form_row q (rows_from rows (i + 1))) (ap row_tree row ∙ row_tree-left a t)

pub next_right : (rows : List FormRow) (i : ℕ) (r : FormRow) (b : List ℕ) (t : Ty) → i < length rows → r ≡ get_or rows i r → r ≡ OnlyRight b t
    → rows_from rows i ≡ only_right b (ty_tree t) (rows_from rows (i + 1))
next_right rows i r b t h is row = rows_next rows i r h is ∙ ap (λ q. with_form_row q (rows_from rows (i + 1))) (ap row_tree row ∙ row_tree-right b t)
