-- The complements of paired rows, written one after the other.
use Rattle.std.proofs.Common.{◌≡◌, ℕ, zero, suc, ◌+◌, ◌<◌, ◌≤◌, true, ◌&&◌, List, [], ◌∷◌, ◌++◌, length, length-append, map, drop, drop-cons, get_or, add-one, IsTrue, refl, sym, ap, ap₂, subst, ◌∙◌, arith}
use Rattle.std.proofs.lemmas.List.{drop_all}
use Rattle.texts.proofs.Conjunction.{first, second}
use Rattle.serde_json.specs.Data.{Data, Items, no_items, item}
use Rattle.serde_json.specs.View.{items_of}
use Rattle.doc_values.specs.Types.{ty_tree, is_well_formed}
use Rattle.doc_values.specs.declared.ty.Ty.{Ty}
use Rattle.lens_forms.specs.Forms.{FormTree, form_tree, form_rec, RowTrees, both, row_tree, form_rows_of}
use Rattle.lens_forms.specs.Typing.{is_typed, are_typed_rows}
use Rattle.lens_forms.specs.declared.form.Form.{Form}
use Rattle.lens_forms.specs.declared.form.FormRow.{FormRow}
use Rattle.lens_forms.specs.declared.form.FormRow.TheVariants.{Both, OnlyLeft, OnlyRight}
use Rattle.lens_core.specs.Complements.{CompTree, nil, rec_comp, CompTrees, comps_of, Fits, FitRows}
use Rattle.lens_forms.specs.Measures.{form_parts, rows_parts}
use Rattle.lens_forms.proofs.TreesOfRows.{row_tree-both, rows_from, next_both, next_left, next_right}
use Rattle.lens_core.proofs.FormParts.{row_parts, row_smaller}
use Rattle.complement_file.specs.ComplementJson.{tree_of_complement, row_items}

-- items behind a list of trees
abbrev pub behind : List Data → Items → Items
behind [] rest = rest
behind (x ∷ xs) rest = item x (behind xs rest)

behind_one : (xs : List Data) (x : Data) (rest : Items) → behind (xs ++ x ∷ []) rest ≡ behind xs (item x rest)
behind_one [] x rest = refl
behind_one (y ∷ xs) x rest = ap (item y) (behind_one xs x rest)

behind_nothing : (xs : List Data) → behind xs no_items ≡ items_of xs
behind_nothing [] = refl
behind_nothing (x ∷ xs) = ap (item x) (behind_nothing xs)

-- What is left: the rows from i on, and the complements from n on, of all the complements cs. The items written before are xs.
pub record AreLeft (rows : List FormRow) (cs : List CompTree) (i n : ℕ) (xs : List Data) : Type 0 where
  pub written : behind xs (row_items (rows_from rows i) (comps_of (drop n cs))) ≡ row_items (form_rows_of (map row_tree rows)) (comps_of cs)
  pub fit : FitRows (rows_from rows i) (comps_of (drop n cs))
  pub typed : are_typed_rows (rows_from rows i) ≡ true
  pub many : length xs ≡ n

pub at_first : (rows : List FormRow) (cs : List CompTree) (rs : RowTrees) (ds : CompTrees) → form_rows_of (map row_tree rows) ≡ rs → comps_of cs ≡ ds
    → IsTrue (is_typed (form_rec rs)) → Fits (form_rec rs) (rec_comp ds) → AreLeft rows cs 0 0 []
at_first rows cs rs ds is also typed fit = record {
  written = refl;
  fit = subst (λ xs. FitRows xs (comps_of cs)) (sym is) (subst (FitRows rs) (sym also) fit);
  typed = subst (λ xs. are_typed_rows xs ≡ true) (sym is) (first (are_typed_rows rs) _ typed);
  many = refl;
}

pub at_last : (rows : List FormRow) (cs : List CompTree) (i n : ℕ) (xs : List Data) → length rows ≤ i → AreLeft rows cs i n xs → items_of xs ≡ row_items (form_rows_of (map row_tree rows)) (comps_of cs)
at_last rows cs i n xs past left =
    sym (behind_nothing xs) ∙ ap (λ rs. behind xs (row_items (form_rows_of (map row_tree rs)) (comps_of (drop n cs)))) (sym (drop_all i rows past)) ∙ left.written

-- ---- a paired row

both_within : (cs : List CompTree) (n : ℕ) (a b : List ℕ) (l : FormTree) (rest : RowTrees) → FitRows (both a b l rest) (comps_of (drop n cs)) → n < length cs
both_within [] zero a b l rest h = absurd h
both_within [] (suc n) a b l rest h = absurd h
both_within (c ∷ cs) zero a b l rest h = omega arith
both_within (c ∷ cs) (suc n) a b l rest h = omega (arith, both_within cs n a b l rest h)

module _ (rows : List FormRow) (cs : List CompTree) (i n : ℕ) (xs : List Data) (r : FormRow) (a b : List ℕ) (l : Form)
    (h : i < length rows) (is : r ≡ get_or rows i r) (row : r ≡ Both a b l) (left : AreLeft rows cs i n xs) where
  pub within : n < length cs
  within = both_within cs n a b (form_tree l) (rows_from rows (i + 1)) (subst (λ rs. FitRows rs (comps_of (drop n cs))) (next_both rows i r a b l h is row) left.fit)

  rest_is : comps_of (drop n cs) ≡ comps_of (get_or cs n nil ∷ drop (n + 1) cs)
  rest_is = let e : drop n cs ≡ get_or cs n nil ∷ drop (n + 1) cs = rw add-one (drop-cons cs n nil within) in ap comps_of e

  both_fit : Fits (form_tree l) (get_or cs n nil) × FitRows (rows_from rows (i + 1)) (comps_of (drop (n + 1) cs))
  both_fit = subst (λ ds. FitRows (both a b (form_tree l) (rows_from rows (i + 1))) ds) rest_is
      (subst (λ rs. FitRows rs (comps_of (drop n cs))) (next_both rows i r a b l h is row) left.fit)

  both_typed : (is_typed (form_tree l) && are_typed_rows (rows_from rows (i + 1))) ≡ true
  both_typed = subst (λ rs. are_typed_rows rs ≡ true) (next_both rows i r a b l h is row) left.typed

  pub row_typed : IsTrue (is_typed (form_tree l))
  row_typed = first (is_typed (form_tree l)) _ both_typed

  pub row_fits : (c : CompTree) → c ≡ get_or cs n nil → Fits (form_tree l) c
  row_fits c e = subst (Fits (form_tree l)) (sym e) both_fit.0

  pub row_done : (c : CompTree) (x : Data) → c ≡ get_or cs n nil → x ≡ tree_of_complement (form_tree l) c → AreLeft rows cs (i + 1) (n + 1) (xs ++ x ∷ [])
  row_done c x e tree = record {
    written =
        behind_one xs x (row_items (rows_from rows (i + 1)) (comps_of (drop (n + 1) cs)))
        ∙ ap (λ z. behind xs (item z (row_items (rows_from rows (i + 1)) (comps_of (drop (n + 1) cs))))) (tree ∙ ap (tree_of_complement (form_tree l)) e)
        ∙ sym (ap₂ (λ rs ds. behind xs (row_items rs ds)) (next_both rows i r a b l h is row) rest_is)
        ∙ left.written;
    fit = both_fit.1;
    typed = second (is_typed (form_tree l)) _ both_typed;
    many = rw (length-append xs (x ∷ []), left.many) refl;
  }

-- ---- a field of one side alone

pub left_passed : (rows : List FormRow) (cs : List CompTree) (i n : ℕ) (xs : List Data) (r : FormRow) (a : List ℕ) (t : Ty) → i < length rows → r ≡ get_or rows i r → r ≡ OnlyLeft a t
    → AreLeft rows cs i n xs → AreLeft rows cs (i + 1) n xs
left_passed rows cs i n xs r a t h is row left =
    let e = next_left rows i r a t h is row in
    record {
      written = sym (ap (λ rs. behind xs (row_items rs (comps_of (drop n cs)))) e) ∙ left.written;
      fit = subst (λ rs. FitRows rs (comps_of (drop n cs))) e left.fit;
      typed = second (is_well_formed (ty_tree t)) _ (subst (λ rs. are_typed_rows rs ≡ true) e left.typed);
      many = left.many;
    }

pub right_passed : (rows : List FormRow) (cs : List CompTree) (i n : ℕ) (xs : List Data) (r : FormRow) (b : List ℕ) (t : Ty) → i < length rows → r ≡ get_or rows i r → r ≡ OnlyRight b t
    → AreLeft rows cs i n xs → AreLeft rows cs (i + 1) n xs
right_passed rows cs i n xs r b t h is row left =
    let e = next_right rows i r b t h is row in
    record {
      written = sym (ap (λ rs. behind xs (row_items rs (comps_of (drop n cs)))) e) ∙ left.written;
      fit = subst (λ rs. FitRows rs (comps_of (drop n cs))) e left.fit;
      typed = second (is_well_formed (ty_tree t)) _ (subst (λ rs. are_typed_rows rs ≡ true) e left.typed);
      many = left.many;
    }

-- a paired row's lens has fewer parts than the rows
pub row_smaller_is : (rows : List FormRow) (i : ℕ) (r : FormRow) (a b : List ℕ) (l : Form) → i < length rows → r ≡ get_or rows i r → r ≡ Both a b l
    → form_parts (form_tree l) < rows_parts (form_rows_of (map row_tree rows))
row_smaller_is rows i r a b l h is row =
    let parts = ap row_parts (ap row_tree row ∙ row_tree-both a b l) in
    omega (arith, row_smaller rows i r h is, parts)
