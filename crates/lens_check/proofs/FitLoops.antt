-- Complements, rows and arms from a place on: what a loop over them has still to test.
use Rattle.std.proofs.Common.{◌≡◌, ℕ, ◌+◌, ◌<◌, ◌≤◌, Bool, true, false, ◌&&◌, ◌||◌, List, [], ◌∷◌, length, map, drop, drop-cons, get_or, add-one, refl, sym, ap, ◌∙◌, arith}
use Rattle.std.proofs.lemmas.List.{drop_all}
use Rattle.doc_values.specs.declared.ty.Ty.{Ty}
use Rattle.lens_forms.specs.Forms.{form_tree, no_rows, row_tree, form_rows_of, arm_tree, form_arms_of}
use Rattle.lens_forms.specs.declared.form.Form.{Form}
use Rattle.lens_forms.specs.declared.form.FormRow.{FormRow}
use Rattle.lens_forms.specs.declared.form.FormRow.TheVariants.{Both, OnlyLeft, OnlyRight}
use Rattle.lens_forms.proofs.TreesOfRows.{row_tree-both, row_tree-left, row_tree-right, rows_next}
use Rattle.lens_core.specs.Complements.{CompTree, CompTrees, more_comps, comps_of, comp_list, comp_count}
use Rattle.lens_core.proofs.ComplementTrees.{comps_of-comp_list, comp_count-length}
use Rattle.lens_check.specs.FitTest.{all_pass, fits, rows_fit, arm_fits}

-- one that fails makes the whole test fail
pub and_fails : (b rest from whole : Bool) → b ≡ false → from ≡ (b && rest) → from ≡ whole → false ≡ whole
and_fails true rest from whole h e k = cc
and_fails false rest from whole h e k = sym e ∙ k

-- after one that passes the others are to be tested
pub and_passes : (b rest from whole : Bool) → b ≡ true → from ≡ (b && rest) → from ≡ whole → rest ≡ whole
and_passes true rest from whole h e k = sym e ∙ k
and_passes false rest from whole h e k = cc

-- ---- the places of a container

-- whether those from a place on pass the test
abbrev pub pass_from : (CompTree → Bool) → CompTrees → ℕ → Bool
pass_from test cs i = all_pass test (comps_of (drop i (comp_list cs)))

pub pass_all : (test : CompTree → Bool) (cs : CompTrees) → pass_from test cs 0 ≡ all_pass test cs
pass_all test cs = ap (all_pass test) (comps_of-comp_list cs)

comps_next : (cs : CompTrees) (i : ℕ) (c d : CompTree) → i < comp_count cs → c ≡ get_or (comp_list cs) i d
    → comps_of (drop i (comp_list cs)) ≡ more_comps c (comps_of (drop (i + 1) (comp_list cs)))
comps_next cs i c d h is = rw (drop-cons (comp_list cs) i d (omega (arith, comp_count-length cs)), add-one, is) refl

pub pass_next : (test : CompTree → Bool) (cs : CompTrees) (i : ℕ) (c d : CompTree) → i < comp_count cs → c ≡ get_or (comp_list cs) i d
    → pass_from test cs i ≡ (test c && pass_from test cs (i + 1))
pass_next test cs i c d h is = ap (all_pass test) (comps_next cs i c d h is)

pub pass_done : (test : CompTree → Bool) (cs : CompTrees) (i : ℕ) → comp_count cs ≤ i → pass_from test cs i ≡ true
pass_done test cs i h = rw (drop_all i (comp_list cs) (omega (arith, comp_count-length cs))) refl

-- ---- the rows of a record

-- whether the complements from the place j on fit the rows from the place i on
abbrev pub rows_from : List FormRow → CompTrees → ℕ → ℕ → Bool
rows_from rows cs i j = rows_fit (form_rows_of (map row_tree (drop i rows))) (comps_of (drop j (comp_list cs)))

pub rows_all : (rows : List FormRow) (cs : CompTrees) → rows_from rows cs 0 0 ≡ rows_fit (form_rows_of (map row_tree rows)) cs
rows_all rows cs = ap (rows_fit (form_rows_of (map row_tree rows))) (comps_of-comp_list cs)

-- a paired row has a complement that fits
pub paired_next : (rows : List FormRow) (cs : CompTrees) (i j : ℕ) (r : FormRow) (a b : List ℕ) (l : Form) (c d : CompTree)
    → i < length rows → r ≡ get_or rows i r → r ≡ Both a b l → j < comp_count cs → c ≡ get_or (comp_list cs) j d
    → rows_from rows cs i j ≡ (fits (form_tree l) c && rows_from rows cs (i + 1) (j + 1))
paired_next rows cs i j r a b l c d h is row k ce =
    rw (rows_next rows i r h is, ap row_tree row ∙ row_tree-both a b l, comps_next cs j c d k ce) refl

-- a paired row without a complement
pub paired_none : (rows : List FormRow) (cs : CompTrees) (i j : ℕ) (r : FormRow) (a b : List ℕ) (l : Form)
    → i < length rows → r ≡ get_or rows i r → r ≡ Both a b l → comp_count cs ≤ j → rows_from rows cs i j ≡ false
paired_none rows cs i j r a b l h is row k =
    rw (rows_next rows i r h is, ap row_tree row ∙ row_tree-both a b l, drop_all j (comp_list cs) (omega (arith, comp_count-length cs))) refl

-- a field of one side alone has none
pub left_next : (rows : List FormRow) (cs : CompTrees) (i j : ℕ) (r : FormRow) (a : List ℕ) (t : Ty) → i < length rows → r ≡ get_or rows i r → r ≡ OnlyLeft a t
    → rows_from rows cs i j ≡ rows_from rows cs (i + 1) j
left_next rows cs i j r a t h is row = rw (rows_next rows i r h is, ap row_tree row ∙ row_tree-left a t) refl

pub right_next : (rows : List FormRow) (cs : CompTrees) (i j : ℕ) (r : FormRow) (b : List ℕ) (t : Ty) → i < length rows → r ≡ get_or rows i r → r ≡ OnlyRight b t
    → rows_from rows cs i j ≡ rows_from rows cs (i + 1) j
right_next rows cs i j r b t h is row = rw (rows_next rows i r h is, ap row_tree row ∙ row_tree-right b t) refl

-- after the last row no complement is left
rows_end : (cs : List CompTree) (j : ℕ) (b : Bool) → (b ≡ true → length cs ≤ j) → (b ≡ false → j < length cs) → b ≡ rows_fit no_rows (comps_of (drop j cs))
rows_end cs j true f g = rw (drop_all j cs (f refl)) refl
rows_end [] j false f g = absurd (omega (arith, g refl))
rows_end (c ∷ cs) j false f g = rw (drop-cons (c ∷ cs) j c (g refl)) refl

pub rows_done : (rows : List FormRow) (cs : CompTrees) (i j : ℕ) (b : Bool) → length rows ≤ i → (b ≡ true → comp_count cs ≤ j) → (b ≡ false → j < comp_count cs) → b ≡ rows_from rows cs i j
rows_done rows cs i j b h f g =
    rw (drop_all i rows h) (rows_end (comp_list cs) j b (λ k. let m = f k in omega (arith, comp_count-length cs, m)) (λ k. let m = g k in omega (arith, comp_count-length cs, m)))

-- ---- the arms of alternatives

-- whether the complement is one of the arms from a place on
abbrev pub arm_from : List (List ℕ × List ℕ × Form) → List ℕ → CompTree → ℕ → Bool
arm_from arms t c i = arm_fits (form_arms_of (map arm_tree (drop i arms))) t c
