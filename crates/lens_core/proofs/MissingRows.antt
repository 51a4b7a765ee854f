-- The missing complements of rows, one row after the other, and that of the first arm.
use Rattle.std.proofs.Common.{◌≡◌, ℕ, ◌+◌, ◌<◌, ◌≤◌, List, [], ◌∷◌, ◌++◌, length, map, drop, get_or, append-nil, append_assoc, refl, sym, ap, ◌∙◌, arith}
use Rattle.std.proofs.lemmas.List.{drop_all, map-append}
use Rattle.doc_values.specs.declared.ty.Ty.{Ty}
use Rattle.lens_forms.specs.Forms.{form_tree, row_tree, form_rows_of, arm_tree, form_arms_of}
use Rattle.lens_forms.specs.declared.form.Form.{Form}
use Rattle.lens_forms.specs.declared.form.FormRow.{FormRow}
use Rattle.lens_forms.specs.declared.form.FormRow.TheVariants.{Both, OnlyLeft, OnlyRight}
use Rattle.lens_forms.proofs.TreesOfRows.{row_tree-both, row_tree-left, row_tree-right, rows_next}
use Rattle.lens_core.specs.Complements.{CompTree, nil, alt_comp, comps_of, comp_list, comp_tree, missing, missing_rows, missing_arm}
use Rattle.lens_core.specs.declared.comp.Comp.{Comp}
use Rattle.lens_core.proofs.ComplementTrees.{comps_of-comp_list}
use Rattle.lens_core.proofs.FormParts.{arm_smaller}

-- ---- the rows one after the other

-- the missing complements of the rows from one on
abbrev pub missing_from : List FormRow → ℕ → List CompTree
missing_from rows i = comp_list (missing_rows (form_rows_of (map row_tree (drop i rows))))

-- a paired row has the missing one of its lens
pub paired_next : (rows : List FormRow) (i : ℕ) (r : FormRow) (a b : List ℕ) (l : Form) → i < length rows → r ≡ get_or rows i r → r ≡ Both a b l
    → missing_from rows i ≡ missing (form_tree l) ∷ missing_from rows (i + 1)
paired_next rows i r a b l h is row = rw (rows_next rows i r h is, ap row_tree row ∙ row_tree-both a b l) refl

-- a field of one side alone has none
pub left_next : (rows : List FormRow) (i : ℕ) (r : FormRow) (a : List ℕ) (t : Ty) → i < length rows → r ≡ get_or rows i r → r ≡ OnlyLeft a t
    → missing_from rows i ≡ missing_from rows (i + 1)
left_next rows i r a t h is row = rw (rows_next rows i r h is, ap row_tree row ∙ row_tree-left a t) refl

pub right_next : (rows : List FormRow) (i : ℕ) (r : FormRow) (b : List ℕ) (t : Ty) → i < length rows → r ≡ get_or rows i r → r ≡ OnlyRight b t
    → missing_from rows i ≡ missing_from rows (i + 1)
right_next rows i r b t h is row = rw (rows_next rows i r h is, ap row_tree row ∙ row_tree-right b t) refl

-- one more complement behind those made
pub made_next : (cs : List Comp) (c : Comp) (rest whole : List CompTree) → map comp_tree cs ++ (comp_tree c ∷ rest) ≡ whole
    → map comp_tree (cs ++ c ∷ []) ++ rest ≡ whole
made_next cs c rest whole e = rw (map-append comp_tree cs (c ∷ []), append_assoc (map comp_tree cs) (comp_tree c ∷ []) rest) e

-- once every row is done, the complements made are the missing ones
pub missing_done : (cs : List Comp) (rows : List FormRow) (i : ℕ) → length rows ≤ i
    → map comp_tree cs ++ missing_from rows i ≡ comp_list (missing_rows (form_rows_of (map row_tree rows)))
    → comps_of (map comp_tree cs) ≡ missing_rows (form_rows_of (map row_tree rows))
missing_done cs rows i h e = ap comps_of (rw (drop_all i rows h, append-nil) at e) ∙ comps_of-comp_list _

-- ---- the first arm

-- that of the first arm, where there is one
pub arm_first : (arms : List (List ℕ × List ℕ × Form)) (a : List ℕ × List ℕ × Form) → 0 < length arms → a ≡ get_or arms 0 a
    → missing_arm (form_arms_of (map arm_tree arms)) ≡ alt_comp a.0 (missing (form_tree a.2))
arm_first [] a h is = absurd (omega arith)
arm_first (b ∷ arms) a h is = ap (λ (z : List ℕ × List ℕ × Form). alt_comp z.0 (missing (form_tree z.2))) (sym is)

pub arms_none : (arms : List (List ℕ × List ℕ × Form)) → length arms ≡ 0 → missing_arm (form_arms_of (map arm_tree arms)) ≡ nil
arms_none [] e = refl
arms_none (a ∷ arms) e = cc

pub ruleset arm_rules = (arm_first, arms_none, arm_smaller)
