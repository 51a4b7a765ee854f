-- Lists of trees, and the folds at the types that wrap a list.
use Rattle.std.proofs.Common.{◌≡◌, ℕ, suc, List, [], ◌∷◌, length, map, rules, refl, ap, ◌∙◌}
use Rattle.program_terms.specs.Terms.{TypeTree, LensTree, TermFields, no_fields, more_fields, term_fields_of, type_field_list, RowTree, row_both, row_left, row_right, TermRows, no_rows, both, only_left, only_right, with_row, term_rows_of, row_list, TermArms, no_arms, more_arms, term_arms_of, arm_list}
use Rattle.program_terms.specs.Views.{fields_tree, field_tree, row_tree, rows_tree, arms_tree, arm_tree}
use Rattle.program_terms.specs.declared.types.TyExpr.{TyExpr}
use Rattle.program_terms.specs.declared.types.TyFields.{TyFields, out-TyFields, the_lemmas as fields_lemmas}
use Rattle.program_terms.specs.declared.lens.Lens.{Lens}
use Rattle.program_terms.specs.declared.lens.Row.{Row}
use Rattle.program_terms.specs.declared.lens.Rows.{Rows, out-Rows, the_lemmas as rows_lemmas}
use Rattle.program_terms.specs.declared.lens.Arms.{Arms, out-Arms, the_lemmas as arms_lemmas}

-- ---- the wrappers

pub fields_tree-out : (fs : TyFields) → fields_tree fs ≡ term_fields_of (map field_tree (out-TyFields fs).items.items)
fields_tree-out fs = search (rules, fields_lemmas)

pub rows_tree-out : (rows : Rows) → rows_tree rows ≡ term_rows_of (map row_tree (out-Rows rows).items.items)
rows_tree-out rows = search (rules, rows_lemmas)

pub arms_tree-out : (arms : Arms) → arms_tree arms ≡ term_arms_of (map arm_tree (out-Arms arms).items.items)
arms_tree-out arms = search (rules, arms_lemmas)

-- ---- trees and lists, there and back

pub field_list-term_fields_of : (fs : List (List ℕ × TypeTree)) → type_field_list (term_fields_of fs) ≡ fs
field_list-term_fields_of [] = refl
field_list-term_fields_of (f ∷ fs) = ap (λ x. f ∷ x) (field_list-term_fields_of fs)

pub term_fields_of-field_list : (fs : TermFields) → term_fields_of (type_field_list fs) ≡ fs
term_fields_of-field_list no_fields = refl
term_fields_of-field_list (more_fields n t fs) = ap (more_fields n t) (term_fields_of-field_list fs)

with_row-list : (r : RowTree) (rows : TermRows) → row_list (with_row r rows) ≡ r ∷ row_list rows
with_row-list (row_both a b l) rows = refl
with_row-list (row_left a t) rows = refl
with_row-list (row_right a t) rows = refl

pub row_list-term_rows_of : (rows : List RowTree) → row_list (term_rows_of rows) ≡ rows
row_list-term_rows_of [] = refl
row_list-term_rows_of (r ∷ rows) = with_row-list r (term_rows_of rows) ∙ ap (λ x. r ∷ x) (row_list-term_rows_of rows)

pub term_rows_of-row_list : (rows : TermRows) → term_rows_of (row_list rows) ≡ rows
term_rows_of-row_list no_rows = refl
term_rows_of-row_list (both a b l rows) = ap (both a b l) (term_rows_of-row_list rows)
term_rows_of-row_list (only_left a t rows) = ap (only_left a t) (term_rows_of-row_list rows)
term_rows_of-row_list (only_right a t rows) = ap (only_right a t) (term_rows_of-row_list rows)

pub arm_list-term_arms_of : (arms : List (List ℕ × List ℕ × LensTree)) → arm_list (term_arms_of arms) ≡ arms
arm_list-term_arms_of [] = refl
arm_list-term_arms_of (a ∷ arms) = ap (λ x. a ∷ x) (arm_list-term_arms_of arms)

pub term_arms_of-arm_list : (arms : TermArms) → term_arms_of (arm_list arms) ≡ arms
term_arms_of-arm_list no_arms = refl
term_arms_of-arm_list (more_arms a b l arms) = ap (more_arms a b l) (term_arms_of-arm_list arms)

-- ---- lengths

pub length-field_list : (fs : List (List ℕ × TyExpr)) → length (type_field_list (term_fields_of (map field_tree fs))) ≡ length fs
length-field_list [] = refl
length-field_list (f ∷ fs) = ap suc (length-field_list fs)

pub length-row_list : (rows : List Row) → length (row_list (term_rows_of (map row_tree rows))) ≡ length rows
length-row_list [] = refl
length-row_list (r ∷ rows) = ap length (with_row-list (row_tree r) (term_rows_of (map row_tree rows))) ∙ ap suc (length-row_list rows)

pub length-arm_list : (arms : List (List ℕ × List ℕ × Lens)) → length (arm_list (term_arms_of (map arm_tree arms))) ≡ length arms
length-arm_list [] = refl
length-arm_list (a ∷ arms) = ap suc (length-arm_list arms)
