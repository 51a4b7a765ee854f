-- Lists of trees, and the folds at the types that wrap a list.
use Rattle.std.proofs.Common.{◌≡◌, ℕ, ◌≤◌, false, nat_eq, List, [], ◌∷◌, ◌++◌, length, map, drop, rules, refl, ap, ◌∙◌, append-nil}
use Rattle.std.proofs.lemmas.List.{drop_all}
use Rattle.doc_values.specs.Types.{field_list, type_fields_of as ty_fields, field_tree as ty_field}
use Rattle.doc_values.specs.declared.ty.Ty.{Ty}
use Rattle.doc_values.proofs.Lists.{fields_of-field_list}
use Rattle.program_terms.specs.Terms as Term
use Rattle.program_terms.specs.Views as View
use Rattle.program_terms.specs.declared.types.TyExpr.{TyExpr}
use Rattle.program_terms.specs.declared.lens.Lens.{Lens}
use Rattle.program_terms.specs.declared.lens.Row.{Row}
use Rattle.lens_forms.specs.Forms.{form_alt, RowTrees, no_rows, both, only_left, only_right, form_rows_of, form_row_list, row_tree, ArmTrees, no_arms, more_arms, form_arms_of, form_arm_list, arms_tree, arm_tree, form_tree, lists_of}
use Rattle.lens_types.specs.Earlier.{Definitions, alternatives_form, expanded_fields, expanded_rows, expanded_arms}
use Rattle.lens_types.specs.SideTypes.{fields_on, tags_on}
use Rattle.texts.specs.declared.side.Side.{Side}
use Rattle.lens_forms.specs.declared.form.Form.{Form, the_lemmas as form_lemmas}
use Rattle.lens_forms.specs.declared.form.Form.TheVariants.{Alt}
use Rattle.lens_forms.specs.declared.form.FormRow.{FormRow}
use Rattle.lens_forms.specs.declared.form.FormArms.{FormArms}

-- ---- trees and lists, there and back

pub rows-there_and_back : (rows : RowTrees) → form_rows_of (form_row_list rows) ≡ rows
rows-there_and_back no_rows = refl
rows-there_and_back (both a b l rows) = ap (both a b l) (rows-there_and_back rows)
rows-there_and_back (only_left a t rows) = ap (only_left a t) (rows-there_and_back rows)
rows-there_and_back (only_right b t rows) = ap (only_right b t) (rows-there_and_back rows)

pub arms-there_and_back : (arms : ArmTrees) → form_arms_of (form_arm_list arms) ≡ arms
arms-there_and_back no_arms = refl
arms-there_and_back (more_arms a b l arms) = ap (more_arms a b l) (arms-there_and_back arms)

pub form_tree-alt : (arms : FormArms) → form_tree (Alt arms) ≡ form_alt (arms_tree arms)
form_tree-alt arms = search (rules, form_lemmas)

-- arms of which there is one are alternatives
pub some_arms : (arms : List (List ℕ × List ℕ × Form)) → nat_eq (length arms) 0 ≡ false
    → form_alt (form_arms_of (map arm_tree arms)) ≡ alternatives_form (form_arms_of (map arm_tree arms))
some_arms [] h = cc
some_arms (a ∷ arms) h = refl

-- ---- once every element is done, what was made is the whole

pub lists_done : (fs out : List (List ℕ × Ty)) (i : ℕ) → length fs ≤ i
    → map ty_field out ++ field_list (lists_of (ty_fields (map ty_field (drop i fs)))) ≡ field_list (lists_of (ty_fields (map ty_field fs)))
    → ty_fields (map ty_field out) ≡ lists_of (ty_fields (map ty_field fs))
lists_done fs out i h e = ap ty_fields (rw (drop_all i fs h, append-nil) at e) ∙ fields_of-field_list _

pub fields_done : (ds : Definitions) (fs : List (List ℕ × TyExpr)) (out : List (List ℕ × Ty)) (i : ℕ) → length fs ≤ i
    → map ty_field out ++ field_list (expanded_fields ds (Term.term_fields_of (map View.field_tree (drop i fs)))) ≡ field_list (expanded_fields ds (Term.term_fields_of (map View.field_tree fs)))
    → ty_fields (map ty_field out) ≡ expanded_fields ds (Term.term_fields_of (map View.field_tree fs))
fields_done ds fs out i h e = ap ty_fields (rw (drop_all i fs h, append-nil) at e) ∙ fields_of-field_list _

pub rows_done : (ds : Definitions) (rows : List Row) (out : List FormRow) (i : ℕ) → length rows ≤ i
    → map row_tree out ++ form_row_list (expanded_rows ds (Term.term_rows_of (map View.row_tree (drop i rows)))) ≡ form_row_list (expanded_rows ds (Term.term_rows_of (map View.row_tree rows)))
    → form_rows_of (map row_tree out) ≡ expanded_rows ds (Term.term_rows_of (map View.row_tree rows))
rows_done ds rows out i h e = ap form_rows_of (rw (drop_all i rows h, append-nil) at e) ∙ rows-there_and_back _

pub arms_done : (ds : Definitions) (arms : List (List ℕ × List ℕ × Lens)) (out : List (List ℕ × List ℕ × Form)) (i : ℕ) → length arms ≤ i
    → map arm_tree out ++ form_arm_list (expanded_arms ds (Term.term_arms_of (map View.arm_tree (drop i arms)))) ≡ form_arm_list (expanded_arms ds (Term.term_arms_of (map View.arm_tree arms)))
    → form_arms_of (map arm_tree out) ≡ expanded_arms ds (Term.term_arms_of (map View.arm_tree arms))
arms_done ds arms out i h e = ap form_arms_of (rw (drop_all i arms h, append-nil) at e) ∙ arms-there_and_back _

pub side_fields_done : (side : Side) (ds : Definitions) (rows : List Row) (out : List (List ℕ × Ty)) (i : ℕ) → length rows ≤ i
    → map ty_field out ++ field_list (fields_on side (expanded_rows ds (Term.term_rows_of (map View.row_tree (drop i rows))))) ≡ field_list (fields_on side (expanded_rows ds (Term.term_rows_of (map View.row_tree rows))))
    → ty_fields (map ty_field out) ≡ fields_on side (expanded_rows ds (Term.term_rows_of (map View.row_tree rows)))
side_fields_done side ds rows out i h e = ap ty_fields (rw (drop_all i rows h, append-nil) at e) ∙ fields_of-field_list _

pub side_tags_done : (side : Side) (ds : Definitions) (arms : List (List ℕ × List ℕ × Lens)) (out : List (List ℕ × Ty)) (i : ℕ) → length arms ≤ i
    → map ty_field out ++ field_list (tags_on side (expanded_arms ds (Term.term_arms_of (map View.arm_tree (drop i arms))))) ≡ field_list (tags_on side (expanded_arms ds (Term.term_arms_of (map View.arm_tree arms))))
    → ty_fields (map ty_field out) ≡ tags_on side (expanded_arms ds (Term.term_arms_of (map View.arm_tree arms)))
side_tags_done side ds arms out i h e = ap ty_fields (rw (drop_all i arms h, append-nil) at e) ∙ fields_of-field_list _
