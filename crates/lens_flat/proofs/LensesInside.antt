-- The nodes of the lenses inside a record and inside alternatives, one after the other.
use Rattle.std.proofs.Common.{◌≡◌, ℕ, zero, suc, ◌+◌, ◌<◌, ◌≤◌, List, [], ◌∷◌, ◌++◌, length, map, take, get_or, Option, None, Some, option_map, refl, sym, ap, subst, ◌∙◌, arith}
use Rattle.std.specs.Prelude.{slice_get}
use Rattle.std.proofs.lemmas.List.{take_all, map_more}
use Rattle.std.proofs.lemmas.Option.{slice_get-map}
use Rattle.doc_values.specs.declared.ty.Ty.{Ty}
use Rattle.lens_forms.specs.Forms.{FormTree, FormRowTree, row_both, row_left, row_right, form_row_list, form_rows_of, row_tree, form_arms_of, arm_tree, form_tree}
use Rattle.lens_forms.specs.declared.form.Form.{Form}
use Rattle.lens_forms.specs.declared.form.FormRow.{FormRow}
use Rattle.lens_forms.specs.declared.form.FormRow.TheVariants.{Both, OnlyLeft, OnlyRight}
use Rattle.lens_forms.proofs.TreesOfRows.{row_tree-both, row_tree-left, row_tree-right}
use Rattle.lens_branch.specs.AlternativeSteps.{lens_of, arm_lens}
use Rattle.lens_branch.specs.RecordSteps.{row_lens}
use Rattle.lens_branch.proofs.ArmSearch.{arm_list-form_arms_of}
use Rattle.lens_flat.specs.Tables.{form_at, Grows, Adds, AddsLenses}
use Rattle.lens_flat.specs.declared.node.Entry.{Entry}
use Rattle.lens_flat.proofs.Growth.{grows_on}
use Rattle.lens_branch.proofs.RowSearch.{row_list-form_rows_of}

-- ---- numbers of nodes with these forms

abbrev pub AreForms : List Entry → List ℕ → List FormTree → Type 0
AreForms table [] [] = Unit {0}
AreForms table (k ∷ ks) (l ∷ ls) = (k < length table) × (form_at table k ≡ l) × AreForms table ks ls
AreForms table _ _ = ⊥

forms_stay : (a b : List Entry) (ks : List ℕ) (ls : List FormTree) → Grows a b → AreForms a ks ls → AreForms b ks ls
forms_stay a b [] [] g h = tt
forms_stay a b [] (l ∷ ls) g h = absurd h
forms_stay a b (k ∷ ks) [] g h = absurd h
forms_stay a b (k ∷ ks) (l ∷ ls) g h = (let x = g.longer in let y = h.0 in omega (arith, x, y), g.same k h.0 ∙ h.1, forms_stay a b ks ls g h.2)

forms_more : (table : List Entry) (ks : List ℕ) (ls : List FormTree) (k : ℕ) (l : FormTree) → AreForms table ks ls → k < length table → form_at table k ≡ l
    → AreForms table (ks ++ k ∷ []) (ls ++ l ∷ [])
forms_more table [] [] k l h low is = (low, is, tt)
forms_more table [] (m ∷ ls) k l h low is = absurd h
forms_more table (j ∷ ks) [] k l h low is = absurd h
forms_more table (j ∷ ks) (m ∷ ls) k l h low is = (h.0, h.1, forms_more table ks ls k l h.2 low is)

below_table : (table : List Entry) (ks : List ℕ) (ls : List FormTree) → AreForms table ks ls → (i k : ℕ) → slice_get ks i ≡ Some k → k < length table
below_table table [] [] h i k e = cc
below_table table [] (l ∷ ls) h i k e = absurd h
below_table table (j ∷ ks) [] h i k e = absurd h
below_table table (j ∷ ks) (l ∷ ls) h zero k e = let same : j ≡ k = cc in subst (λ (n : ℕ). n < length table) same h.0
below_table table (j ∷ ks) (l ∷ ls) h (suc i) k e = below_table table ks ls h.2 i k e

found_forms : (table : List Entry) (ks : List ℕ) (ls : List FormTree) → AreForms table ks ls → (i : ℕ) → slice_get ls i ≡ option_map (form_at table) (slice_get ks i)
found_forms table [] [] h i = refl
found_forms table [] (l ∷ ls) h i = absurd h
found_forms table (j ∷ ks) [] h i = absurd h
found_forms table (j ∷ ks) (l ∷ ls) h zero = ap Some (sym h.1)
found_forms table (j ∷ ks) (l ∷ ls) h (suc i) = found_forms table ks ls h.2 i

-- ---- the state of the two loops

-- the table grew, and has nodes of these numbers with these forms
pub record Going (old new : List Entry) (ks : List ℕ) (ls : List FormTree) : Type 0 where
  pub grows : Grows old new
  pub are : AreForms new ks ls

going_on : (a b c : List Entry) (ks : List ℕ) (ls : List FormTree) (k : ℕ) (l : FormTree) → Going a b ks ls → Adds b c l k → Going a c (ks ++ k ∷ []) (ls ++ l ∷ [])
going_on a b c ks ls k l h g = record {
  grows = grows_on a b c h.grows g.grows;
  are = forms_more c ks ls k l (forms_stay b c ks ls g.grows h.are) g.within g.form_is;
}

all_there : (a b : List Entry) (ks : List ℕ) (ls : List FormTree) (lens : ℕ → Option FormTree) → Going a b ks ls → ((i : ℕ) → lens i ≡ slice_get ls i) → AddsLenses a b lens ks
all_there a b ks ls lens h are = record {
  grows = h.grows;
  lenses = record { below = below_table b ks ls h.are; found = λ i. are i ∙ found_forms b ks ls h.are i };
}

-- ---- rows

-- the lenses of the paired rows
abbrev pub row_lenses : List FormRowTree → List FormTree
row_lenses [] = []
row_lenses (row_both a b l ∷ rows) = l ∷ row_lenses rows
row_lenses (row_left a t ∷ rows) = row_lenses rows
row_lenses (row_right b t ∷ rows) = row_lenses rows

lens_of_row : (rows : List FormRowTree) (i : ℕ) → row_lens rows i ≡ slice_get (row_lenses rows) i
lens_of_row [] i = refl
lens_of_row (row_both a b l ∷ rows) zero = refl
lens_of_row (row_both a b l ∷ rows) (suc i) = lens_of_row rows i
lens_of_row (row_left a t ∷ rows) i = lens_of_row rows i
lens_of_row (row_right b t ∷ rows) i = lens_of_row rows i

lenses-append : (rows qs : List FormRowTree) → row_lenses (rows ++ qs) ≡ row_lenses rows ++ row_lenses qs
lenses-append [] qs = refl
lenses-append (row_both a b l ∷ rows) qs = ap (λ ls. l ∷ ls) (lenses-append rows qs)
lenses-append (row_left a t ∷ rows) qs = lenses-append rows qs
lenses-append (row_right b t ∷ rows) qs = lenses-append rows qs

-- the lenses of the first rows
abbrev pub lenses_to : List FormRow → ℕ → List FormTree
lenses_to rows i = row_lenses (map row_tree (take i rows))

one_more : (rows : List FormRow) (i : ℕ) (r : FormRow) → i < length rows → r ≡ get_or rows i r → lenses_to rows (i + 1) ≡ lenses_to rows i ++ row_lenses (row_tree r ∷ [])
one_more rows i r h is =
    ap row_lenses (map_more row_tree rows i r h)
    ∙ (lenses-append (map row_tree (take i rows)) (row_tree (get_or rows i r) ∷ [])
    ∙ ap (λ (q : FormRow). lenses_to rows i ++ row_lenses (row_tree q ∷ [])) (sym is))

append_none : (ls : List FormTree) → ls ++ [] ≡ ls
append_none [] = refl
append_none (l ∷ ls) = ap (λ x. l ∷ x) (append_none ls)

pub paired_more : (a b c : List Entry) (rows : List FormRow) (i : ℕ) (r : FormRow) (n m : List ℕ) (l : Form) (ks : List ℕ) (k : ℕ) → i < length rows → r ≡ get_or rows i r → r ≡ Both n m l
    → Going a b ks (lenses_to rows i) → Adds b c (form_tree l) k → Going a c (ks ++ k ∷ []) (lenses_to rows (i + 1))
paired_more a b c rows i r n m l ks k h is row g add =
    let tree : row_lenses (row_tree r ∷ []) ≡ form_tree l ∷ [] = ap (λ (q : FormRowTree). row_lenses (q ∷ [])) (ap row_tree row ∙ row_tree-both n m l) in
    let next : lenses_to rows (i + 1) ≡ lenses_to rows i ++ form_tree l ∷ [] = one_more rows i r h is ∙ ap (λ (ls : List FormTree). lenses_to rows i ++ ls) tree in
    rw next (going_on a b c ks (lenses_to rows i) k (form_tree l) g add)

pub left_more : (a b : List Entry) (rows : List FormRow) (i : ℕ) (r : FormRow) (n : List ℕ) (t : Ty) (ks : List ℕ) → i < length rows → r ≡ get_or rows i r → r ≡ OnlyLeft n t
    → Going a b ks (lenses_to rows i) → Going a b ks (lenses_to rows (i + 1))
left_more a b rows i r n t ks h is row g =
    let tree : row_lenses (row_tree r ∷ []) ≡ [] = ap (λ (q : FormRowTree). row_lenses (q ∷ [])) (ap row_tree row ∙ row_tree-left n t) in
    let next : lenses_to rows (i + 1) ≡ lenses_to rows i =
    one_more rows i r h is ∙ (ap (λ (ls : List FormTree). lenses_to rows i ++ ls) tree ∙ append_none (lenses_to rows i)) in
    rw next g

pub right_more : (a b : List Entry) (rows : List FormRow) (i : ℕ) (r : FormRow) (n : List ℕ) (t : Ty) (ks : List ℕ) → i < length rows → r ≡ get_or rows i r → r ≡ OnlyRight n t
    → Going a b ks (lenses_to rows i) → Going a b ks (lenses_to rows (i + 1))
right_more a b rows i r n t ks h is row g =
    let tree : row_lenses (row_tree r ∷ []) ≡ [] = ap (λ (q : FormRowTree). row_lenses (q ∷ [])) (ap row_tree row ∙ row_tree-right n t) in
    let next : lenses_to rows (i + 1) ≡ lenses_to rows i =
    one_more rows i r h is ∙ (ap (λ (ls : List FormTree). lenses_to rows i ++ ls) tree ∙ append_none (lenses_to rows i)) in
    rw next g

-- once every row is done
pub rows_done : (a b : List Entry) (rows : List FormRow) (i : ℕ) (ks : List ℕ) → length rows ≤ i → Going a b ks (lenses_to rows i)
    → AddsLenses a b (row_lens (form_row_list (form_rows_of (map row_tree rows)))) ks
rows_done a b rows i ks h g =
    let whole : take i rows ≡ rows = take_all i rows h in
    all_there a b ks (lenses_to rows i) (row_lens (form_row_list (form_rows_of (map row_tree rows)))) g
    (λ j. ap (λ (qs : List FormRowTree). row_lens qs j) (row_list-form_rows_of (map row_tree rows))
    ∙ (lens_of_row (map row_tree rows) j ∙ ap (λ (rs : List FormRow). slice_get (row_lenses (map row_tree rs)) j) (sym whole)))

-- ---- arms

-- the lens of an arm
abbrev pub arm_form : List ℕ × List ℕ × Form → FormTree
arm_form a = form_tree a.2

abbrev pub arm_forms_to : List (List ℕ × List ℕ × Form) → ℕ → List FormTree
arm_forms_to arms i = map arm_form (take i arms)

pub arm_more : (a b c : List Entry) (arms : List (List ℕ × List ℕ × Form)) (i : ℕ) (x : List ℕ × List ℕ × Form) (ks : List ℕ) (k : ℕ) → i < length arms → x ≡ get_or arms i x
    → Going a b ks (arm_forms_to arms i) → Adds b c (form_tree x.2) k → Going a c (ks ++ k ∷ []) (arm_forms_to arms (i + 1))
arm_more a b c arms i x ks k h is g add =
    let next : arm_forms_to arms (i + 1) ≡ arm_forms_to arms i ++ form_tree x.2 ∷ [] =
    map_more arm_form arms i x h ∙ ap (λ (y : List ℕ × List ℕ × Form). arm_forms_to arms i ++ form_tree y.2 ∷ []) (sym is) in
    rw next (going_on a b c ks (arm_forms_to arms i) k (form_tree x.2) g add)

lens_of_arm : (arms : List (List ℕ × List ℕ × Form)) (j : ℕ) → arm_lens (form_arms_of (map arm_tree arms)) j ≡ slice_get (map arm_form arms) j
lens_of_arm arms j =
    ap (λ (arms' : List (List ℕ × List ℕ × FormTree)). option_map lens_of (slice_get arms' j)) (arm_list-form_arms_of (map arm_tree arms))
    ∙ (ap (option_map lens_of) (slice_get-map arm_tree arms j) ∙ (same (slice_get arms j) ∙ sym (slice_get-map arm_form arms j)))
  where
    same : (o : Option (List ℕ × List ℕ × Form)) → option_map lens_of (option_map arm_tree o) ≡ option_map arm_form o
    same None = refl
    same (Some y) = refl

-- once every arm is done
pub arms_done : (a b : List Entry) (arms : List (List ℕ × List ℕ × Form)) (i : ℕ) (ks : List ℕ) → length arms ≤ i → Going a b ks (arm_forms_to arms i)
    → AddsLenses a b (arm_lens (form_arms_of (map arm_tree arms))) ks
arms_done a b arms i ks h g =
    let whole : take i arms ≡ arms = take_all i arms h in
    all_there a b ks (arm_forms_to arms i) (arm_lens (form_arms_of (map arm_tree arms))) g
    (λ j. lens_of_arm arms j ∙ ap (λ (xs : List (List ℕ × List ℕ × Form)). slice_get (map arm_form xs) j) (sym whole))
