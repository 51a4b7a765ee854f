-- The rows of a record, as the code goes through them one after the other.
use Rattle.std.proofs.Common.{◌≡◌, ℕ, suc, ◌+◌, ◌-◌, ◌<◌, ◌≤◌, Bool, true, false, List, [], ◌∷◌, length, map, drop, drop-cons, get_or, add-one, Option, None, Some, option_map, refl, sym, ap, subst, ◌∙◌, arith}
use Rattle.std.specs.Prelude.{nat_eq}
use Rattle.std.proofs.lemmas.List.{drop_all}
use Rattle.std.proofs.lemmas.Bool.Decides.{nat_tests}
use Rattle.texts.specs.declared.side.Side.{Side}
use Rattle.lens_forms.specs.Forms.{FormTree, RowTrees, FormRowTree, row_both, row_left, row_right, form_row_list, form_rows_of, row_tree, with_form_row, paired_rows}
use Rattle.lens_forms.specs.declared.form.FormRow.{FormRow}
use Rattle.doc_values.specs.declared.ty.Ty.{Ty}
use Rattle.lens_forms.specs.Forms.{form_tree}
use Rattle.lens_forms.specs.Measures.{form_parts, rows_parts}
use Rattle.lens_forms.specs.declared.form.Form.{Form}
use Rattle.lens_forms.specs.declared.form.FormRow.TheVariants.{Both, OnlyLeft, OnlyRight}
use Rattle.lens_forms.proofs.TreesOfRows.{row_tree-both, row_tree-left, row_tree-right}
use Rattle.lens_core.proofs.FormParts.{row_parts, row_smaller}
use Rattle.lens_core.proofs.Results.{inside_if}
use Rattle.edit_module.specs.Words.{PrimitiveTree, set, add, splice, at, stay, switch, modify, shape, WordTree}
use Rattle.lens_core.specs.Beginnings.{IsInside}
use Rattle.lens_core.specs.Complements.{CompTrees, comp_count}
use Rattle.lens_branch.specs.RecordSteps.{has_near, pairs_of, RowAt, row_behind, row_of, begin_row, begin_in, begin_record, row_lens}

pub row_list-form_rows_of : (rs : List FormRowTree) → form_row_list (form_rows_of rs) ≡ rs
row_list-form_rows_of [] = refl
row_list-form_rows_of (row_both a b l ∷ rs) = ap (λ x. row_both a b l ∷ x) (row_list-form_rows_of rs)
row_list-form_rows_of (row_left a t ∷ rs) = ap (λ x. row_left a t ∷ x) (row_list-form_rows_of rs)
row_list-form_rows_of (row_right b t ∷ rs) = ap (λ x. row_right b t ∷ x) (row_list-form_rows_of rs)

-- ---- the search

same_row : (k p : ℕ) (r : FormRowTree) → k ≡ p → ◌≡◌ {A = Option RowAt} (Some (record { pairs = k; row = r })) (Some (record { pairs = p; row = r }))
same_row k p r e = rw e refl

behind_more : (k p : ℕ) (o : Option RowAt) → option_map (row_behind k) (option_map (row_behind p) o) ≡ option_map (row_behind (k + p)) o
behind_more k p None = refl
behind_more k p (Some q) = same_row (q.pairs + p + k) (q.pairs + (k + p)) q.row (omega arith)

behind_nothing : (o : Option RowAt) → option_map (row_behind 0) o ≡ o
behind_nothing None = refl
behind_nothing (Some q) = same_row (q.pairs + 0) q.pairs q.row (omega arith)

-- the row of a field among the rows from one on, with so many paired rows before them
abbrev pub found_from : List FormRow → Side → List ℕ → ℕ → ℕ → Option RowAt
found_from rows side f i k = option_map (row_behind k) (row_of (map row_tree (drop i rows)) side f)

pub found_first : (rows : List FormRow) (side : Side) (f : List ℕ) → found_from rows side f 0 0 ≡ row_of (map row_tree rows) side f
found_first rows side f = behind_nothing (row_of (map row_tree rows) side f)

pub found_here : (rows : List FormRow) (side : Side) (f : List ℕ) (i k : ℕ) (r : FormRow) → i < length rows → r ≡ get_or rows i r → has_near side f (row_tree r) ≡ true
    → found_from rows side f i k ≡ Some (record { pairs = k; row = row_tree r })
found_here rows side f i k r h is e = rw (drop-cons rows i r h, sym is, e) (same_row (0 + k) k (row_tree r) (omega arith))

pub found_next : (rows : List FormRow) (side : Side) (f : List ℕ) (i k : ℕ) (r : FormRow) → i < length rows → r ≡ get_or rows i r → has_near side f (row_tree r) ≡ false
    → found_from rows side f i k ≡ found_from rows side f (i + 1) (k + pairs_of (row_tree r))
found_next rows side f i k r h is e =
    rw (drop-cons rows i r h, sym is, e, add-one i) (behind_more k (pairs_of (row_tree r)) (row_of (map row_tree (drop (suc i) rows)) side f))

pub found_all : (rows : List FormRow) (side : Side) (f : List ℕ) (i k : ℕ) → length rows ≤ i → found_from rows side f i k ≡ None
found_all rows side f i k h = rw (drop_all i rows h) refl

-- ---- the number of paired rows

abbrev pub pair_count : List FormRow → ℕ
pair_count rows = paired_rows (form_rows_of (map row_tree rows))

with_row-pairs : (r : FormRowTree) (rows : RowTrees) → paired_rows (with_form_row r rows) ≡ pairs_of r + paired_rows rows
with_row-pairs (row_both a b l) rows = omega arith
with_row-pairs (row_left a t) rows = omega arith
with_row-pairs (row_right b t) rows = omega arith

pub count_next : (rows : List FormRow) (i : ℕ) (r : FormRow) → i < length rows → r ≡ get_or rows i r
    → pair_count (drop i rows) ≡ pairs_of (row_tree r) + pair_count (drop (i + 1) rows)
count_next rows i r h is = rw (drop-cons rows i r h, sym is, add-one) (with_row-pairs (row_tree r) (form_rows_of (map row_tree (drop (suc i) rows))))

pub count_all : (rows : List FormRow) (i : ℕ) → length rows ≤ i → pair_count (drop i rows) ≡ 0
count_all rows i h = rw (drop_all i rows h) refl

-- ---- the lens of the paired row of a number

lens_here : (items : List FormRow) (i : ℕ) (r : FormRow) (a b : List ℕ) (l : Form) → i < length items → r ≡ get_or items i r → r ≡ Both a b l
    → row_lens (map row_tree (drop i items)) 0 ≡ Some (form_tree l)
lens_here items i r a b l h is row = rw (drop-cons items i r h, sym is, row, row_tree-both a b l) refl

one_before : (k n : ℕ) (a b : List ℕ) (l : FormTree) (rows : List FormRowTree) → k ≡ suc n → row_lens (row_both a b l ∷ rows) k ≡ row_lens rows n
one_before k n a b l rows e = rw e refl

pub lens_behind : (items : List FormRow) (i k : ℕ) (r : FormRow) (a b : List ℕ) (l : Form) → i < length items → r ≡ get_or items i r → r ≡ Both a b l → 0 < k
    → row_lens (map row_tree (drop i items)) k ≡ row_lens (map row_tree (drop (i + 1) items)) (k - 1)
lens_behind items i k r a b l h is row more =
    let one_more : k ≡ suc (k - 1) = omega (arith, more) in
    rw (drop-cons items i r h, sym is, row, row_tree-both a b l, add-one i) (one_before k (k - 1) a b (form_tree l) (map row_tree (drop (suc i) items)) one_more)

pub lens_past_left : (items : List FormRow) (i k : ℕ) (r : FormRow) (a : List ℕ) (t : Ty) → i < length items → r ≡ get_or items i r → r ≡ OnlyLeft a t
    → row_lens (map row_tree (drop i items)) k ≡ row_lens (map row_tree (drop (i + 1) items)) k
lens_past_left items i k r a t h is row = rw (drop-cons items i r h, sym is, row, row_tree-left a t, add-one i) refl

pub lens_past_right : (items : List FormRow) (i k : ℕ) (r : FormRow) (b : List ℕ) (t : Ty) → i < length items → r ≡ get_or items i r → r ≡ OnlyRight b t
    → row_lens (map row_tree (drop i items)) k ≡ row_lens (map row_tree (drop (i + 1) items)) k
lens_past_right items i k r b t h is row = rw (drop-cons items i r h, sym is, row, row_tree-right b t, add-one i) refl

lens_past_all : (items : List FormRow) (i k : ℕ) → length items ≤ i → row_lens (map row_tree (drop i items)) k ≡ None
lens_past_all items i k h = rw (drop_all i items h) refl

in_items : (items : List FormRow) (rows : RowTrees) (n : ℕ) → form_rows_of (map row_tree items) ≡ rows → row_lens (form_row_list rows) n ≡ row_lens (map row_tree items) n
in_items items rows n e = rw (← e, row_list-form_rows_of) refl

pub lens_is_here : (items : List FormRow) (rows : RowTrees) (n i k : ℕ) (r : FormRow) (a b : List ℕ) (l : Form) → form_rows_of (map row_tree items) ≡ rows
    → row_lens (map row_tree (drop i items)) k ≡ row_lens (map row_tree items) n → i < length items → r ≡ get_or items i r → r ≡ Both a b l → k ≡ 0
    → Some (form_tree l) ≡ row_lens (form_row_list rows) n
lens_is_here items rows n i k r a b l e same h is row first =
    sym (lens_here items i r a b l h is row) ∙ (ap (row_lens (map row_tree (drop i items))) (sym first) ∙ (same ∙ sym (in_items items rows n e)))

pub no_lens : (items : List FormRow) (rows : RowTrees) (n i k : ℕ) → form_rows_of (map row_tree items) ≡ rows
    → row_lens (map row_tree (drop i items)) k ≡ row_lens (map row_tree items) n → length items ≤ i → None ≡ row_lens (form_row_list rows) n
no_lens items rows n i k e same h = sym (lens_past_all items i k h) ∙ (same ∙ sym (in_items items rows n e))

-- a lens inside has fewer parts than the rows
pub paired_smaller : (items : List FormRow) (rows : RowTrees) (i : ℕ) (r : FormRow) (a b : List ℕ) (l : Form) → form_rows_of (map row_tree items) ≡ rows → i < length items → r ≡ get_or items i r
    → r ≡ Both a b l → form_parts (form_tree l) < rows_parts rows
paired_smaller items rows i r a b l e h is row =
    let low = row_smaller items i r h is in
    let same = ap row_parts (ap row_tree row ∙ row_tree-both a b l) in
    let whole = ap rows_parts e in
    omega (arith, low, same, whole)

pub ruleset place_rules = (lens_is_here, lens_behind, lens_past_left, lens_past_right, no_lens, paired_smaller)

-- ---- after a beginning in a row, the row of the field is there and is paired

row_inside : (cs : CompTrees) (u : WordTree) (o : Option RowAt) → IsInside (option_map (begin_in cs u) o) → o ≡ None → ⊥
row_inside cs u None h e = h
row_inside cs u (Some q) h e = cc

paired_inside : (cs : CompTrees) (u : WordTree) (k : ℕ) (r : FormRowTree) → IsInside (Some (begin_row cs u k r)) → pairs_of r ≡ 1
paired_inside cs u k (row_both a b l) h = refl
paired_inside cs u k (row_left a t) h = absurd h
paired_inside cs u k (row_right b t) h = absurd h

pub begun_counted : (rows : RowTrees) (side : Side) (cs : CompTrees) (f : List ℕ) (u : WordTree) → IsInside (begin_record rows side cs (at f u)) → comp_count cs ≡ paired_rows rows
begun_counted rows side cs f u h =
    let e = (inside_if (nat_eq (comp_count cs) (paired_rows rows)) (option_map (begin_in cs u) (row_of (form_row_list rows) side f)) h).0 in
    grind (arith, nat_tests)

pub begun_has_row : (rows : RowTrees) (side : Side) (cs : CompTrees) (f : List ℕ) (u : WordTree) → IsInside (begin_record rows side cs (at f u)) → row_of (form_row_list rows) side f ≡ None → ⊥
begun_has_row rows side cs f u h e =
    row_inside cs u (row_of (form_row_list rows) side f) (inside_if (nat_eq (comp_count cs) (paired_rows rows)) (option_map (begin_in cs u) (row_of (form_row_list rows) side f)) h).1 e

pub begun_is_paired : (rows : RowTrees) (side : Side) (cs : CompTrees) (f : List ℕ) (u : WordTree) (q : RowAt) → IsInside (begin_record rows side cs (at f u)) → row_of (form_row_list rows) side f ≡ Some q
    → pairs_of q.row ≡ 1
begun_is_paired rows side cs f u q h e =
    let there = (inside_if (nat_eq (comp_count cs) (paired_rows rows)) (option_map (begin_in cs u) (row_of (form_row_list rows) side f)) h).1 in
    paired_inside cs u q.pairs q.row (subst (λ (o : Option RowAt). IsInside (option_map (begin_in cs u) o)) e there)

abbrev pub is_at : PrimitiveTree → Bool
is_at (at f u) = true
is_at _ = false

pub begun_is_at : (rows : RowTrees) (side : Side) (cs : CompTrees) (p : PrimitiveTree) → is_at p ≡ false → IsInside (begin_record rows side cs p) → ⊥
begun_is_at rows side cs (at f u) e h = cc
begun_is_at rows side cs (set a) e h = h
begun_is_at rows side cs (add n) e h = h
begun_is_at rows side cs (splice i k s) e h = h
begun_is_at rows side cs (stay t u) e h = h
begun_is_at rows side cs (switch m n u) e h = h
begun_is_at rows side cs (modify q u) e h = h
begun_is_at rows side cs (shape a) e h = h

pub ruleset begun_rules = (begun_counted, begun_has_row, begun_is_paired, begun_is_at)

pub ruleset row_rules = (row_list-form_rows_of, found_first, found_here, found_next, found_all, count_next, count_all)
