-- The heights of the sides of a form, from those of its parts.
use Rattle.std.proofs.Common.{◌≡◌, ℕ, suc, Option, None, ◌+◌, ◌<◌, Bool, true, false, nat_eq, cond, List, [], ◌∷◌, length, map, drop, get_or, refl, ap, sym, ◌∙◌, add-one, drop-cons, arith}
use Rattle.std.specs.Prelude.{max, nat_lt}
use Rattle.std.specs.Option.{option_or}
use Rattle.std.specs.Ordering.{ord_max, nat_cmp, is_lt}
use Rattle.std.specs.declared.cmp.Ordering.TheVariants.{Less, Equal, Greater}
use Rattle.std.proofs.lemmas.Bool.Decides.{nat_tests}
use Rattle.doc_values.specs.Types.{TyTree, ty_rec, FieldTrees, no_fields, more_fields, height, highest}
use Rattle.program_terms.specs.Terms as Term
use Rattle.program_terms.specs.Views.{field_tree, row_tree, arm_tree}
use Rattle.program_terms.specs.declared.types.TyExpr.{TyExpr}
use Rattle.program_terms.specs.declared.lens.Lens.{Lens}
use Rattle.program_terms.specs.declared.lens.Row.{Row}
use Rattle.lens_forms.specs.Forms.{FormTree, form_each, form_rec, RowTrees, ArmTrees, no_arms, more_arms, left_type, right_type, left_fields, right_fields, left_tags, right_tags, sorted, lists_of}
use Rattle.lens_types.specs.Earlier.{Definitions, expanded_type, expanded_fields, expanded_form, expanded_rows, alternatives_form, partition}
use Rattle.lens_types.specs.Checking.{Failure, rows_failure}
use Rattle.lens_types.specs.Heights.{capped, HasHeights, HasRowHeights, HasArmHeights}
use Rattle.lens_types.specs.Nodes.{HasFieldHeights, row_failure}
use Rattle.lens_types.specs.declared.known.SideHeights.{SideHeights}
use Rattle.lens_types.proofs.CappedHeights.{capped-next, capped-max, highest-insert, height-record}

-- ---- containers, records and alternatives

one_more : (n m k : ℕ) → n ≡ capped (m + 1) → m ≡ capped k → n ≡ capped (k + 1)
one_more n m k e h = e ∙ ap (λ x. capped (x + 1)) h ∙ capped-next k

pub container_heights : (f : FormTree) (part whole : SideHeights) → HasHeights f part → whole.left ≡ capped (part.left + 1) → whole.right ≡ capped (part.right + 1)
    → HasHeights (form_each f) whole
container_heights f part whole h l r = (one_more whole.left part.left (height (left_type f)) l h.0, one_more whole.right part.right (height (right_type f)) r h.1)

pub record_heights : (rows : RowTrees) (part whole : SideHeights) → HasRowHeights rows part → whole.left ≡ capped (part.left + 1) → whole.right ≡ capped (part.right + 1)
    → HasHeights (form_rec rows) whole
record_heights rows part whole h l r =
    (one_more whole.left part.left (highest (left_fields rows)) l h.0, one_more whole.right part.right (highest (right_fields rows)) r h.1)

left-alternatives : (arms : ArmTrees) → height (left_type (alternatives_form arms)) ≡ highest (left_tags arms) + 1
left-alternatives no_arms = refl
left-alternatives (more_arms a b l arms) = refl

right-alternatives : (arms : ArmTrees) → height (right_type (alternatives_form arms)) ≡ highest (right_tags arms) + 1
right-alternatives no_arms = refl
right-alternatives (more_arms a b l arms) = refl

pub alternatives_heights : (arms : ArmTrees) (part whole : SideHeights) → HasArmHeights arms part → whole.left ≡ capped (part.left + 1) → whole.right ≡ capped (part.right + 1)
    → HasHeights (alternatives_form arms) whole
alternatives_heights arms part whole h l r = (
  one_more whole.left part.left (highest (left_tags arms)) l h.0 ∙ ap capped (sym (left-alternatives arms)),
  one_more whole.right part.right (highest (right_tags arms)) r h.1 ∙ ap capped (sym (right-alternatives arms)),
)

-- ---- partitions

highest-lists_of : (n : List ℕ) (t : TyTree) (fs : FieldTrees) → highest (lists_of (more_fields n t fs)) ≡ highest (more_fields n t fs) + 1
highest-lists_of n t no_fields = omega arith
highest-lists_of n t (more_fields m u fs) = omega (arith, highest-lists_of m u fs)

some_partition : (n : List ℕ) (t : TyTree) (fs : FieldTrees) (h : SideHeights) (k : ℕ) → k ≡ capped (highest (more_fields n t fs))
    → h.left ≡ capped (capped (k + 1) + 1) → h.right ≡ capped (capped (k + 1) + 1) → HasHeights (partition (more_fields n t fs)) h
some_partition n t fs h k e l r =
    let twice : capped (capped (k + 1) + 1) ≡ capped (highest (more_fields n t fs) + 1 + 1) =
    ap (λ x. capped (x + 1)) (ap (λ x. capped (x + 1)) e ∙ capped-next (highest (more_fields n t fs))) ∙ capped-next (highest (more_fields n t fs) + 1) in
    let lists : height (ty_rec (sorted (lists_of (more_fields n t fs)))) ≡ highest (more_fields n t fs) + 1 + 1 =
    height-record (lists_of (more_fields n t fs)) ∙ ap (λ x. x + 1) (highest-lists_of n t fs) in
    (l ∙ twice, r ∙ twice ∙ ap capped (sym lists))

pub partition_heights : (ds : Definitions) (fs : List (List ℕ × TyExpr)) (h : SideHeights) (k : ℕ) → 0 < length fs
    → k ≡ capped (highest (expanded_fields ds (Term.term_fields_of (map field_tree fs))))
    → h.left ≡ capped (capped (k + 1) + 1) → h.right ≡ capped (capped (k + 1) + 1)
    → HasHeights (partition (expanded_fields ds (Term.term_fields_of (map field_tree fs)))) h
partition_heights ds [] h k m e l r = absurd (omega arith)
partition_heights ds (f ∷ fs) h k m e l r = some_partition _ _ _ h k e l r

-- ---- one row more, and one arm more

max_none : (n : ℕ) → max 0 n ≡ n
max_none n = omega arith

row_left : (ds : Definitions) (row : Term.RowTree) (rows : Term.TermRows) (h : SideHeights) → HasFieldHeights ds row h
    → max h.left (capped (highest (left_fields (expanded_rows ds rows)))) ≡ capped (highest (left_fields (expanded_rows ds (Term.with_row row rows))))
row_left ds (Term.row_both a b l) rows h e =
    ap (λ n. max n (capped (highest (left_fields (expanded_rows ds rows))))) e.0
    ∙ capped-max (height (left_type (expanded_form ds l))) (highest (left_fields (expanded_rows ds rows)))
    ∙ ap capped (sym (highest-insert a (left_type (expanded_form ds l)) (left_fields (expanded_rows ds rows))))
row_left ds (Term.row_left a t) rows h e =
    ap (λ n. max n (capped (highest (left_fields (expanded_rows ds rows))))) e.0
    ∙ capped-max (height (expanded_type ds t)) (highest (left_fields (expanded_rows ds rows)))
    ∙ ap capped (sym (highest-insert a (expanded_type ds t) (left_fields (expanded_rows ds rows))))
row_left ds (Term.row_right b t) rows h e =
    ap (λ n. max n (capped (highest (left_fields (expanded_rows ds rows))))) e.0 ∙ max_none (capped (highest (left_fields (expanded_rows ds rows))))

row_right : (ds : Definitions) (row : Term.RowTree) (rows : Term.TermRows) (h : SideHeights) → HasFieldHeights ds row h
    → max h.right (capped (highest (right_fields (expanded_rows ds rows)))) ≡ capped (highest (right_fields (expanded_rows ds (Term.with_row row rows))))
row_right ds (Term.row_both a b l) rows h e =
    ap (λ n. max n (capped (highest (right_fields (expanded_rows ds rows))))) e.1
    ∙ capped-max (height (right_type (expanded_form ds l))) (highest (right_fields (expanded_rows ds rows)))
    ∙ ap capped (sym (highest-insert b (right_type (expanded_form ds l)) (right_fields (expanded_rows ds rows))))
row_right ds (Term.row_left a t) rows h e =
    ap (λ n. max n (capped (highest (right_fields (expanded_rows ds rows))))) e.1 ∙ max_none (capped (highest (right_fields (expanded_rows ds rows))))
row_right ds (Term.row_right b t) rows h e =
    ap (λ n. max n (capped (highest (right_fields (expanded_rows ds rows))))) e.1
    ∙ capped-max (height (expanded_type ds t)) (highest (right_fields (expanded_rows ds rows)))
    ∙ ap capped (sym (highest-insert b (expanded_type ds t) (right_fields (expanded_rows ds rows))))

from_place : {A : Type 0} (xs : List A) (i : ℕ) (x : A) → i < length xs → x ≡ get_or xs i x → drop i xs ≡ x ∷ drop (i + 1) xs
from_place xs i x h e = drop-cons xs i x h ∙ ap (λ y. y ∷ drop (suc i) xs) (sym e) ∙ ap (λ k. x ∷ drop k xs) (sym (add-one i))

greater_step : (c d : Bool) (a b : ℕ) → nat_lt b a ≡ c → cond (is_lt (cond c Less (cond d Equal Greater))) a b ≡ max a b
greater_step true d a b h = grind (arith, nat_tests)
greater_step false true a b h = grind (arith, nat_tests)
greater_step false false a b h = grind (arith, nat_tests)

-- what `max` gives
pub greater : (a b n : ℕ) → n ≡ ord_max nat_cmp a b → n ≡ max a b
greater a b n h = h ∙ greater_step (nat_lt b a) (nat_eq b a) a b refl

max_more : (n m k a : ℕ) → max m k ≡ a → max (max n m) k ≡ max n a
max_more n m k a e = omega (arith, e)

-- what is left of the rows, and of the arms
abbrev pub rows_from : ℕ → List Row → Term.TermRows
rows_from i rows = Term.term_rows_of (map row_tree (drop i rows))

abbrev pub arms_from : ℕ → List (List ℕ × List ℕ × Lens) → Term.TermArms
arms_from i arms = Term.term_arms_of (map arm_tree (drop i arms))

pub next_row_left : (ds : Definitions) (rows : List Row) (i : ℕ) (r : Row) (n a : ℕ) (h : SideHeights) → i < length rows → r ≡ get_or rows i r
    → HasFieldHeights ds (row_tree r) h → max n (capped (highest (left_fields (expanded_rows ds (rows_from i rows))))) ≡ a
    → max (max n h.left) (capped (highest (left_fields (expanded_rows ds (rows_from (i + 1) rows))))) ≡ a
next_row_left ds rows i r n a h low is e all =
    max_more n h.left _ _ (row_left ds (row_tree r) (rows_from (i + 1) rows) h e)
    ∙ ap (λ xs. max n (capped (highest (left_fields (expanded_rows ds (Term.term_rows_of (map row_tree xs))))))) (sym (from_place rows i r low is)) ∙ all

pub next_row_right : (ds : Definitions) (rows : List Row) (i : ℕ) (r : Row) (n a : ℕ) (h : SideHeights) → i < length rows → r ≡ get_or rows i r
    → HasFieldHeights ds (row_tree r) h → max n (capped (highest (right_fields (expanded_rows ds (rows_from i rows))))) ≡ a
    → max (max n h.right) (capped (highest (right_fields (expanded_rows ds (rows_from (i + 1) rows))))) ≡ a
next_row_right ds rows i r n a h low is e all =
    max_more n h.right _ _ (row_right ds (row_tree r) (rows_from (i + 1) rows) h e)
    ∙ ap (λ xs. max n (capped (highest (right_fields (expanded_rows ds (Term.term_rows_of (map row_tree xs))))))) (sym (from_place rows i r low is)) ∙ all

row_first : (ds : Definitions) (row : Term.RowTree) (rows : Term.TermRows) → rows_failure ds (Term.with_row row rows) ≡ option_or (row_failure ds row) (rows_failure ds rows)
row_first ds (Term.row_both a b l) rows = refl
row_first ds (Term.row_left a t) rows = refl
row_first ds (Term.row_right b t) rows = refl

pub next_row_failure : (ds : Definitions) (rows : List Row) (i : ℕ) (r : Row) (all : Option Failure) → i < length rows → r ≡ get_or rows i r
    → row_failure ds (row_tree r) ≡ None → rows_failure ds (rows_from i rows) ≡ all → rows_failure ds (rows_from (i + 1) rows) ≡ all
next_row_failure ds rows i r all low is none h =
    ap (λ o. option_or o (rows_failure ds (rows_from (i + 1) rows))) (sym none)
    ∙ sym (row_first ds (row_tree r) (rows_from (i + 1) rows))
    ∙ ap (λ xs. rows_failure ds (Term.term_rows_of (map row_tree xs))) (sym (from_place rows i r low is)) ∙ h
