-- Partitions keep the equations, from both sides.
use Rattle.std.proofs.Common.{◌≡◌, refl, sym, ap, ap₂, subst, Bool, true, false, ◌&&◌, cond, Option, None, Some, option_map, List, [], length, replicate, ℕ, zero, suc, ◌-◌, ◌<◌, nat_eq, nat_lt, arith, ◌∙◌}
use Rattle.std.specs.Prelude.{option_and_then, nat_le}
use Rattle.texts.specs.declared.side.Side.{Side}
use Rattle.texts.specs.declared.side.Side.TheVariants.{Left, Right}
use Rattle.hold_shapes.specs.declared.edit.Place.{Place}
use Rattle.hold_shapes.specs.declared.edit.Place.TheVariants.{Index, Key, Node}
use Rattle.hold_shapes.specs.declared.edit.ShapeEdit.TheVariants.{Ins, Del, MoveItem, Reorder}
use Rattle.hold_shapes.specs.Plans.{is_count, is_each_new}
use Rattle.doc_values.specs.Types.{FieldTrees}
use Rattle.edit_module.specs.Words.{PrimitiveTree, set, add, splice, at, stay, switch, modify, shape, WordTree, joined}
use Rattle.edit_module.specs.Normal.{merge}
use Rattle.tag_seq.specs.Tags.{count, are_below}
use Rattle.tag_seq.proofs.Bounds.{are_below-append, are_below-replicate, are_below-remove, are_below-moved}
use Rattle.lens_forms.specs.Forms.{form_part}
use Rattle.lens_core.specs.Complements.{CompTree, tags_comp}
use Rattle.lens_core.specs.Tags.{tag_count, tag_number, tag_name}
use Rattle.lens_core.specs.Emitted.{behind, one_by_one}
use Rattle.lens_core.specs.Partition.{Parted, place_in, where_holds, part_item, part_left, insert_occurrences, delete_last, delete_occurrences, move_occurrence, reorder_occurrences, mod_occurrence, part_occurrence, part_right}
use Rattle.lens_core.specs.Translation.{tagged, part_one, translate_one}
use Rattle.law_equations.specs.Alike.{KeepsEquations}
use Rattle.law_equations.proofs.Glue.{normalized, normalized_one}
use Rattle.law_equations.proofs.Normals.{merge-cases, normalized-again}
use Rattle.law_equations.proofs.Alikes.{in_normal_form, same-parts, in_order, in_order-same, in_order-given, in_parts, Owed, owed-keeps, owed-form}
use Rattle.law_equations.proofs.ItemsAlike.{word-kept, item-long, item-below, items-keep, occurrences-owed}
use Rattle.lens_core.proofs.TagNumbers.{tag-below}

-- ---- from the left

left-one : (fs : FieldTrees) (ts : List ℕ) (p : PrimitiveTree) → in_normal_form (part_left fs ts (normalized_one p)) ≡ in_normal_form (part_left fs ts p)
left-one fs ts (modify (Index p) u) = go (nat_lt p (length ts)) refl
  where
    go : (b : Bool) → nat_lt p (length ts) ≡ b → in_normal_form (cond b (one_by_one (part_item fs p) ts (normalized u)) None) ≡ in_normal_form (cond b (one_by_one (part_item fs p) ts u) None)
    go false e = refl
    go true e = items-keep fs p ts (normalized u) u e (normalized-again u)
left-one fs ts (modify (Key k) u) = refl
left-one fs ts (modify (Node k) u) = refl
left-one fs ts (set a) = refl
left-one fs ts (add a) = refl
left-one fs ts (splice i k s) = refl
left-one fs ts (at f u) = refl
left-one fs ts (stay f u) = refl
left-one fs ts (switch s f u) = refl
left-one fs ts (shape a) = refl

left-mod : (fs : FieldTrees) (ts : List ℕ) (x : Place) (u v : WordTree) → in_normal_form (part_left fs ts (modify x (joined u v))) ≡ in_normal_form (in_order (part_left fs ts (modify x u)) (λ us. part_left fs us (modify x v)))
left-mod fs ts (Index p) u v = go (nat_lt p (length ts)) refl
  where
    long : nat_lt p (length ts) ≡ true → (r : Parted) → one_by_one (part_item fs p) ts u ≡ Some r → nat_lt p (length r.1) ≡ true
    long e r i = word-kept (part_item fs p) (λ us. nat_lt p (length us) ≡ true) (λ us q s k j. item-long fs p us q s k j) u ts r e i

    go : (b : Bool) → nat_lt p (length ts) ≡ b → in_normal_form (cond b (one_by_one (part_item fs p) ts (joined u v)) None)
        ≡ in_normal_form (in_order (cond b (one_by_one (part_item fs p) ts u) None) (λ us. part_left fs us (modify (Index p) v)))
    go false e = refl
    go true e =
        ap in_normal_form (in_parts (part_item fs p) ts u v)
        ∙ in_order-given (one_by_one (part_item fs p) ts u) (one_by_one (part_item fs p) ts u) (λ us. one_by_one (part_item fs p) us v) (λ us. part_left fs us (modify (Index p) v)) refl
        (λ r i. ap (λ b. in_normal_form (cond b (one_by_one (part_item fs p) r.1 v) None)) (sym (long e r i)))
left-mod fs ts (Key k) u v = refl
left-mod fs ts (Node k) u v = refl

left-owed : (fs : FieldTrees) → Owed (List ℕ) (part_left fs)
left-owed fs = record {
  ones = λ ts p. left-one fs ts p;
  pairs = λ ts p q r e. merge-cases (λ p q r. in_normal_form (part_left fs ts r) ≡ in_normal_form (in_order (part_left fs ts p) (λ us. part_left fs us q)))
      (λ f u v. refl) (λ t u v. refl) (λ x u v. left-mod fs ts x u v) (λ a b u v. refl) p q r e;
}

left-below : (fs : FieldTrees) (ts : List ℕ) (x : Place) (u : WordTree) (s : Parted) → are_below (tag_count fs) ts ≡ true → part_left fs ts (modify x u) ≡ Some s → are_below (tag_count fs) s.1 ≡ true
left-below fs ts (Index p) u s k e = go (nat_lt p (length ts)) e
  where
    go : (b : Bool) → cond b (one_by_one (part_item fs p) ts u) None ≡ Some s → are_below (tag_count fs) s.1 ≡ true
    go false e = cc
    go true e = word-kept (part_item fs p) (λ us. are_below (tag_count fs) us ≡ true) (λ us q r k j. item-below fs p us q r k j) u ts s k e
left-below fs ts (Key n) u s k e = cc
left-below fs ts (Node n) u s k e = cc

-- ---- from the right

below-deleted : (n t c : ℕ) (ts : List ℕ) → are_below n ts ≡ true → are_below n (delete_occurrences t ts c).1 ≡ true
below-deleted n t zero ts h = h
below-deleted n t (suc c) ts h = below-deleted n t c (delete_last t ts).1 (are_below-remove n (place_in ts t (count t ts - 1)) ts h)

there : (b : Bool) (x r : Parted) (Kept : List ℕ → Type 0) → Kept x.1 → where_holds b x ≡ Some r → Kept r.1
there false x r Kept k e = cc
there true x r Kept k e = let same : x ≡ r = cc in subst (λ z. Kept z.1) same k

occurrence-below : (n : ℕ) (first_tag name : List ℕ) (t : ℕ) → t < n → (ts : List ℕ) (p : PrimitiveTree) (r : Parted) → are_below n ts ≡ true → part_occurrence first_tag name t ts p ≡ Some r → are_below n r.1 ≡ true
occurrence-below n first_tag name t l ts (modify (Index q) u) r k e = there (nat_lt q (count t ts)) (mod_occurrence name t ts q u) r (λ us. are_below n us ≡ true) k e
occurrence-below n first_tag name t l ts (shape (Ins c)) r k e =
    there (is_count c) (insert_occurrences first_tag name t ts c) r (λ us. are_below n us ≡ true) (are_below-append n ts (replicate c t) k (are_below-replicate n t c l)) e
occurrence-below n first_tag name t l ts (shape (Del c)) r k e =
    there (is_count c && nat_le c (count t ts)) (delete_occurrences t ts c) r (λ us. are_below n us ≡ true) (below-deleted n t c ts k) e
occurrence-below n first_tag name t l ts (shape (MoveItem i j)) r k e =
    there (nat_lt i (count t ts) && nat_lt j (count t ts)) (move_occurrence t ts i j) r (λ us. are_below n us ≡ true)
    (are_below-moved n (place_in ts t i) (place_in ts t j) ts (omega (arith, l)) k) e
occurrence-below n first_tag name t l ts (shape (Reorder f)) r k e =
    there (nat_eq (length f) (count t ts) && is_each_new (count t ts) [] f) (reorder_occurrences t ts f) r (λ us. are_below n us ≡ true) k e
occurrence-below n first_tag name t l ts _ r k e = cc

right-one : (fs : FieldTrees) (ts : List ℕ) (p : PrimitiveTree) → in_normal_form (part_right fs ts (normalized_one p)) ≡ in_normal_form (part_right fs ts p)
right-one fs ts (at n u) = go (tag_number fs n)
  where
    go : (o : Option ℕ) → in_normal_form (option_and_then (λ t. one_by_one (part_occurrence (tag_name fs 0) n t) ts (normalized u)) o) ≡ in_normal_form (option_and_then (λ t. one_by_one (part_occurrence (tag_name fs 0) n t) ts u) o)
    go None = refl
    go (Some t) = owed-keeps (part_occurrence (tag_name fs 0) n t) (occurrences-owed (tag_name fs 0) n t) ts (normalized u) u (normalized-again u)
right-one fs ts (modify x u) = refl
right-one fs ts (set a) = refl
right-one fs ts (add a) = refl
right-one fs ts (splice i k s) = refl
right-one fs ts (stay f u) = refl
right-one fs ts (switch s f u) = refl
right-one fs ts (shape a) = refl

right-at : (fs : FieldTrees) (ts : List ℕ) (n : List ℕ) (u v : WordTree) → in_normal_form (part_right fs ts (at n (joined u v))) ≡ in_normal_form (in_order (part_right fs ts (at n u)) (λ us. part_right fs us (at n v)))
right-at fs ts n u v = go (tag_number fs n) refl
  where
    go : (o : Option ℕ) → tag_number fs n ≡ o → in_normal_form (option_and_then (λ t. one_by_one (part_occurrence (tag_name fs 0) n t) ts (joined u v)) o)
        ≡ in_normal_form (in_order (option_and_then (λ t. one_by_one (part_occurrence (tag_name fs 0) n t) ts u) o) (λ us. part_right fs us (at n v)))
    go None e = refl
    go (Some t) e =
        ap in_normal_form (in_parts (part_occurrence (tag_name fs 0) n t) ts u v)
        ∙ in_order-same (one_by_one (part_occurrence (tag_name fs 0) n t) ts u) (one_by_one (part_occurrence (tag_name fs 0) n t) ts u)
        (λ us. one_by_one (part_occurrence (tag_name fs 0) n t) us v) (λ us. part_right fs us (at n v)) refl
        (λ us. ap (λ o. in_normal_form (option_and_then (λ x. one_by_one (part_occurrence (tag_name fs 0) n x) us v) o)) (sym e))

right-owed : (fs : FieldTrees) → Owed (List ℕ) (part_right fs)
right-owed fs = record {
  ones = λ ts p. right-one fs ts p;
  pairs = λ ts p q r e. merge-cases (λ p q r. in_normal_form (part_right fs ts r) ≡ in_normal_form (in_order (part_right fs ts p) (λ us. part_right fs us q)))
      (λ n u v. right-at fs ts n u v) (λ t u v. refl) (λ x u v. refl) (λ a b u v. refl) p q r e;
}

right-below : (fs : FieldTrees) (ts : List ℕ) (n : List ℕ) (u : WordTree) (s : Parted) → are_below (tag_count fs) ts ≡ true → part_right fs ts (at n u) ≡ Some s → are_below (tag_count fs) s.1 ≡ true
right-below fs ts n u s k e = go (tag_number fs n) refl e
  where
    go : (o : Option ℕ) → tag_number fs n ≡ o → option_and_then (λ t. one_by_one (part_occurrence (tag_name fs 0) n t) ts u) o ≡ Some s → are_below (tag_count fs) s.1 ≡ true
    go None f e = cc
    go (Some t) f e = word-kept (part_occurrence (tag_name fs 0) n t) (λ us. are_below (tag_count fs) us ≡ true)
        (λ us q r k j. occurrence-below (tag_count fs) (tag_name fs 0) n t (tag-below fs n t f) us q r k j) u ts s k e

-- ---- a partition

side-owed : (fs : FieldTrees) (side : Side) → Owed (List ℕ) (part_one side fs)
side-owed fs Left = left-owed fs
side-owed fs Right = right-owed fs

-- a primitive that merges with another one leaves tags
side-below : (fs : FieldTrees) (side : Side) (ts : List ℕ) (p q r : PrimitiveTree) → merge p q ≡ Some r → (s : Parted) → are_below (tag_count fs) ts ≡ true → part_one side fs ts p ≡ Some s
    → are_below (tag_count fs) s.1 ≡ true
side-below fs Left ts p q r e = merge-cases (λ p q r. (s : Parted) → are_below (tag_count fs) ts ≡ true → part_left fs ts p ≡ Some s → are_below (tag_count fs) s.1 ≡ true)
    (λ f u v s k e. cc) (λ t u v s k e. cc) (λ x u v s k e. left-below fs ts x u s k e) (λ a b u v s k e. cc) p q r e
side-below fs Right ts p q r e = merge-cases (λ p q r. (s : Parted) → are_below (tag_count fs) ts ≡ true → part_right fs ts p ≡ Some s → are_below (tag_count fs) s.1 ≡ true)
    (λ n u v s k e. right-below fs ts n u s k e) (λ t u v s k e. cc) (λ x u v s k e. cc) (λ a b u v s k e. cc) p q r e

tagged-same : (o p : Option Parted) → in_normal_form o ≡ in_normal_form p → in_normal_form (option_map tagged o) ≡ in_normal_form (option_map tagged p)
tagged-same None None e = refl
tagged-same None (Some q) e = cc
tagged-same (Some q) None e = cc
tagged-same (Some q) (Some r) e = ap₂ (λ w ts. Some (w, tags_comp ts)) (same-parts q r e).0 (same-parts q r e).1

part-one : (fs : FieldTrees) (side : Side) (c : CompTree) (p : PrimitiveTree) → in_normal_form (translate_one (form_part fs) side c (normalized_one p)) ≡ in_normal_form (translate_one (form_part fs) side c p)
part-one fs side (tags_comp ts) p = go (are_below (tag_count fs) ts)
  where
    go : (b : Bool) → in_normal_form (cond b (option_map tagged (part_one side fs ts (normalized_one p))) None) ≡ in_normal_form (cond b (option_map tagged (part_one side fs ts p)) None)
    go true = tagged-same (part_one side fs ts (normalized_one p)) (part_one side fs ts p) ((side-owed fs side).ones ts p)
    go false = refl
part-one fs side _ p = refl

part-two : (fs : FieldTrees) (side : Side) (c : CompTree) (p q r : PrimitiveTree) → merge p q ≡ Some r
    → in_normal_form (translate_one (form_part fs) side c r) ≡ in_normal_form (in_order (translate_one (form_part fs) side c p) (λ d. translate_one (form_part fs) side d q))
part-two fs side (tags_comp ts) p q r e = go (are_below (tag_count fs) ts) refl
  where
    next : (o : Option Parted) → ((s : Parted) → o ≡ Some s → are_below (tag_count fs) s.1 ≡ true)
        → in_normal_form (option_map tagged (in_order o (λ us. part_one side fs us q))) ≡ in_normal_form (in_order (option_map tagged o) (λ d. translate_one (form_part fs) side d q))
    next None h = refl
    next (Some s) h = rw (h s refl) (last (part_one side fs s.1 q))
      where
        last : (o : Option Parted) → in_normal_form (option_map tagged (option_map (behind s.0) o)) ≡ in_normal_form (option_map (behind s.0) (option_map tagged o))
        last None = refl
        last (Some x) = refl

    go : (b : Bool) → are_below (tag_count fs) ts ≡ b → in_normal_form (cond b (option_map tagged (part_one side fs ts r)) None)
        ≡ in_normal_form (in_order (cond b (option_map tagged (part_one side fs ts p)) None) (λ d. translate_one (form_part fs) side d q))
    go false f = refl
    go true f =
        tagged-same (part_one side fs ts r) (in_order (part_one side fs ts p) (λ us. part_one side fs us q)) ((side-owed fs side).pairs ts p q r e)
        ∙ next (part_one side fs ts p) (λ s i. side-below fs side ts p q r e s f i)
part-two fs side _ p q r e = refl

pub partition_keeps : (fs : FieldTrees) → KeepsEquations (form_part fs)
partition_keeps fs = owed-form (form_part fs) (λ side. record { ones = λ c p. part-one fs side c p; pairs = λ c p q r e. part-two fs side c p q r e })
