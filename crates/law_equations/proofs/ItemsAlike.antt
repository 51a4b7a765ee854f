-- Equal words of an item of a partition, and of one of its lists, are translated alike.
use Rattle.std.proofs.Common.{◌≡◌, refl, sym, ap, subst, Bool, true, false, cond, Option, None, Some, option_map, List, [], ◌∷◌, length, ℕ, zero, suc, ◌+◌, ◌-◌, ◌<◌, nat_eq, nat_lt, ◌∙◌}
use Rattle.std.specs.Prelude.{option_and_then, slice_index, slice_set}
use Rattle.std.proofs.lemmas.List.{length-set, get_or-set_same}
use Rattle.texts.proofs.Conjunction.{both, first, second}
use Rattle.hold_shapes.specs.declared.edit.Place.{Place}
use Rattle.hold_shapes.specs.declared.edit.Place.TheVariants.{Index, Key, Node}
use Rattle.hold_shapes.specs.declared.edit.ShapeEdit.TheVariants.{Ins, Del}
use Rattle.doc_values.specs.Types.{FieldTrees}
use Rattle.edit_module.specs.Words.{PrimitiveTree, set, add, splice, at, stay, switch, modify, shape, WordTree, no_primitives, more_primitives, joined}
use Rattle.edit_module.proofs.Words.{joined_assoc}
use Rattle.tag_seq.specs.Tags.{one_if_same, count, rank, are_below}
use Rattle.lens_core.specs.Tags.{tag_count, tag_number}
use Rattle.lens_core.specs.Emitted.{at_word, stay_word, mod_word, shape_word, behind, one_by_one}
use Rattle.lens_core.specs.Partition.{Parted, mv, place_in, where_holds, stay_item, switch_item, part_item, mod_occurrence, part_occurrence}
use Rattle.law_equations.proofs.Glue.{normalized, normalized_one}
use Rattle.law_equations.proofs.Normals.{merge-cases, normalized-again}
use Rattle.law_equations.proofs.EmittedAlike.{at_word-normalized, at_word-joined, stay_word-normalized, stay_word-joined, mod_word-normalized, mod_word-joined}
use Rattle.law_equations.proofs.Alikes.{in_normal_form, in_order, normalized_joined-same, Owed, owed-keeps}
use Rattle.std.proofs.lemmas.Bool.{lt-ltb, ltb-true}
use Rattle.lens_core.proofs.TagNumbers.{tag-below}
use Rattle.texts.proofs.Tests.{nat_eq-refl}

-- ---- what each primitive of a word keeps, the word keeps

pub word-kept : {C : Type 0} → (rule : C → PrimitiveTree → Option (WordTree × C)) (Kept : C → Type 0) → ((c : C) (p : PrimitiveTree) (r : WordTree × C) → Kept c → rule c p ≡ Some r → Kept r.1)
    → (w : WordTree) (c : C) (r : WordTree × C) → Kept c → one_by_one rule c w ≡ Some r → Kept r.1
word-kept rule Kept h no_primitives c r k e = let same : (no_primitives, c) ≡ r = cc in subst (λ z. Kept z.1) same k
word-kept {C = C} rule Kept h (more_primitives p w) c r k e = first_one (rule c p) (λ q i. h c p q k i) (λ q s j i. word-kept rule Kept h w q s j i) e
  where
    rest : (q : WordTree × C) (o : Option (WordTree × C)) → ((s : WordTree × C) → o ≡ Some s → Kept s.1) → option_map (behind q.0) o ≡ Some r → Kept r.1
    rest q None g e = cc
    rest q (Some s) g e = let same : behind q.0 s ≡ r = cc in subst (λ z. Kept z.1) same (g s refl)

    first_one : (o : Option (WordTree × C)) → ((q : WordTree × C) → o ≡ Some q → Kept q.1) → ((q : C) (s : WordTree × C) → Kept q → one_by_one rule q w ≡ Some s → Kept s.1)
        → in_order o (λ d. one_by_one rule d w) ≡ Some r → Kept r.1
    first_one None g i e = cc
    first_one (Some q) g i e = rest q (one_by_one rule q.1 w) (λ s j. i q.1 s (g q refl) j) e

-- ---- tags

set-below : (n : ℕ) (ts : List ℕ) (p j : ℕ) → are_below n ts ≡ true → nat_lt j n ≡ true → are_below n (slice_set ts p j) ≡ true
set-below n [] p j h k = h
set-below n (t ∷ ts) zero j h k = both (nat_lt j n) (are_below n ts) k (second (nat_lt t n) (are_below n ts) h)
set-below n (t ∷ ts) (suc p) j h k =
    both (nat_lt t n) (are_below n (slice_set ts p j)) (first (nat_lt t n) (are_below n ts) h) (set-below n ts p j (second (nat_lt t n) (are_below n ts) h) k)

-- the rank of a tag at a place does not see the tag there
set-rank : (t : ℕ) (ts : List ℕ) (p j : ℕ) → rank t p (slice_set ts p j) ≡ rank t p ts
set-rank t [] p j = refl
set-rank t (x ∷ ts) zero j = refl
set-rank t (x ∷ ts) (suc p) j = ap (λ n. one_if_same x t + n) (set-rank t ts p j)

-- ---- a primitive of an item changes at most its tag

item-tags : (fs : FieldTrees) (p : ℕ) (ts : List ℕ) (q : PrimitiveTree) (r : Parted) → part_item fs p ts q ≡ Some r → (Kept : List ℕ → Type 0)
    → Kept ts → ((j : ℕ) → j < tag_count fs → Kept (slice_set ts p j)) → Kept r.1
item-tags fs p ts (stay n u) r e Kept k h = go (tag_number fs n) e
  where
    there : (b : Bool) (w : WordTree) → where_holds b (w, ts) ≡ Some r → Kept r.1
    there false w e = cc
    there true w e = let same : (w, ts) ≡ r = cc in subst (λ z. Kept z.1) same k

    go : (o : Option ℕ) → option_and_then (stay_item fs p ts n u) o ≡ Some r → Kept r.1
    go None e = cc
    go (Some t) e = there (nat_eq t (slice_index ts p)) (at_word n (mod_word (Index (rank t p ts)) u)) e
item-tags fs p ts (switch a b u) r e Kept k h = from (tag_number fs a) e
  where
    there : (x : Bool) (w : WordTree) (j : ℕ) → j < tag_count fs → where_holds x (w, slice_set ts p j) ≡ Some r → Kept r.1
    there false w j l e = cc
    there true w j l e = let same : (w, slice_set ts p j) ≡ r = cc in subst (λ z. Kept z.1) same (h j l)

    held : (i : ℕ) (x : Bool) (y : Parted) (j : ℕ) → j < tag_count fs → y.1 ≡ slice_set ts p j → where_holds x y ≡ Some r → Kept r.1
    held i x y j l s e = there x y.0 j l (ap (λ z. where_holds x (y.0, z)) (sym s) ∙ e)

    to : (i : ℕ) (o : Option ℕ) → tag_number fs b ≡ o → option_and_then (switch_item p ts a b u i) o ≡ Some r → Kept r.1
    to i None f e = cc
    to i (Some j) f e = held i (nat_eq i (slice_index ts p)) _ j (tag-below fs b j f) refl e

    from : (o : Option ℕ) → option_and_then (λ i. option_and_then (switch_item p ts a b u i) (tag_number fs b)) o ≡ Some r → Kept r.1
    from None e = cc
    from (Some i) e = to i (tag_number fs b) refl e
item-tags fs p ts _ r e Kept k h = cc

pub item-long : (fs : FieldTrees) (p : ℕ) (ts : List ℕ) (q : PrimitiveTree) (r : Parted) → nat_lt p (length ts) ≡ true → part_item fs p ts q ≡ Some r → nat_lt p (length r.1) ≡ true
item-long fs p ts q r k e = item-tags fs p ts q r e (λ us. nat_lt p (length us) ≡ true) k (λ j h. ap (λ n. nat_lt p n) (length-set ts p j) ∙ k)

pub item-below : (fs : FieldTrees) (p : ℕ) (ts : List ℕ) (q : PrimitiveTree) (r : Parted) → are_below (tag_count fs) ts ≡ true → part_item fs p ts q ≡ Some r → are_below (tag_count fs) r.1 ≡ true
item-below fs p ts q r k e = item-tags fs p ts q r e (λ us. are_below (tag_count fs) us ≡ true) k (λ j h. set-below (tag_count fs) ts p j k (lt-ltb j (tag_count fs) h))

-- ---- a primitive of the item at a place, where there is one

abbrev pub item_rule : FieldTrees → ℕ → List ℕ → PrimitiveTree → Option Parted
item_rule fs p ts q = cond (nat_lt p (length ts)) (part_item fs p ts q) None

item_rule-is : (fs : FieldTrees) (p : ℕ) (w : WordTree) (ts : List ℕ) → nat_lt p (length ts) ≡ true → one_by_one (item_rule fs p) ts w ≡ one_by_one (part_item fs p) ts w
item_rule-is fs p no_primitives ts k = refl
item_rule-is fs p (more_primitives q w) ts k =
    ap (λ b. in_order (cond b (part_item fs p ts q) None) (λ us. one_by_one (item_rule fs p) us w)) k
    ∙ go (part_item fs p ts q) (λ r e. item_rule-is fs p w r.1 (item-long fs p ts q r k e))
  where
    go : (o : Option Parted) → ((r : Parted) → o ≡ Some r → one_by_one (item_rule fs p) r.1 w ≡ one_by_one (part_item fs p) r.1 w)
        → in_order o (λ us. one_by_one (item_rule fs p) us w) ≡ in_order o (λ us. one_by_one (part_item fs p) us w)
    go None h = refl
    go (Some r) h = ap (option_map (behind r.0)) (h r refl)

-- the word of a switch
abbrev switched : WordTree → List ℕ → WordTree → WordTree → ℕ → WordTree → WordTree
switched off b ins mv s u = joined off (at_word b (joined ins (joined mv (mod_word (Index s) u))))

-- its first part, and its move, in the definition
abbrev off_word : ℕ → List ℕ → List ℕ → ℕ → WordTree
off_word p ts a_name a = at_word a_name (joined (mv (rank a p ts) (count a ts - 1)) (shape_word (Del 1)))

abbrev move_word : ℕ → List ℕ → ℕ → ℕ → WordTree
move_word p ts a b = mv (cond (nat_eq a b) (count b ts - 1) (count b ts)) (rank b p ts)

switched-normalized : (off : WordTree) (b : List ℕ) (ins mv : WordTree) (s : ℕ) (u w : WordTree) → normalized u ≡ normalized w → normalized (switched off b ins mv s u) ≡ normalized (switched off b ins mv s w)
switched-normalized off b ins mv s u w e =
    normalized_joined-same off off (at_word b (joined ins (joined mv (mod_word (Index s) u)))) (at_word b (joined ins (joined mv (mod_word (Index s) w)))) refl
    (at_word-normalized b (joined ins (joined mv (mod_word (Index s) u))) (joined ins (joined mv (mod_word (Index s) w)))
    (normalized_joined-same ins ins (joined mv (mod_word (Index s) u)) (joined mv (mod_word (Index s) w)) refl
    (normalized_joined-same mv mv (mod_word (Index s) u) (mod_word (Index s) w) refl (mod_word-normalized (Index s) u w e))))

switched-stay : (off : WordTree) (b : List ℕ) (ins mv : WordTree) (s : ℕ) (u v : WordTree)
    → normalized (switched off b ins mv s (joined u v)) ≡ normalized (joined (switched off b ins mv s u) (at_word b (mod_word (Index s) v)))
switched-stay off b ins mv s u v =
    let x = mod_word (Index s) u in
    let y = mod_word (Index s) v in
    normalized_joined-same off off (at_word b (joined ins (joined mv (mod_word (Index s) (joined u v))))) (joined (at_word b (joined ins (joined mv x))) (at_word b y)) refl
    (at_word-normalized b (joined ins (joined mv (mod_word (Index s) (joined u v)))) (joined (joined ins (joined mv x)) y)
    (normalized_joined-same ins ins (joined mv (mod_word (Index s) (joined u v))) (joined mv (joined x y)) refl
    (normalized_joined-same mv mv (mod_word (Index s) (joined u v)) (joined x y) refl (mod_word-joined (Index s) u v))
    ∙ ap normalized (ap (joined ins) (sym (joined_assoc mv x y)) ∙ sym (joined_assoc ins (joined mv x) y)))
    ∙ at_word-joined b (joined ins (joined mv x)) y)
    ∙ ap normalized (sym (joined_assoc off (at_word b (joined ins (joined mv x))) (at_word b y)))

-- one of two values, where a test holds
holds-same : (b : Bool) (u w : WordTree) (ts : List ℕ) → normalized u ≡ normalized w → in_normal_form (where_holds b (u, ts)) ≡ in_normal_form (where_holds b (w, ts))
holds-same false u w ts e = refl
holds-same true u w ts e = ap (λ z. Some (z, ts)) e

item-one : (fs : FieldTrees) (p : ℕ) (ts : List ℕ) (q : PrimitiveTree) → in_normal_form (part_item fs p ts (normalized_one q)) ≡ in_normal_form (part_item fs p ts q)
item-one fs p ts (stay n u) = go (tag_number fs n)
  where
    go : (o : Option ℕ) → in_normal_form (option_and_then (stay_item fs p ts n (normalized u)) o) ≡ in_normal_form (option_and_then (stay_item fs p ts n u) o)
    go None = refl
    go (Some t) =
        holds-same (nat_eq t (slice_index ts p)) (at_word n (mod_word (Index (rank t p ts)) (normalized u))) (at_word n (mod_word (Index (rank t p ts)) u)) ts
        (at_word-normalized n (mod_word (Index (rank t p ts)) (normalized u)) (mod_word (Index (rank t p ts)) u) (mod_word-normalized (Index (rank t p ts)) (normalized u) u (normalized-again u)))
item-one fs p ts (switch a b u) = from (tag_number fs a)
  where
    to : (i : ℕ) (o : Option ℕ) → in_normal_form (option_and_then (switch_item p ts a b (normalized u) i) o) ≡ in_normal_form (option_and_then (switch_item p ts a b u i) o)
    to i None = refl
    to i (Some j) =
        let off = off_word p ts a i in
        let move = move_word p ts i j in
        holds-same (nat_eq i (slice_index ts p)) (switched off b (shape_word (Ins 1)) move (rank j p ts) (normalized u)) (switched off b (shape_word (Ins 1)) move (rank j p ts) u) (slice_set ts p j)
        (switched-normalized off b (shape_word (Ins 1)) move (rank j p ts) (normalized u) u (normalized-again u))

    from : (o : Option ℕ) → in_normal_form (option_and_then (λ i. option_and_then (switch_item p ts a b (normalized u) i) (tag_number fs b)) o)
        ≡ in_normal_form (option_and_then (λ i. option_and_then (switch_item p ts a b u i) (tag_number fs b)) o)
    from None = refl
    from (Some i) = to i (tag_number fs b)
item-one fs p ts (set a) = refl
item-one fs p ts (add a) = refl
item-one fs p ts (splice i k s) = refl
item-one fs p ts (at f u) = refl
item-one fs p ts (modify f u) = refl
item-one fs p ts (shape a) = refl

item_rule-one : (fs : FieldTrees) (p : ℕ) (ts : List ℕ) (q : PrimitiveTree) → in_normal_form (item_rule fs p ts (normalized_one q)) ≡ in_normal_form (item_rule fs p ts q)
item_rule-one fs p ts q = go (nat_lt p (length ts))
  where
    go : (b : Bool) → in_normal_form (cond b (part_item fs p ts (normalized_one q)) None) ≡ in_normal_form (cond b (part_item fs p ts q) None)
    go true = item-one fs p ts q
    go false = refl

-- what a Stay of the tag that the item has is translated to
stay_there : (fs : FieldTrees) (p : ℕ) (ts : List ℕ) (n : List ℕ) (t : ℕ) (v : WordTree) → nat_lt p (length ts) ≡ true → tag_number fs n ≡ Some t → nat_eq t (slice_index ts p) ≡ true
    → item_rule fs p ts (stay n v) ≡ Some (at_word n (mod_word (Index (rank t p ts)) v), ts)
stay_there fs p ts n t v e f g = rw (e, f, g) refl

item-stay : (fs : FieldTrees) (p : ℕ) (ts : List ℕ) (n : List ℕ) (u v : WordTree) → in_normal_form (item_rule fs p ts (stay n (joined u v))) ≡ in_normal_form (in_order (item_rule fs p ts (stay n u)) (λ us. item_rule fs p us (stay n v)))
item-stay fs p ts n u v = go (nat_lt p (length ts)) refl (tag_number fs n) refl
  where
    there : (t : ℕ) → nat_lt p (length ts) ≡ true → tag_number fs n ≡ Some t → (b : Bool) → nat_eq t (slice_index ts p) ≡ b
        → in_normal_form (where_holds b (at_word n (mod_word (Index (rank t p ts)) (joined u v)), ts))
        ≡ in_normal_form (in_order (where_holds b (at_word n (mod_word (Index (rank t p ts)) u), ts)) (λ us. item_rule fs p us (stay n v)))
    there t e f false g = refl
    there t e f true g =
        let x = Index (rank t p ts) in
        ap (λ z. Some (z, ts)) (at_word-normalized n (mod_word x (joined u v)) (joined (mod_word x u) (mod_word x v)) (mod_word-joined x u v) ∙ at_word-joined n (mod_word x u) (mod_word x v))
        ∙ ap (λ o. in_normal_form (option_map (behind (at_word n (mod_word x u))) o)) (sym (stay_there fs p ts n t v e f g))

    go : (b : Bool) → nat_lt p (length ts) ≡ b → (o : Option ℕ) → tag_number fs n ≡ o
        → in_normal_form (cond b (option_and_then (stay_item fs p ts n (joined u v)) o) None)
        ≡ in_normal_form (in_order (cond b (option_and_then (stay_item fs p ts n u) o) None) (λ us. item_rule fs p us (stay n v)))
    go false e o f = refl
    go true e None f = refl
    go true e (Some t) f = there t e f (nat_eq t (slice_index ts p)) refl

-- what a Stay of its new tag is translated to, after a switch
stay_after : (fs : FieldTrees) (p : ℕ) (ts : List ℕ) (n : List ℕ) (j : ℕ) (v : WordTree) → nat_lt p (length ts) ≡ true → tag_number fs n ≡ Some j
    → item_rule fs p (slice_set ts p j) (stay n v) ≡ Some (at_word n (mod_word (Index (rank j p ts)) v), slice_set ts p j)
stay_after fs p ts n j v e f =
    stay_there fs p (slice_set ts p j) n j v (ap (λ n. nat_lt p n) (length-set ts p j) ∙ e) f
    (ap (λ x. nat_eq j x) (get_or-set_same ts p j 0 (ltb-true p (length ts) e)) ∙ nat_eq-refl j)
    ∙ ap (λ q. Some (at_word n (mod_word (Index q) v), slice_set ts p j)) (set-rank j ts p j)

item-switch : (fs : FieldTrees) (p : ℕ) (ts : List ℕ) (a b : List ℕ) (u v : WordTree)
    → in_normal_form (item_rule fs p ts (switch a b (joined u v))) ≡ in_normal_form (in_order (item_rule fs p ts (switch a b u)) (λ us. item_rule fs p us (stay b v)))
item-switch fs p ts a b u v = go (nat_lt p (length ts)) refl (tag_number fs a)
  where
    there : (j : ℕ) → nat_lt p (length ts) ≡ true → tag_number fs b ≡ Some j → (x : Bool) (off ins mv : WordTree)
        → in_normal_form (where_holds x (switched off b ins mv (rank j p ts) (joined u v), slice_set ts p j))
        ≡ in_normal_form (in_order (where_holds x (switched off b ins mv (rank j p ts) u, slice_set ts p j)) (λ us. item_rule fs p us (stay b v)))
    there j e f false off ins mv = refl
    there j e f true off ins mv =
        ap (λ z. Some (z, slice_set ts p j)) (switched-stay off b ins mv (rank j p ts) u v)
        ∙ ap (λ o. in_normal_form (option_map (behind (switched off b ins mv (rank j p ts) u)) o)) (sym (stay_after fs p ts b j v e f))

    to : nat_lt p (length ts) ≡ true → (i : ℕ) (o : Option ℕ) → tag_number fs b ≡ o
        → in_normal_form (option_and_then (switch_item p ts a b (joined u v) i) o) ≡ in_normal_form (in_order (option_and_then (switch_item p ts a b u i) o) (λ us. item_rule fs p us (stay b v)))
    to e i None f = refl
    to e i (Some j) f = there j e f (nat_eq i (slice_index ts p)) (off_word p ts a i) (shape_word (Ins 1)) (move_word p ts i j)

    go : (x : Bool) → nat_lt p (length ts) ≡ x → (o : Option ℕ)
        → in_normal_form (cond x (option_and_then (λ i. option_and_then (switch_item p ts a b (joined u v) i) (tag_number fs b)) o) None)
        ≡ in_normal_form (in_order (cond x (option_and_then (λ i. option_and_then (switch_item p ts a b u i) (tag_number fs b)) o) None) (λ us. item_rule fs p us (stay b v)))
    go false e o = refl
    go true e None = refl
    go true e (Some i) = to e i (tag_number fs b) refl

item-none : (fs : FieldTrees) (p : ℕ) (ts : List ℕ) (q r : PrimitiveTree) (k : List ℕ → Option Parted) → part_item fs p ts r ≡ None → part_item fs p ts q ≡ None
    → in_normal_form (item_rule fs p ts r) ≡ in_normal_form (in_order (item_rule fs p ts q) k)
item-none fs p ts q r k e f = rw (e, f) (go (nat_lt p (length ts)))
  where
    go : (b : Bool) → in_normal_form {C = List ℕ} (cond b None None) ≡ in_normal_form (in_order (cond b None None) k)
    go true = refl
    go false = refl

item-owed : (fs : FieldTrees) (p : ℕ) → Owed (List ℕ) (item_rule fs p)
item-owed fs p = record {
  ones = λ ts q. item_rule-one fs p ts q;
  pairs = λ ts q q' r e. merge-cases
      (λ q q' r. in_normal_form (item_rule fs p ts r) ≡ in_normal_form (in_order (item_rule fs p ts q) (λ us. item_rule fs p us q')))
      (λ f u v. item-none fs p ts (at f u) (at f (joined u v)) (λ us. item_rule fs p us (at f v)) refl refl)
      (λ n u v. item-stay fs p ts n u v)
      (λ x u v. item-none fs p ts (modify x u) (modify x (joined u v)) (λ us. item_rule fs p us (modify x v)) refl refl)
      (λ a b u v. item-switch fs p ts a b u v)
      q q' r e;
}

-- equal words of the item at a place
pub items-keep : (fs : FieldTrees) (p : ℕ) (ts : List ℕ) (u w : WordTree) → nat_lt p (length ts) ≡ true → normalized u ≡ normalized w → in_normal_form (one_by_one (part_item fs p) ts u) ≡ in_normal_form (one_by_one (part_item fs p) ts w)
items-keep fs p ts u w k e =
    ap in_normal_form (sym (item_rule-is fs p u ts k)) ∙ owed-keeps (item_rule fs p) (item-owed fs p) ts u w e ∙ ap in_normal_form (item_rule-is fs p w ts k)

-- ---- the list of a tag

occurrence-one : (first_tag n : List ℕ) (t : ℕ) (ts : List ℕ) (q : PrimitiveTree) → in_normal_form (part_occurrence first_tag n t ts (normalized_one q)) ≡ in_normal_form (part_occurrence first_tag n t ts q)
occurrence-one first_tag n t ts (modify (Index q) u) =
    holds-same (nat_lt q (count t ts)) (mod_word (Index (place_in ts t q)) (stay_word n (normalized u))) (mod_word (Index (place_in ts t q)) (stay_word n u)) ts
    (mod_word-normalized (Index (place_in ts t q)) (stay_word n (normalized u)) (stay_word n u) (stay_word-normalized n (normalized u) u (normalized-again u)))
occurrence-one first_tag n t ts (modify (Key k) u) = refl
occurrence-one first_tag n t ts (modify (Node k) u) = refl
occurrence-one first_tag n t ts (set a) = refl
occurrence-one first_tag n t ts (add a) = refl
occurrence-one first_tag n t ts (splice i k s) = refl
occurrence-one first_tag n t ts (at f u) = refl
occurrence-one first_tag n t ts (stay f u) = refl
occurrence-one first_tag n t ts (switch s f u) = refl
occurrence-one first_tag n t ts (shape a) = refl

occurrence-two : (first_tag n : List ℕ) (t : ℕ) (ts : List ℕ) (x : Place) (u v : WordTree)
    → in_normal_form (part_occurrence first_tag n t ts (modify x (joined u v))) ≡ in_normal_form (in_order (part_occurrence first_tag n t ts (modify x u)) (λ us. part_occurrence first_tag n t us (modify x v)))
occurrence-two first_tag n t ts (Index q) u v = go (nat_lt q (count t ts)) refl
  where
    go : (b : Bool) → nat_lt q (count t ts) ≡ b → in_normal_form (where_holds b (mod_occurrence n t ts q (joined u v)))
        ≡ in_normal_form (in_order (where_holds b (mod_occurrence n t ts q u)) (λ us. part_occurrence first_tag n t us (modify (Index q) v)))
    go false e = refl
    go true e = rw e (ap (λ z. Some (z, ts))
        (mod_word-normalized (Index (place_in ts t q)) (stay_word n (joined u v)) (joined (stay_word n u) (stay_word n v)) (stay_word-joined n u v)
        ∙ mod_word-joined (Index (place_in ts t q)) (stay_word n u) (stay_word n v)))
occurrence-two first_tag n t ts (Key k) u v = refl
occurrence-two first_tag n t ts (Node k) u v = refl

pub occurrences-owed : (first_tag n : List ℕ) (t : ℕ) → Owed (List ℕ) (part_occurrence first_tag n t)
occurrences-owed first_tag n t = record {
  ones = λ ts q. occurrence-one first_tag n t ts q;
  pairs = λ ts q q' r e. merge-cases
      (λ q q' r. in_normal_form (part_occurrence first_tag n t ts r) ≡ in_normal_form (in_order (part_occurrence first_tag n t ts q) (λ us. part_occurrence first_tag n t us q')))
      (λ f u v. refl) (λ f u v. refl) (λ x u v. occurrence-two first_tag n t ts x u v) (λ a b u v. refl)
      q q' r e;
}
