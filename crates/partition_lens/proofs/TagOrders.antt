-- The ranks of the items of one tag, in the order in which a reordering takes them, are an order of that tag's list.
use Rattle.std.proofs.Common.{◌≡◌, ℕ, ◌+◌, ◌<◌, Bool, true, false, ◌&&◌, ◌||◌, not, List, [], ◌∷◌, ◌++◌, length, map, get_or, Some, refl, ap, sym, ◌∙◌, subst, arith}
use Rattle.std.specs.Prelude.{nat_eq, nat_lt, cond, slice_index, slice_get}
use Rattle.std.specs.List.{sum_by}
use Rattle.std.specs.List.Sorted.{IsPermutation}
use Rattle.std.proofs.lemmas.Bool.{eq-eqb, ne_eqb, eqb-true, lt-ltb, ltb-true}
use Rattle.std.proofs.lemmas.List.{length-map}
use Rattle.std.proofs.lemmas.List.Sorted.{IsPermutation-map, sum_by-IsPermutation}
use Rattle.std.proofs.lemmas.List.Sums.{sum_by-cons}
use Rattle.texts.proofs.Conjunction.{first, second}
use Rattle.hold_shapes.specs.declared.origins.Origin.TheVariants.{Old}
use Rattle.hold_shapes.specs.Plans.{old_places, has_number, is_each_new}
use Rattle.hold_shapes.specs.Gather.{content_at}
use Rattle.law_shapes.proofs.Content.{content-old_places}
use Rattle.law_shapes.proofs.Permuted.{perm-order}
use Rattle.doc_values.specs.Documents.{DocTree}
use Rattle.tag_seq.specs.Tags.{count, rank, place, one_if_same}
use Rattle.tag_seq.proofs.Ranks.{place-after-rank}
use Rattle.lens_core.specs.Partition.{ranks_of}
use Rattle.lens_core.proofs.ItemLists.{Item, tag_of, tags_of, contents_at, length-contents, contents-here, rank-part, tag-part, here_is, split_at}
use Rattle.lens_forms.proofs.SortedFields.{not_first}

-- ---- counts in another order

count_as_sum : (t : ℕ) (ts : List ℕ) → count t ts ≡ sum_by (λ x. one_if_same x t) ts
count_as_sum t [] = refl
count_as_sum t (x ∷ ts) = ap (λ z. one_if_same x t + z) (count_as_sum t ts) ∙ sym (sum_by-cons (λ y. one_if_same y t) x ts)

tags_in_order : (ts f : List ℕ) → map (content_at ts 0) (map Old f) ≡ map (slice_index ts) f
tags_in_order ts [] = refl
tags_in_order ts (k ∷ f) = ap (λ z. slice_index ts k ∷ z) (tags_in_order ts f)

-- an order of all places has each tag as often as the list
pub count_in_order : (t : ℕ) (ts f : List ℕ) → length f ≡ length ts → is_each_new (length ts) [] f ≡ true → count t (map (slice_index ts) f) ≡ count t ts
count_in_order t ts f n e =
    let moved = IsPermutation-map (content_at ts 0) (old_places (length ts)) (map Old f) (perm-order (length ts) f n e) in
    let here : IsPermutation ts (map (slice_index ts) f) =
    subst (λ z. IsPermutation z (map (slice_index ts) f)) (content-old_places ℕ 0 ts (length ts) refl)
    (subst (λ z. IsPermutation (map (content_at ts 0) (old_places (length ts))) z) (tags_in_order ts f) moved) in
    count_as_sum t (map (slice_index ts) f) ∙ (sum_by-IsPermutation (λ x. one_if_same x t) ts (map (slice_index ts) f) here ∙ sym (count_as_sum t ts))

-- ---- the place of an item by its rank

tag_here : (t : ℕ) (v : DocTree) (us ws : List Item) → slice_get (tags_of (us ++ (t, v) ∷ ws)) (length us) ≡ Some t
tag_here t v [] ws = refl
tag_here t v (u ∷ us) ws = tag_here t v us ws

pub place_by_rank : (t : ℕ) (v : DocTree) (us ws : List Item) → place t (length (contents_at t us)) (tags_of (us ++ (t, v) ∷ ws)) ≡ Some (length us)
place_by_rank t v us ws =
    ap (λ q. place t q (tags_of (us ++ (t, v) ∷ ws))) (sym (rank-part t us ((t, v) ∷ ws)))
    ∙ place-after-rank (tags_of (us ++ (t, v) ∷ ws)) t (length us) (tag_here t v us ws)

-- what is known of the item at a place
pub record IsPlaced (ps : List Item) (k : ℕ) : Type 0 where
  pub before : List Item
  pub here : Item
  pub after : List Item
  pub is : ps ≡ before ++ here ∷ after
  pub long : length before ≡ k
  pub item : (d : Item) → get_or ps k d ≡ here
  pub tag : slice_index (tags_of ps) k ≡ here.0
  pub ranked : (t : ℕ) → rank t k (tags_of ps) ≡ length (contents_at t before)
  pub found : place here.0 (rank here.0 k (tags_of ps)) (tags_of ps) ≡ Some k
  pub content : (d : DocTree) → get_or (contents_at here.0 ps) (rank here.0 k (tags_of ps)) d ≡ here.1
  pub low : rank here.0 k (tags_of ps) < length (contents_at here.0 ps)

placed_parts : (us : List Item) (x : Item) (ws : List Item) → IsPlaced (us ++ x ∷ ws) (length us)
placed_parts us x ws = record {
  before = us;
  here = x;
  after = ws;
  is = refl;
  long = refl;
  item = λ d. here_is us x ws d;
  tag = tag-part x.0 x.1 us ws;
  ranked = λ t. rank-part t us (x ∷ ws);
  found = ap (λ z. place x.0 z (tags_of (us ++ x ∷ ws))) (rank-part x.0 us (x ∷ ws)) ∙ place_by_rank x.0 x.1 us ws;
  content = λ d. ap (λ z. get_or (contents_at x.0 (us ++ x ∷ ws)) z d) (rank-part x.0 us (x ∷ ws))
      ∙ (ap (λ z. get_or z (length (contents_at x.0 us)) d) (contents-here x.0 x.1 us ws) ∙ here_is (contents_at x.0 us) x.1 (contents_at x.0 ws) d);
  low = rw (rank-part x.0 us (x ∷ ws), contents-here x.0 x.1 us ws) (shorter (contents_at x.0 us) x.1 (contents_at x.0 ws));
}
  where
    shorter : (vs : List DocTree) (v : DocTree) (rest : List DocTree) → length vs < length (vs ++ v ∷ rest)
    shorter [] v rest = omega arith
    shorter (u ∷ vs) v rest = let h = shorter vs v rest in omega arith

pub placed : (ps : List Item) (k : ℕ) → k < length ps → IsPlaced ps k
placed ps k h =
    let s = split_at ps k h in
    subst (λ n. IsPlaced ps n) s.long (subst (λ z. IsPlaced z (length s.before)) (sym s.is) (placed_parts s.before s.here s.after))

-- ---- the ranks of one tag

pub each_parts : (n k : ℕ) (known f : List ℕ) → is_each_new n known (k ∷ f) ≡ true → (k < n) × (has_number k known ≡ false) × (is_each_new n (k ∷ known) f ≡ true)
each_parts n k known f e = go (has_number k known) refl (first (nat_lt k n) (not (has_number k known) && is_each_new n (k ∷ known) f) e) (second (nat_lt k n) (not (has_number k known) && is_each_new n (k ∷ known) f) e)
  where
    go : (b : Bool) → has_number k known ≡ b → nat_lt k n ≡ true → (not b && is_each_new n (k ∷ known) f) ≡ true → (k < n) × (has_number k known ≡ false) × (is_each_new n (k ∷ known) f ≡ true)
    go true g l h = cc
    go false g l h = (ltb-true k n l, g, h)

pub each_make : (n k : ℕ) (known f : List ℕ) → k < n → has_number k known ≡ false → is_each_new n (k ∷ known) f ≡ true → is_each_new n known (k ∷ f) ≡ true
each_make n k known f l g h = rw (lt-ltb k n l, g) h

-- numbers ltb-true the size of a list
pub AreWithin : ℕ → List ℕ → Type 0
AreWithin n [] = Unit {0}
AreWithin n (k ∷ f) = (k < n) × AreWithin n f

pub each_within : (n : ℕ) (known f : List ℕ) → is_each_new n known f ≡ true → AreWithin n f
unfolding AreWithin
each_within n known [] e = tt
each_within n known (k ∷ f) e = let h = each_parts n k known f e in (h.0, each_within n (k ∷ known) f h.2)

pub within_parts : (n k : ℕ) (f : List ℕ) → AreWithin n (k ∷ f) → (k < n) × AreWithin n f
unfolding AreWithin
within_parts n k f h = h

pub within_none : (n : ℕ) → AreWithin n []
unfolding AreWithin
within_none n = tt

pub within_make : (n k : ℕ) (f : List ℕ) → k < n → AreWithin n f → AreWithin n (k ∷ f)
unfolding AreWithin
within_make n k f l h = (l, h)

-- a rank that is none of the others
rank_differs : (ps : List Item) (t k l : ℕ) → k < length ps → l < length ps → slice_index (tags_of ps) k ≡ t → slice_index (tags_of ps) l ≡ t
    → nat_eq k l ≡ false → nat_eq (rank t k (tags_of ps)) (rank t l (tags_of ps)) ≡ false
rank_differs ps t k l hk hl tk tl d = go (nat_eq (rank t k (tags_of ps)) (rank t l (tags_of ps))) refl
  where
    at_place : (m : ℕ) → m < length ps → slice_index (tags_of ps) m ≡ t → place t (rank t m (tags_of ps)) (tags_of ps) ≡ Some m
    at_place m h e =
        let p = placed ps m h in
        subst (λ z. place z (rank z m (tags_of ps)) (tags_of ps) ≡ Some m) (sym p.tag ∙ e) p.found

    number : (m n : ℕ) → Some m ≡ Some n → m ≡ n
    number m n e = cc

    go : (b : Bool) → nat_eq (rank t k (tags_of ps)) (rank t l (tags_of ps)) ≡ b → b ≡ false
    go false e = refl
    go true e =
        let same = eqb-true (rank t k (tags_of ps)) (rank t l (tags_of ps)) e in
        let places : k ≡ l = number k l (sym (at_place k hk tk) ∙ (ap (λ z. place t z (tags_of ps)) same ∙ at_place l hl tl)) in
        let yes = eq-eqb k l places in cc

rank_new : (ps : List Item) (t k : ℕ) (known : List ℕ) → k < length ps → slice_index (tags_of ps) k ≡ t → AreWithin (length ps) known → has_number k known ≡ false
    → has_number (rank t k (tags_of ps)) (ranks_of t (tags_of ps) known) ≡ false
rank_new ps t k [] h e w n = refl
rank_new ps t k (l ∷ known) h e w n =
    let a = within_parts (length ps) l known w in
    let b = not_first (nat_eq k l) (has_number k known) n in
    go (nat_eq t (slice_index (tags_of ps) l)) refl a.0 b.0 (rank_new ps t k known h e a.1 b.1)
  where
    go : (c : Bool) → nat_eq t (slice_index (tags_of ps) l) ≡ c → l < length ps → nat_eq k l ≡ false → has_number (rank t k (tags_of ps)) (ranks_of t (tags_of ps) known) ≡ false
        → has_number (rank t k (tags_of ps)) (cond c (rank t l (tags_of ps) ∷ ranks_of t (tags_of ps) known) (ranks_of t (tags_of ps) known)) ≡ false
    go false f lt d again = again
    go true f lt d again = rw (rank_differs ps t k l h lt e (sym (eqb-true t (slice_index (tags_of ps) l) f)) d) again

ranks_each_new : (ps : List Item) (t : ℕ) (known f : List ℕ) → AreWithin (length ps) known → is_each_new (length ps) known f ≡ true
    → is_each_new (length (contents_at t ps)) (ranks_of t (tags_of ps) known) (ranks_of t (tags_of ps) f) ≡ true
ranks_each_new ps t known [] w e = refl
ranks_each_new ps t known (k ∷ f) w e =
    let a = each_parts (length ps) k known f e in
    go (nat_eq t (slice_index (tags_of ps) k)) refl a.0 a.1 (ranks_each_new ps t (k ∷ known) f (within_make (length ps) k known a.0 w) a.2)
  where
    go : (c : Bool) → nat_eq t (slice_index (tags_of ps) k) ≡ c → k < length ps → has_number k known ≡ false
        → is_each_new (length (contents_at t ps)) (cond c (rank t k (tags_of ps) ∷ ranks_of t (tags_of ps) known) (ranks_of t (tags_of ps) known)) (ranks_of t (tags_of ps) f) ≡ true
        → is_each_new (length (contents_at t ps)) (ranks_of t (tags_of ps) known) (cond c (rank t k (tags_of ps) ∷ ranks_of t (tags_of ps) f) (ranks_of t (tags_of ps) f)) ≡ true
    go false g l n again = again
    go true g l n again =
        let is = eqb-true t (slice_index (tags_of ps) k) g in
        let p = placed ps k l in
        let low : rank t k (tags_of ps) < length (contents_at t ps) = subst (λ z. rank z k (tags_of ps) < length (contents_at z ps)) (sym p.tag ∙ sym is) p.low in
        each_make (length (contents_at t ps)) (rank t k (tags_of ps)) (ranks_of t (tags_of ps) known) (ranks_of t (tags_of ps) f) low (rank_new ps t k known l (sym is) w n) again

-- ---- gathering and splitting commute

pub gathered_by_tag : (ps : List Item) (t : ℕ) (f : List ℕ) (d : Item) (v : DocTree) → AreWithin (length ps) f
    → map (λ k. get_or (contents_at t ps) k v) (ranks_of t (tags_of ps) f) ≡ contents_at t (map (λ k. get_or ps k d) f)
gathered_by_tag ps t [] d v w = refl
gathered_by_tag ps t (k ∷ f) d v w =
    let a = within_parts (length ps) k f w in
    go (nat_eq t (slice_index (tags_of ps) k)) refl (placed ps k a.0) (gathered_by_tag ps t f d v a.1)
  where
    turned : (b : Bool) (m n : ℕ) → nat_eq m n ≡ b → nat_eq n m ≡ b
    turned true m n e = eq-eqb n m (sym (eqb-true m n e))
    turned false m n e = ne_eqb n m (λ (q : n ≡ m). let yes = eq-eqb m n (sym q) in cc)

    go : (c : Bool) → nat_eq t (slice_index (tags_of ps) k) ≡ c → IsPlaced ps k → map (λ k. get_or (contents_at t ps) k v) (ranks_of t (tags_of ps) f) ≡ contents_at t (map (λ k. get_or ps k d) f)
        → map (λ k. get_or (contents_at t ps) k v) (cond c (rank t k (tags_of ps) ∷ ranks_of t (tags_of ps) f) (ranks_of t (tags_of ps) f)) ≡ contents_at t (get_or ps k d ∷ map (λ k. get_or ps k d) f)
    go false e p again =
        let other : nat_eq p.here.0 t ≡ false = turned false t p.here.0 (subst (λ z. nat_eq t z ≡ false) p.tag e) in
        rw (p.item d, other) again
    go true e p again =
        let same : p.here.0 ≡ t = sym p.tag ∙ sym (eqb-true t (slice_index (tags_of ps) k) e) in
        let this : nat_eq p.here.0 t ≡ true = eq-eqb p.here.0 t same in
        let content : get_or (contents_at t ps) (rank t k (tags_of ps)) v ≡ p.here.1 = subst (λ z. get_or (contents_at z ps) (rank z k (tags_of ps)) v ≡ p.here.1) same (p.content v) in
        rw (p.item d, this, content, again) refl

tags_of_gathered : (ps : List Item) (f : List ℕ) (d : Item) → AreWithin (length ps) f → tags_of (map (λ k. get_or ps k d) f) ≡ map (slice_index (tags_of ps)) f
tags_of_gathered ps [] d w = refl
tags_of_gathered ps (k ∷ f) d w =
    let a = within_parts (length ps) k f w in
    let p = placed ps k a.0 in
    rw (p.item d, p.tag, tags_of_gathered ps f d a.1) refl

-- the ranks of a tag are as many as its contents, and each of them is new
pub record IsOrder (n : ℕ) (f : List ℕ) : Type 0 where
  pub long : length f ≡ n
  pub new : is_each_new n [] f ≡ true

pub ranks_order : (ps : List Item) (t : ℕ) (f : List ℕ) (d : Item) (v : DocTree) → IsOrder (length ps) f → IsOrder (length (contents_at t ps)) (ranks_of t (tags_of ps) f)
ranks_order ps t f d v o =
    let w = each_within (length ps) [] f o.new in
    let n : length ps ≡ length (tags_of ps) = sym (length-map ps tag_of) in
    record {
      long = sym (length-map (ranks_of t (tags_of ps) f) (λ k. get_or (contents_at t ps) k v))
          ∙ (ap length (gathered_by_tag ps t f d v w) ∙ (length-contents t (map (λ k. get_or ps k d) f) ∙ (ap (count t) (tags_of_gathered ps f d w)
          ∙ (count_in_order t (tags_of ps) f (o.long ∙ n) (subst (λ z. is_each_new z [] f ≡ true) n o.new) ∙ sym (length-contents t ps)))));
      new = ranks_each_new ps t [] f (within_none (length ps)) o.new;
    }
