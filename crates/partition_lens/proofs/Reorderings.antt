-- Partition from the right: the list of one tag is reordered among the places of its items.
use Rattle.std.proofs.Common.{◌≡◌, ℕ, zero, suc, ◌+◌, ◌<◌, ◌≤◌, Bool, true, false, List, [], ◌∷◌, ◌++◌, length, map, drop, get_or, Option, Some, None, Ok, refl, ap, sym, ◌∙◌, subst, arith, length-append}
use Rattle.std.specs.Prelude.{nat_eq, cond, slice_index}
use Rattle.std.specs.List.{range_with_len}
use Rattle.std.proofs.lemmas.Bool.{eq-eqb, eqb-true}
use Rattle.std.proofs.lemmas.List.{append-nil, append_assoc, length-map, drop_more, drop_all}
use Rattle.std.proofs.lemmas.List.FromFn.{length-map-range_with_len}
use Rattle.hold_shapes.specs.declared.edit.ShapeEdit.TheVariants.{Reorder}
use Rattle.hold_shapes.specs.Plans.{has_number, is_each_new}
use Rattle.doc_values.specs.Documents.{DocTree}
use Rattle.doc_values.specs.Types.{ty_alt, FieldTrees}
use Rattle.doc_values.specs.Initial.{initial}
use Rattle.lens_core.specs.Tags.{tag_count}
use Rattle.tag_seq.specs.Tags.{are_below, rank, place}
use Rattle.lens_core.specs.Consistency.{list_doc}
use Rattle.lens_core.specs.Partition.{place_in, place_from, reorder, reorder_occurrences}
use Rattle.lens_core.proofs.ItemLists.{Item, tag_of, tags_of, contents_at, contents-append, contents-here, rank-part, tag-part, here_is, occurrence}
use Rattle.partition_lens.proofs.ListEdits.{edited, edited-through, reorder_turns}
use Rattle.lens_core.proofs.RightLists.{item_doc, item_docs}
use Rattle.partition_lens.proofs.TagOrders.{IsOrder, AreWithin, each_within, within_parts, within_none, within_make, each_parts, each_make, placed}
use Rattle.partition_lens.proofs.FromLeft.{first_item, first_is}
use Rattle.partition_lens.proofs.FromRight.{RightStep}
use Rattle.texts.proofs.Tests.{or_second, nat_eq-refl}

-- ---- numbers that are each new

known_differs : (n k m : ℕ) (known f : List ℕ) → is_each_new n known f ≡ true → has_number m known ≡ true → k < length f → get_or f k 0 ≡ m → ⊥
known_differs n k m known [] e h l q = absurd (omega arith)
known_differs n zero m known (x ∷ f) e h l q =
    let a = each_parts n x known f e in
    let no = subst (λ z. has_number z known ≡ false) q a.1 in cc
known_differs n (suc k) m known (x ∷ f) e h l q =
    let a = each_parts n x known f e in
    known_differs n k m (x ∷ known) f a.2 (or_second (nat_eq m x) (has_number m known) h) (omega arith) q

known_first : (x : ℕ) (known : List ℕ) → has_number x (x ∷ known) ≡ true
known_first x known = rw (nat_eq-refl x) refl

each_differs : (n : ℕ) (known f : List ℕ) (k l : ℕ) → is_each_new n known f ≡ true → k < length f → l < length f → get_or f k 0 ≡ get_or f l 0 → k ≡ l
each_differs n known [] k l e hk hl q = absurd (omega arith)
each_differs n known (x ∷ f) zero zero e hk hl q = refl
each_differs n known (x ∷ f) zero (suc l) e hk hl q = let a = each_parts n x known f e in absurd (known_differs n l x (x ∷ known) f a.2 (known_first x known) (omega arith) (sym q))
each_differs n known (x ∷ f) (suc k) zero e hk hl q = let a = each_parts n x known f e in absurd (known_differs n k x (x ∷ known) f a.2 (known_first x known) (omega arith) q)
each_differs n known (x ∷ f) (suc k) (suc l) e hk hl q = let a = each_parts n x known f e in ap suc (each_differs n (x ∷ known) f k l a.2 (omega arith) (omega arith) q)

within_at : (n k : ℕ) (f : List ℕ) → AreWithin n f → k < length f → get_or f k 0 < n
within_at n k [] w h = absurd (omega arith)
within_at n zero (x ∷ f) w h = (within_parts n x f w).0
within_at n (suc k) (x ∷ f) w h = within_at n k f (within_parts n x f w).1 (omega arith)

within_more : (n : ℕ) (f : List ℕ) → AreWithin n f → AreWithin (n + 1) f
within_more n [] w = within_none (n + 1)
within_more n (x ∷ f) w = let a = within_parts n x f w in let h = a.0 in within_make (n + 1) x f (omega arith) (within_more n f a.1)

-- a function that keeps numbers apart has images that are each new
image_new : (g : ℕ → ℕ) (n k : ℕ) (earlier : List ℕ) → ((y z : ℕ) → y < n → z < n → nat_eq y z ≡ false → nat_eq (g y) (g z) ≡ false) → k < n → AreWithin k earlier → has_number (g k) (map g earlier) ≡ false
image_new g n k [] apart h w = refl
image_new g n k (m ∷ earlier) apart h w =
    let a = within_parts k m earlier w in
    let less = a.0 in
    rw (apart k m h (omega arith) (not_same k m less)) (image_new g n k earlier apart h a.1)
  where
    not_same : (k m : ℕ) → m < k → nat_eq k m ≡ false
    not_same k m l = go (nat_eq k m) refl
      where
        go : (b : Bool) → nat_eq k m ≡ b → b ≡ false
        go true e = let same : k ≡ m = eqb-true k m e in absurd (omega arith)
        go false e = refl

images_new : (g : ℕ → ℕ) (n : ℕ) → ((y : ℕ) → y < n → g y < n) → ((y z : ℕ) → y < n → z < n → nat_eq y z ≡ false → nat_eq (g y) (g z) ≡ false)
    → (m a : ℕ) (earlier : List ℕ) → a + m ≤ n → AreWithin a earlier → is_each_new n (map g earlier) (map g (range_with_len a m)) ≡ true
images_new g n low apart zero a earlier h w = refl
images_new g n low apart (suc m) a earlier h w =
    each_make n (g a) (map g earlier) (map g (range_with_len (a + 1) m)) (low a (omega arith)) (image_new g n a earlier apart (omega arith) w)
    (images_new g n low apart m (a + 1) (a ∷ earlier) (omega arith) (within_make (a + 1) a earlier (omega arith) (within_more a earlier w)))

-- ---- where an item is sent

abbrev item_with : ℕ → DocTree → Item
item_with t v = (t, v)

-- a place that holds an occurrence of the tag
record IsGoal (t : ℕ) (ps : List Item) (m x : ℕ) : Type 0 where
  low : x < length ps
  tag : slice_index (tags_of ps) x ≡ t
  ranked : rank t x (tags_of ps) ≡ m
  item : (d : Item) (v : DocTree) → get_or ps x d ≡ item_with t (get_or (contents_at t ps) m v)

goal_parts : (t : ℕ) (us : List Item) (w : DocTree) (ws : List Item) → IsGoal t (us ++ (t, w) ∷ ws) (length (contents_at t us)) (length us)
goal_parts t us w ws = record {
  low = let n = length-append us ((t, w) ∷ ws) in omega arith;
  tag = tag-part t w us ws;
  ranked = rank-part t us ((t, w) ∷ ws);
  item = λ d v. here_is us (t, w) ws d ∙ ap (item_with t) (sym (ap (λ z. get_or z (length (contents_at t us)) v) (contents-here t w us ws) ∙ here_is (contents_at t us) w (contents_at t ws) v));
}

goal : (t m : ℕ) (ps : List Item) → m < length (contents_at t ps) → IsGoal t ps m (place_in (tags_of ps) t m)
goal t m ps h =
    let o = occurrence t m ps h in
    let here : place_in (tags_of ps) t m ≡ length o.before = ap (λ (z : Option ℕ). elim z [ None ↦ 0 | Some k ↦ k ]) o.placed in
    subst (λ z. IsGoal t ps m z) (sym here)
    (subst (λ z. IsGoal t ps z (length o.before)) o.long (subst (λ z. IsGoal t z (length (contents_at t o.before)) (length o.before)) (sym o.is) (goal_parts t o.before o.content o.after)))

sent_tag : (t : ℕ) (ts f : List ℕ) (y : ℕ) → nat_eq t (slice_index ts y) ≡ true → place_from t ts f y ≡ place_in ts t (slice_index f (rank t y ts))
sent_tag t ts f y e = rw e refl

sent_else : (t : ℕ) (ts f : List ℕ) (y : ℕ) → nat_eq t (slice_index ts y) ≡ false → place_from t ts f y ≡ y
sent_else t ts f y e = rw e refl

module _ (t : ℕ) (ps : List Item) (f : List ℕ) (order : IsOrder (length (contents_at t ps)) f) where
  rank_low : (y : ℕ) → y < length ps → nat_eq t (slice_index (tags_of ps) y) ≡ true → rank t y (tags_of ps) < length f
  rank_low y h e =
      let p = placed ps y h in
      let same : p.here.0 ≡ t = sym p.tag ∙ sym (eqb-true t (slice_index (tags_of ps) y) e) in
      let low : rank t y (tags_of ps) < length (contents_at t ps) = subst (λ z. rank z y (tags_of ps) < length (contents_at z ps)) same p.low in
      let n = order.long in omega arith

  sent_goal : (y : ℕ) → y < length ps → nat_eq t (slice_index (tags_of ps) y) ≡ true → IsGoal t ps (slice_index f (rank t y (tags_of ps))) (place_from t (tags_of ps) f y)
  sent_goal y h e =
      let n = order.long in
      let r = rank_low y h e in
      subst (λ z. IsGoal t ps (slice_index f (rank t y (tags_of ps))) z) (sym (sent_tag t (tags_of ps) f y e))
      (goal t (slice_index f (rank t y (tags_of ps))) ps (within_at (length (contents_at t ps)) (rank t y (tags_of ps)) f (each_within (length (contents_at t ps)) [] f order.new) r))

  sent_low : (y : ℕ) → y < length ps → place_from t (tags_of ps) f y < length ps
  sent_low y h = go (nat_eq t (slice_index (tags_of ps) y)) refl
    where
      go : (b : Bool) → nat_eq t (slice_index (tags_of ps) y) ≡ b → place_from t (tags_of ps) f y < length ps
      go true e = (sent_goal y h e).low
      go false e = subst (λ z. z < length ps) (sym (sent_else t (tags_of ps) f y e)) h

  found_place : (y : ℕ) → y < length ps → nat_eq t (slice_index (tags_of ps) y) ≡ true → place t (rank t y (tags_of ps)) (tags_of ps) ≡ Some y
  found_place y h e =
      let p = placed ps y h in
      subst (λ z. place z (rank z y (tags_of ps)) (tags_of ps) ≡ Some y) (sym p.tag ∙ sym (eqb-true t (slice_index (tags_of ps) y) e)) p.found

  number_is : (m n : ℕ) → Some m ≡ Some n → m ≡ n
  number_is m n e = cc

  both_tag : (y z : ℕ) → y < length ps → z < length ps → nat_eq t (slice_index (tags_of ps) y) ≡ true → nat_eq t (slice_index (tags_of ps) z) ≡ true
      → place_from t (tags_of ps) f y ≡ place_from t (tags_of ps) f z → y ≡ z
  both_tag y z hy hz ey ez same =
      let a = sent_goal y hy ey in
      let b = sent_goal z hz ez in
      let ranks = each_differs (length (contents_at t ps)) [] f (rank t y (tags_of ps)) (rank t z (tags_of ps)) order.new (rank_low y hy ey) (rank_low z hz ez)
      (sym a.ranked ∙ (ap (λ k. rank t k (tags_of ps)) same ∙ b.ranked)) in
      number_is y z (sym (found_place y hy ey) ∙ (ap (λ k. place t k (tags_of ps)) ranks ∙ found_place z hz ez))

  one_tag : (y z : ℕ) → y < length ps → nat_eq t (slice_index (tags_of ps) y) ≡ true → nat_eq t (slice_index (tags_of ps) z) ≡ false
      → place_from t (tags_of ps) f y ≡ place_from t (tags_of ps) f z → ⊥
  one_tag y z hy ey ez same =
      let a = sent_goal y hy ey in
      let here : slice_index (tags_of ps) z ≡ t = ap (slice_index (tags_of ps)) (sym (sent_else t (tags_of ps) f z ez) ∙ sym same) ∙ a.tag in
      let yes = eq-eqb t (slice_index (tags_of ps) z) (sym here) in cc

  sent_same : (y z : ℕ) → y < length ps → z < length ps → place_from t (tags_of ps) f y ≡ place_from t (tags_of ps) f z → y ≡ z
  sent_same y z hy hz same = go (nat_eq t (slice_index (tags_of ps) y)) (nat_eq t (slice_index (tags_of ps) z)) refl refl
    where
      go : (b c : Bool) → nat_eq t (slice_index (tags_of ps) y) ≡ b → nat_eq t (slice_index (tags_of ps) z) ≡ c → y ≡ z
      go true true ey ez = both_tag y z hy hz ey ez same
      go true false ey ez = absurd (one_tag y z hy ey ez same)
      go false true ey ez = absurd (one_tag z y hz ez ey (sym same))
      go false false ey ez = sym (sent_else t (tags_of ps) f y ey) ∙ (same ∙ sent_else t (tags_of ps) f z ez)

  sent_differs : (y z : ℕ) → y < length ps → z < length ps → nat_eq y z ≡ false → nat_eq (place_from t (tags_of ps) f y) (place_from t (tags_of ps) f z) ≡ false
  sent_differs y z hy hz d = go (nat_eq (place_from t (tags_of ps) f y) (place_from t (tags_of ps) f z)) refl
    where
      go : (b : Bool) → nat_eq (place_from t (tags_of ps) f y) (place_from t (tags_of ps) f z) ≡ b → b ≡ false
      go false e = refl
      go true e =
          let same : y ≡ z = sent_same y z hy hz (eqb-true (place_from t (tags_of ps) f y) (place_from t (tags_of ps) f z) e) in
          let yes = eq-eqb y z same in cc

  places_order : IsOrder (length ps) (map (place_from t (tags_of ps) f) (range_with_len 0 (length ps)))
  places_order = record {
    long = length-map-range_with_len (place_from t (tags_of ps) f) 0 (length ps);
    new = images_new (place_from t (tags_of ps) f) (length ps) sent_low sent_differs (length ps) 0 [] (omega arith) (within_none 0);
  }

-- ---- the items after it, from a place on

abbrev sent_items : ℕ → List Item → List ℕ → Item → ℕ → ℕ → List Item
sent_items t ps f d a m = map (λ k. get_or ps k d) (map (place_from t (tags_of ps) f) (range_with_len a m))

-- the items from the place a on, where r items with the tag stand before it, have the tags of the old ones and the next contents
record AreSent (t : ℕ) (ps : List Item) (f : List ℕ) (d : Item) (v : DocTree) (a r : ℕ) (rest : List Item) : Type 0 where
  tags : tags_of (sent_items t ps f d a (length rest)) ≡ tags_of rest
  column : contents_at t (sent_items t ps f d a (length rest)) ≡ map (λ k. get_or (contents_at t ps) k v) (drop r f)
  others : (l : ℕ) → nat_eq t l ≡ false → contents_at l (sent_items t ps f d a (length rest)) ≡ contents_at l rest

turned : (b : Bool) (m n : ℕ) → nat_eq m n ≡ b → nat_eq n m ≡ b
turned true m n e = eq-eqb n m (sym (eqb-true m n e))
turned false m n e = go (nat_eq n m) refl
  where
    go : (c : Bool) → nat_eq n m ≡ c → c ≡ false
    go false f = refl
    go true f = let yes = eq-eqb m n (sym (eqb-true n m f)) in cc

more_with_tag : (t : ℕ) (ps : List Item) (f : List ℕ) (d : Item) (v : DocTree) (a r : ℕ) (x : Item) (rest : List Item) → t ≡ x.0 → r < length f
    → get_or ps (place_from t (tags_of ps) f a) d ≡ item_with t (get_or (contents_at t ps) (get_or f r 0) v)
    → AreSent t ps f d v (a + 1) (r + 1) rest → AreSent t ps f d v a r (x ∷ rest)
more_with_tag t ps f d v a r x rest same low item more =
    let new = sent_items t ps f d (a + 1) (length rest) in
    let content = get_or (contents_at t ps) (get_or f r 0) v in
    record {
      tags = ap (λ (z : Item). z.0 ∷ tags_of new) item ∙ (ap (λ z. z ∷ tags_of new) same ∙ ap (λ z. x.0 ∷ z) more.tags);
      column = ap (λ (z : Item). contents_at t (z ∷ new)) item
          ∙ (ap (λ z. cond z (content ∷ contents_at t new) (contents_at t new)) (nat_eq-refl t)
          ∙ (ap (λ z. content ∷ z) more.column ∙ sym (ap (map (λ k. get_or (contents_at t ps) k v)) (drop_more f r 0 low))));
      others = λ l q. ap (λ (z : Item). contents_at l (z ∷ new)) item
          ∙ (ap (λ z. cond z (content ∷ contents_at l new) (contents_at l new)) q
          ∙ (more.others l q ∙ sym (ap (λ z. cond z (x.1 ∷ contents_at l rest) (contents_at l rest)) (subst (λ z. nat_eq z l ≡ false) same q))));
    }

more_with_other : (t : ℕ) (ps : List Item) (f : List ℕ) (d : Item) (v : DocTree) (a r : ℕ) (x : Item) (rest : List Item) → nat_eq x.0 t ≡ false
    → get_or ps (place_from t (tags_of ps) f a) d ≡ x → AreSent t ps f d v (a + 1) r rest → AreSent t ps f d v a r (x ∷ rest)
more_with_other t ps f d v a r x rest other item more =
    let new = sent_items t ps f d (a + 1) (length rest) in
    record {
      tags = ap (λ (z : Item). z.0 ∷ tags_of new) item ∙ ap (λ z. x.0 ∷ z) more.tags;
      column = ap (λ (z : Item). contents_at t (z ∷ new)) item ∙ (ap (λ z. cond z (x.1 ∷ contents_at t new) (contents_at t new)) other ∙ more.column);
      others = λ l q. ap (λ (z : Item). contents_at l (z ∷ new)) item ∙ ap (λ z. cond (nat_eq x.0 l) (x.1 ∷ z) z) (more.others l q);
    }

sent_from : (t : ℕ) (ps : List Item) (f : List ℕ) → IsOrder (length (contents_at t ps)) f → (d : Item) (v : DocTree) (rest us : List Item) → ps ≡ us ++ rest
    → AreSent t ps f d v (length us) (length (contents_at t us)) rest
sent_from t ps f order d v [] us e =
    let whole : length (contents_at t ps) ≡ length (contents_at t us) = ap (λ z. length (contents_at t z)) (e ∙ append-nil us) in
    let n = order.long in
    record {
      tags = refl;
      column = sym (ap (map (λ k. get_or (contents_at t ps) k v)) (drop_all (length (contents_at t us)) f (omega arith)));
      others = λ l q. refl;
    }
sent_from t ps f order d v (x ∷ rest) us e =
    let next = us ++ x ∷ [] in
    let tag : slice_index (tags_of ps) (length us) ≡ x.0 = ap (λ z. slice_index (tags_of z) (length us)) e ∙ tag-part x.0 x.1 us rest in
    let ranked : rank t (length us) (tags_of ps) ≡ length (contents_at t us) = ap (λ z. rank t (length us) (tags_of z)) e ∙ rank-part t us (x ∷ rest) in
    let long : length ps ≡ length us + suc (length rest) = ap length e ∙ length-append us (x ∷ rest) in
    let here : length us < length ps = omega arith in
    let again : AreSent t ps f d v (length next) (length (contents_at t next)) rest = sent_from t ps f order d v rest next (e ∙ sym (append_assoc us (x ∷ []) rest)) in
    let size : length next ≡ length us + 1 = length-append us (x ∷ []) in
    let more = subst (λ z. AreSent t ps f d v z (length (contents_at t next)) rest) size again in
    go tag ranked here (nat_eq t x.0) refl more
  where
    count_more : (b : Bool) → nat_eq x.0 t ≡ b → length (contents_at t (us ++ x ∷ [])) ≡ length (contents_at t us) + cond b 1 0
    count_more b q = ap length (contents-append t us (x ∷ [])) ∙ (length-append (contents_at t us) (contents_at t (x ∷ [])) ∙ ap (λ z. length (contents_at t us) + z) (last b q))
      where
        last : (b : Bool) → nat_eq x.0 t ≡ b → length (contents_at t (x ∷ [])) ≡ cond b 1 0
        last true q = ap (λ z. length (cond z (x.1 ∷ []) [])) q
        last false q = ap (λ z. length (cond z (x.1 ∷ []) [])) q

    nothing_more : length (contents_at t us) + 0 ≡ length (contents_at t us)
    nothing_more = omega arith

    go : slice_index (tags_of ps) (length us) ≡ x.0 → rank t (length us) (tags_of ps) ≡ length (contents_at t us) → length us < length ps
        → (b : Bool) → nat_eq t x.0 ≡ b → AreSent t ps f d v (length us + 1) (length (contents_at t (us ++ x ∷ []))) rest → AreSent t ps f d v (length us) (length (contents_at t us)) (x ∷ rest)
    go tag ranked here true q more =
        let this : nat_eq t (slice_index (tags_of ps) (length us)) ≡ true = subst (λ z. nat_eq t z ≡ true) (sym tag) q in
        let g = sent_goal t ps f order (length us) here this in
        let low = rank_low t ps f order (length us) here this in
        more_with_tag t ps f d v (length us) (length (contents_at t us)) x rest (eqb-true t x.0 q) (subst (λ z. z < length f) ranked low)
        (g.item d v ∙ ap (λ z. item_with t (get_or (contents_at t ps) (get_or f z 0) v)) ranked)
        (subst (λ z. AreSent t ps f d v (length us + 1) z rest) (count_more true (turned true t x.0 q)) more)
    go tag ranked here false q more =
        let this : nat_eq t (slice_index (tags_of ps) (length us)) ≡ false = subst (λ z. nat_eq t z ≡ false) (sym tag) q in
        more_with_other t ps f d v (length us) (length (contents_at t us)) x rest (turned false t x.0 q)
        (ap (λ z. get_or ps z d) (sent_else t (tags_of ps) f (length us) this) ∙ (ap (λ z. get_or z (length us) d) e ∙ here_is us x rest d))
        (subst (λ z. AreSent t ps f d v (length us + 1) z rest) (count_more false (turned false t x.0 q) ∙ nothing_more) more)

-- ---- the step

pub reorder_step : (fs : FieldTrees) → 0 < tag_count fs → (t : ℕ) (ps : List Item) (f : List ℕ) (v : DocTree) → are_below (tag_count fs) (tags_of ps) ≡ true → IsOrder (length (contents_at t ps)) f
    → RightStep fs t ps (Some (reorder_occurrences t (tags_of ps) f)) (map (λ k. get_or (contents_at t ps) k v) f)
reorder_step fs some t ps f v b order =
    let d = first_item fs in
    let g = map (place_from t (tags_of ps) f) (range_with_len 0 (length ps)) in
    let o = places_order t ps f order in
    let sent = sent_from t ps f order d v ps [] refl in
    let docs : map (λ k. get_or (item_docs fs ps) k (initial (ty_alt fs))) g ≡ item_docs fs (map (λ k. get_or ps k d) g) =
    ap (λ z. edited z (Reorder g) (item_docs fs ps)) (first_is fs some) ∙ edited-through (item_doc fs) d (Reorder g) ps in
    let n : length ps ≡ length (item_docs fs ps) = sym (length-map ps (item_doc fs)) in
    record {
      items = map (λ k. get_or ps k d) g;
      word = reorder g;
      carried = ap (λ z. Some (reorder (map (place_from t (tags_of ps) f) (range_with_len 0 z)), tags_of ps)) (length-map ps tag_of) ∙ ap (λ z. Some (reorder g, z)) (sym sent.tags);
      column = sent.column;
      others = sent.others;
      turns = reorder_turns (ty_alt fs) (item_docs fs ps) g (eq-eqb (length g) (length (item_docs fs ps)) (o.long ∙ n), subst (λ z. is_each_new z [] g ≡ true) n o.new)
          ∙ ap (λ z. Ok (list_doc z)) docs;
      low = subst (λ z. are_below (tag_count fs) z ≡ true) (sym sent.tags) b;
    }
