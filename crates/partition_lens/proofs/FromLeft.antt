-- Partition from the left: each primitive of the list is translated to a word that turns the lists on the right.
use Rattle.std.proofs.Common.{◌≡◌, ℕ, zero, suc, ◌+◌, ◌-◌, ◌<◌, ◌≤◌, Bool, true, false, ◌&&◌, List, [], ◌∷◌, ◌++◌, length, map, take, drop, get_or, replicate, Option, Some, Ok, refl, ap, sym, ◌∙◌, subst, arith, length-append}
use Rattle.std.specs.Prelude.{nat_eq, nat_lt, nat_le, cond, slice_index}
use Rattle.std.proofs.lemmas.Bool.{eq-eqb, eqb-true, lt-ltb, leb-true, ltb-true}
use Rattle.std.proofs.lemmas.List.{append-nil, map-append, length-map, length-drop, take-append-drop, drop-map}
use Rattle.hold_shapes.specs.declared.edit.Place.TheVariants.{Index, Key, Node}
use Rattle.hold_shapes.specs.declared.edit.ShapeEdit.{ShapeEdit}
use Rattle.hold_shapes.specs.declared.edit.ShapeEdit.TheVariants.{Ins, Del, MoveItem, Reorder, PutKey, DropKey, RenameKey, Graft, Prune, Shift, Hang}
use Rattle.hold_shapes.specs.Plans.{is_count, is_each_new}
use Rattle.hold_shapes.specs.declared.lists.TheConstants.{MOST_ITEMS}
use Rattle.texts.proofs.Conjunction.{both, first, second}
use Rattle.doc_values.specs.Documents.{DocTree}
use Rattle.doc_values.specs.Types.{TyTree, ty_alt, ty_list, FieldTrees, no_fields, more_fields}
use Rattle.doc_values.specs.Initial.{initial}
use Rattle.edit_module.specs.Words.{PrimitiveTree, set as set_to, add, splice, at, stay, switch, modify, shape, WordTree}
use Rattle.edit_module.specs.Action.{act, act_primitive}
use Rattle.lens_core.specs.Emitted.{at_word, shape_word}
use Rattle.lens_core.specs.Tags.{tag_count, tag_name}
use Rattle.tag_seq.specs.Tags.{are_below, count, rank, moved}
use Rattle.tag_seq.proofs.Bounds.{are_below-append, are_below-take, are_below-replicate, are_below-get_or, are_below-moved}
use Rattle.lens_core.specs.Consistency.{list_doc}
use Rattle.lens_core.specs.Partition.{Parted, mv, del, reorder, at_each_tag, ranks_of, part_left}
use Rattle.lens_core.proofs.ItemLists.{Item, tag_of, tags_of, contents_at, contents-append, length-contents, contents-here, contents-off, rank-part, tag-part, here_is, without_here, put_here, split_at, cut_at, parts_same}
use Rattle.partition_lens.proofs.ListEdits.{Allowed, edited, edited-through, edit_turns, edit_back, mod_back, mv_turns, del_turns, reorder_turns}
use Rattle.lens_core.proofs.RightLists.{tag_type, IsPartition, TurnsLists, one_list_turns, each_list_turns, item_doc, item_docs, lists_by_tag, Turns}
use Rattle.partition_lens.proofs.ItemWords.{item_steps}
use Rattle.partition_lens.proofs.TagOrders.{IsOrder, ranks_order, gathered_by_tag, each_within}
use Rattle.texts.proofs.Tests.{nat_eq-refl}

-- the step: the new items, and the word that turns the lists on the right into theirs
pub record LeftStep (fs : FieldTrees) (ps : List Item) (o : Option Parted) (x : DocTree) : Type 0 where
  pub items : List Item
  pub word : WordTree
  pub carried : o ≡ Some (word, tags_of items)
  pub left : x ≡ list_doc (item_docs fs items)
  pub turns : TurnsLists fs word (lists_by_tag ps) (lists_by_tag items)
  pub low : are_below (tag_count fs) (tags_of items) ≡ true

-- ---- tags ltb-true a bound

below_order : (n : ℕ) (xs f : List ℕ) → 0 < n → are_below n xs ≡ true → are_below n (map (λ k. get_or xs k 0) f) ≡ true
below_order n xs [] z h = refl
below_order n xs (k ∷ f) z h = both (nat_lt (get_or xs k 0) n) (are_below n (map (λ k. get_or xs k 0) f)) (lt-ltb (get_or xs k 0) n (are_below-get_or n k xs z h)) (below_order n xs f z h)

edited_low : (n : ℕ) (e : ShapeEdit) (xs : List ℕ) → 0 < n → are_below n xs ≡ true → are_below n (edited 0 e xs) ≡ true
edited_low n (Ins c) xs z h = are_below-append n xs (replicate c 0) h (are_below-replicate n 0 c z)
edited_low n (Del c) xs z h = are_below-take n (length xs - c) xs h
edited_low n (MoveItem i j) xs z h = are_below-moved n i j xs z h
edited_low n (Reorder f) xs z h = below_order n xs f z h
edited_low n (PutKey k) xs z h = h
edited_low n (DropKey k) xs z h = h
edited_low n (RenameKey k m) xs z h = h
edited_low n (Graft q) xs z h = h
edited_low n (Prune q) xs z h = h
edited_low n (Shift q i j) xs z h = h
edited_low n (Hang q r) xs z h = h

-- the tag of one item, and another one in its place
pub below_here : (n : ℕ) (us : List Item) (x : Item) (ws : List Item) → are_below n (tags_of (us ++ x ∷ ws)) ≡ true → x.0 < n
below_here n [] x ws h = ltb-true x.0 n (first (nat_lt x.0 n) (are_below n (tags_of ws)) h)
below_here n (u ∷ us) x ws h = below_here n us x ws (second (nat_lt u.0 n) (are_below n (tags_of (us ++ x ∷ ws))) h)

pub below_there : (n : ℕ) (us : List Item) (x y : Item) (ws : List Item) → are_below n (tags_of (us ++ x ∷ ws)) ≡ true → y.0 < n → are_below n (tags_of (us ++ y ∷ ws)) ≡ true
below_there n [] x y ws h k = both (nat_lt y.0 n) (are_below n (tags_of ws)) (lt-ltb y.0 n k) (second (nat_lt x.0 n) (are_below n (tags_of ws)) h)
below_there n (u ∷ us) x y ws h k =
    both (nat_lt u.0 n) (are_below n (tags_of (us ++ y ∷ ws))) (first (nat_lt u.0 n) (are_below n (tags_of (us ++ x ∷ ws))) h)
    (below_there n us x y ws (second (nat_lt u.0 n) (are_below n (tags_of (us ++ x ∷ ws))) h) k)

pub below_without : (n : ℕ) (us : List Item) (x : Item) (ws : List Item) → are_below n (tags_of (us ++ x ∷ ws)) ≡ true → are_below n (tags_of (us ++ ws)) ≡ true
below_without n [] x ws h = second (nat_lt x.0 n) (are_below n (tags_of ws)) h
below_without n (u ∷ us) x ws h =
    both (nat_lt u.0 n) (are_below n (tags_of (us ++ ws))) (first (nat_lt u.0 n) (are_below n (tags_of (us ++ x ∷ ws))) h)
    (below_without n us x ws (second (nat_lt u.0 n) (are_below n (tags_of (us ++ x ∷ ws))) h))

-- ---- the edits

-- the item that an insertion makes
abbrev pub first_item : FieldTrees → Item
first_item fs = (0, initial (tag_type fs 0))

-- the word of an edit and what it does
record EditStep (fs : FieldTrees) (ps : List Item) (e : ShapeEdit) (o : Option Parted) : Type 0 where
  word : WordTree
  carried : o ≡ Some (word, edited 0 e (tags_of ps))
  turns : TurnsLists fs word (lists_by_tag ps) (lists_by_tag (edited (first_item fs) e ps))

-- Ins
pub contents_many : (t c : ℕ) (v : DocTree) → contents_at t (replicate c (t, v)) ≡ replicate c v
contents_many t zero v = refl
contents_many t (suc c) v = rw (nat_eq-refl t) (ap (λ z. v ∷ z) (contents_many t c v))

pub contents_none : (l t c : ℕ) (v : DocTree) → nat_eq t l ≡ false → contents_at l (replicate c (t, v)) ≡ []
contents_none l t zero v e = refl
contents_none l t (suc c) v e = rw e (contents_none l t c v e)

ins_row : (fs : FieldTrees) → IsPartition fs → 0 < tag_count fs → (ps : List Item) (c : ℕ) → is_count c ≡ true → EditStep fs ps (Ins c) (part_left fs (tags_of ps) (shape (Ins c)))
ins_row fs p some ps c h =
    let d = initial (tag_type fs 0) in
    record {
      word = at_word (tag_name fs 0) (shape_word (Ins c));
      carried = rw h refl;
      turns = one_list_turns fs p 0 (shape_word (Ins c)) (lists_by_tag ps) (lists_by_tag (ps ++ replicate c (0, d))) some
          (edit_turns (tag_type fs 0) (Ins c) (contents_at 0 ps) h ∙ ap (λ z. Ok (list_doc z)) (sym (contents-append 0 ps (replicate c (0, d)) ∙ ap (λ z. contents_at 0 ps ++ z) (contents_many 0 c d))))
          (λ l e. contents-append l ps (replicate c (0, d)) ∙ (ap (λ z. contents_at l ps ++ z) (contents_none l 0 c d e) ∙ append-nil (contents_at l ps)));
    }

-- Del
contents_few : (k : ℕ) (ps : List Item) → length (contents_at k ps) ≤ length ps
contents_few k [] = omega arith
contents_few k (p ∷ ps) = go (nat_eq p.0 k) (contents_few k ps)
  where
    go : (b : Bool) → length (contents_at k ps) ≤ length ps → length (cond b (p.1 ∷ contents_at k ps) (contents_at k ps)) ≤ suc (length ps)
    go true h = omega arith
    go false h = omega arith

delete_turns : (ty : TyTree) (ps : List Item) (c l : ℕ) → c ≤ MOST_ITEMS → c ≤ length ps
    → Turns ty (del (count l (drop (length (tags_of ps) - c) (tags_of ps)))) (contents_at l ps) (contents_at l (take (length ps - c) ps))
delete_turns ty ps c l h few =
    let n = length ps - c in
    let whole : contents_at l ps ≡ contents_at l (take n ps) ++ contents_at l (drop n ps) = ap (contents_at l) (sym (take-append-drop n ps)) ∙ contents-append l (take n ps) (drop n ps) in
    let k_is : count l (drop n (tags_of ps)) ≡ length (contents_at l (drop n ps)) = ap (count l) (drop-map tag_of n ps) ∙ sym (length-contents l (drop n ps)) in
    let short = contents_few l (drop n ps) in
    let rest = length-drop n ps in
    ap (λ z. act (ty_list ty) (del (count l (drop (z - c) (tags_of ps)))) (list_doc (contents_at l ps))) (length-map ps tag_of)
    ∙ subst (λ z. Turns ty (del (count l (drop n (tags_of ps)))) z (contents_at l (take n ps))) (sym whole)
    (del_turns ty (contents_at l (take n ps)) (contents_at l (drop n ps)) (count l (drop n (tags_of ps))) k_is (omega arith))

del_row : (fs : FieldTrees) → IsPartition fs → (ps : List Item) (c : ℕ) → (is_count c && nat_le c (length ps)) ≡ true → EditStep fs ps (Del c) (part_left fs (tags_of ps) (shape (Del c)))
del_row fs p ps c h =
    let few = leb-true c MOST_ITEMS (second (nat_le 1 c) (nat_le c MOST_ITEMS) (first (is_count c) (nat_le c (length ps)) h)) in
    let within = leb-true c (length ps) (second (is_count c) (nat_le c (length ps)) h) in
    let tags : (is_count c && nat_le c (length (tags_of ps))) ≡ true = subst (λ z. (is_count c && nat_le c z) ≡ true) (sym (length-map ps tag_of)) h in
    record {
      word = at_each_tag fs 0 (λ t. del (count t (drop (length (tags_of ps) - c) (tags_of ps))));
      carried = rw tags refl;
      turns = each_list_turns fs p (λ t. del (count t (drop (length (tags_of ps) - c) (tags_of ps)))) (lists_by_tag ps) (lists_by_tag (take (length ps - c) ps))
          (λ l b. delete_turns (tag_type fs l) ps c l few within);
    }

-- MoveItem
pub moved_is : {A : Type 0} (us : List A) (x : A) (ws cs ds : List A) (d : A) → us ++ ws ≡ cs ++ ds → edited d (MoveItem (length us) (length cs)) (us ++ x ∷ ws) ≡ cs ++ x ∷ ds
moved_is us x ws cs ds d e = rw (here_is us x ws d, without_here us x ws, e) (put_here cs ds x)

pub move_turns : (fs : FieldTrees) → IsPartition fs → (us : List Item) (t : ℕ) (v : DocTree) (ws cs ds : List Item) → us ++ ws ≡ cs ++ ds → t < tag_count fs
    → TurnsLists fs (at_word (tag_name fs t) (mv (rank t (length us) (tags_of (us ++ (t, v) ∷ ws))) (rank t (length cs) (tags_of (cs ++ (t, v) ∷ ds)))))
    (lists_by_tag (us ++ (t, v) ∷ ws)) (lists_by_tag (cs ++ (t, v) ∷ ds))
move_turns fs p us t v ws cs ds e low =
    let word = mv (rank t (length us) (tags_of (us ++ (t, v) ∷ ws))) (rank t (length cs) (tags_of (cs ++ (t, v) ∷ ds))) in
    let same : contents_at t us ++ contents_at t ws ≡ contents_at t cs ++ contents_at t ds = sym (contents-append t us ws) ∙ (ap (contents_at t) e ∙ contents-append t cs ds) in
    one_list_turns fs p t word (lists_by_tag (us ++ (t, v) ∷ ws)) (lists_by_tag (cs ++ (t, v) ∷ ds)) low
    (rw (rank-part t us ((t, v) ∷ ws), rank-part t cs ((t, v) ∷ ds), contents-here t v us ws, contents-here t v cs ds)
    (mv_turns (tag_type fs t) (contents_at t us) (contents_at t ws) (contents_at t cs) (contents_at t ds) v same))
    (λ l q. contents-off l t v cs ds q ∙ (ap (contents_at l) (sym e) ∙ sym (contents-off l t v us ws q)))

move_parts : (fs : FieldTrees) → IsPartition fs → (us : List Item) (x : Item) (ws cs ds : List Item) → us ++ ws ≡ cs ++ ds → x.0 < tag_count fs
    → (nat_lt (length us) (length (us ++ x ∷ ws)) && nat_lt (length cs) (length (us ++ x ∷ ws))) ≡ true
    → EditStep fs (us ++ x ∷ ws) (MoveItem (length us) (length cs)) (part_left fs (tags_of (us ++ x ∷ ws)) (shape (MoveItem (length us) (length cs))))
move_parts fs p us x ws cs ds e low h =
    let ps = us ++ x ∷ ws in
    let ts = tags_of ps in
    let i = length us in
    let j = length cs in
    let tags : (nat_lt i (length ts) && nat_lt j (length ts)) ≡ true = subst (λ z. (nat_lt i z && nat_lt j z) ≡ true) (sym (length-map ps tag_of)) h in
    let next : moved i j ts ≡ tags_of (cs ++ x ∷ ds) = edited-through tag_of (first_item fs) (MoveItem i j) ps ∙ ap tags_of (moved_is us x ws cs ds (first_item fs) e) in
    let word = λ (t : ℕ) (new : List ℕ). at_word (tag_name fs t) (mv (rank t i ts) (rank t j new)) in
    let made : Some (word (slice_index ts i) (moved i j ts), moved i j ts) ≡ Some (word x.0 (tags_of (cs ++ x ∷ ds)), moved i j ts) =
    ap (λ z. Some (word z (moved i j ts), moved i j ts)) (tag-part x.0 x.1 us ws) ∙ ap (λ z. Some (word x.0 z, moved i j ts)) next in
    record {
      word = word x.0 (tags_of (cs ++ x ∷ ds));
      carried = rw tags made;
      turns = subst (λ z. TurnsLists fs (word x.0 (tags_of (cs ++ x ∷ ds))) (lists_by_tag ps) (lists_by_tag z)) (sym (moved_is us x ws cs ds (first_item fs) e))
          (move_turns fs p us x.0 x.1 ws cs ds e low);
    }

move_row : (fs : FieldTrees) → IsPartition fs → (ps : List Item) (i j : ℕ) → are_below (tag_count fs) (tags_of ps) ≡ true → (nat_lt i (length ps) && nat_lt j (length ps)) ≡ true
    → EditStep fs ps (MoveItem i j) (part_left fs (tags_of ps) (shape (MoveItem i j)))
move_row fs p ps i j b h =
    let hi = ltb-true i (length ps) (first (nat_lt i (length ps)) (nat_lt j (length ps)) h) in
    let hj = ltb-true j (length ps) (second (nat_lt i (length ps)) (nat_lt j (length ps)) h) in
    let s = split_at ps i hi in
    let whole : length ps ≡ length s.before + suc (length s.after) = ap length s.is ∙ length-append s.before (s.here ∷ s.after) in
    let rest = length-append s.before s.after in
    let c = cut_at (s.before ++ s.after) j (omega arith) in
    subst (λ z. EditStep fs ps (MoveItem z j) (part_left fs (tags_of ps) (shape (MoveItem z j)))) s.long
    (subst (λ z. EditStep fs ps (MoveItem (length s.before) z) (part_left fs (tags_of ps) (shape (MoveItem (length s.before) z)))) c.long
    (subst (λ z. EditStep fs z (MoveItem (length s.before) (length c.before)) (part_left fs (tags_of z) (shape (MoveItem (length s.before) (length c.before))))) (sym s.is)
    (move_parts fs p s.before s.here s.after c.before c.after c.is (below_here (tag_count fs) s.before s.here s.after (subst (λ z. are_below (tag_count fs) (tags_of z) ≡ true) s.is b))
    (subst (λ z. (nat_lt (length s.before) (length z) && nat_lt (length c.before) (length z)) ≡ true) s.is
    (subst (λ z. (nat_lt z (length ps) && nat_lt (length c.before) (length ps)) ≡ true) (sym s.long) (subst (λ z. (nat_lt i (length ps) && nat_lt z (length ps)) ≡ true) (sym c.long) h))))))

-- Reorder
reorder_row : (fs : FieldTrees) → IsPartition fs → (ps : List Item) (f : List ℕ) → nat_eq (length f) (length ps) ≡ true → is_each_new (length ps) [] f ≡ true
    → EditStep fs ps (Reorder f) (part_left fs (tags_of ps) (shape (Reorder f)))
reorder_row fs p ps f h k =
    let ts = tags_of ps in
    let n = sym (length-map ps tag_of) in
    let long : nat_eq (length f) (length ts) ≡ true = subst (λ z. nat_eq (length f) z ≡ true) n h in
    let new : is_each_new (length ts) [] f ≡ true = subst (λ z. is_each_new z [] f ≡ true) n k in
    let order : IsOrder (length ps) f = record { long = eqb-true (length f) (length ps) h; new = k } in
    let d = first_item fs in
    record {
      word = at_each_tag fs 0 (λ t. reorder (ranks_of t ts f));
      carried = rw (long, new) refl;
      turns = each_list_turns fs p (λ t. reorder (ranks_of t ts f)) (lists_by_tag ps) (lists_by_tag (map (λ k. get_or ps k d) f)) (λ l b.
          let o = ranks_order ps l f d (initial (tag_type fs l)) order in
          reorder_turns (tag_type fs l) (contents_at l ps) (ranks_of l ts f) (eq-eqb (length (ranks_of l ts f)) (length (contents_at l ps)) o.long, o.new)
          ∙ ap (λ z. Ok (list_doc z)) (gathered_by_tag ps l f d (initial (tag_type fs l)) (each_within (length ps) [] f k)));
    }

edit_row : (fs : FieldTrees) → IsPartition fs → 0 < tag_count fs → (ps : List Item) (e : ShapeEdit) → are_below (tag_count fs) (tags_of ps) ≡ true → Allowed (length ps) e
    → EditStep fs ps e (part_left fs (tags_of ps) (shape e))
edit_row fs p some ps (Ins c) b h = ins_row fs p some ps c h
edit_row fs p some ps (Del c) b h = del_row fs p ps c h
edit_row fs p some ps (MoveItem i j) b h = move_row fs p ps i j b h
edit_row fs p some ps (Reorder f) b h = reorder_row fs p ps f h.0 h.1
edit_row fs p some ps (PutKey k) b h = absurd h
edit_row fs p some ps (DropKey k) b h = absurd h
edit_row fs p some ps (RenameKey k m) b h = absurd h
edit_row fs p some ps (Graft q) b h = absurd h
edit_row fs p some ps (Prune q) b h = absurd h
edit_row fs p some ps (Shift q i j) b h = absurd h
edit_row fs p some ps (Hang q r) b h = absurd h

pub first_is : (fs : FieldTrees) → 0 < tag_count fs → initial (ty_alt fs) ≡ item_doc fs (first_item fs)
first_is no_fields h = absurd (omega arith)
first_is (more_fields n t fs) h = refl

shape_step : (fs : FieldTrees) → IsPartition fs → 0 < tag_count fs → (ps : List Item) (e : ShapeEdit) (x : DocTree) → are_below (tag_count fs) (tags_of ps) ≡ true
    → act_primitive (ty_list (ty_alt fs)) (shape e) (list_doc (item_docs fs ps)) ≡ Ok x → LeftStep fs ps (part_left fs (tags_of ps) (shape e)) x
shape_step fs p some ps e x b h =
    let back = edit_back (ty_alt fs) e (item_docs fs ps) x h in
    let allowed : Allowed (length ps) e = subst (λ n. Allowed n e) (length-map ps (item_doc fs)) back.0 in
    let row = edit_row fs p some ps e b allowed in
    let tags : edited 0 e (tags_of ps) ≡ tags_of (edited (first_item fs) e ps) = edited-through tag_of (first_item fs) e ps in
    record {
      items = edited (first_item fs) e ps;
      word = row.word;
      carried = row.carried ∙ ap (λ z. Some (row.word, z)) tags;
      left = back.1 ∙ ap list_doc (ap (λ z. edited z e (item_docs fs ps)) (first_is fs some) ∙ edited-through (item_doc fs) (first_item fs) e ps);
      turns = row.turns;
      low = subst (λ z. are_below (tag_count fs) z ≡ true) tags (edited_low (tag_count fs) e (tags_of ps) some b);
    }

-- ---- a word inside an item

heads_same : (x y : DocTree) (xs ys : List DocTree) → x ∷ xs ≡ y ∷ ys → (x ≡ y) × (xs ≡ ys)
heads_same x y xs ys e = (cc, cc)

modify_parts : (fs : FieldTrees) → IsPartition fs → (us : List Item) (old : Item) (ws : List Item) (w : WordTree) (d x : DocTree) → are_below (tag_count fs) (tags_of (us ++ old ∷ ws)) ≡ true
    → act (ty_alt fs) w (item_doc fs old) ≡ Ok d → x ≡ list_doc (item_docs fs us ++ d ∷ item_docs fs ws)
    → LeftStep fs (us ++ old ∷ ws) (part_left fs (tags_of (us ++ old ∷ ws)) (modify (Index (length us)) w)) x
modify_parts fs p us old ws w d x b e is =
    let step = item_steps fs p w us old ws d (below_here (tag_count fs) us old ws b) e in
    let place : nat_lt (length us) (length (tags_of (us ++ old ∷ ws))) ≡ true =
    lt-ltb (length us) (length (tags_of (us ++ old ∷ ws))) (rw (length-map (us ++ old ∷ ws) tag_of, length-append us (old ∷ ws)) (omega arith)) in
    record {
      items = us ++ step.new ∷ ws;
      word = step.word;
      carried = rw place step.carried;
      left = is ∙ ap list_doc (ap (λ z. item_docs fs us ++ z ∷ item_docs fs ws) step.is ∙ sym (map-append (item_doc fs) us (step.new ∷ ws)));
      turns = step.turns;
      low = below_there (tag_count fs) us old step.new ws b step.low;
    }

modify_step : (fs : FieldTrees) → IsPartition fs → (ps : List Item) (q : ℕ) (w : WordTree) (x : DocTree) → are_below (tag_count fs) (tags_of ps) ≡ true
    → act_primitive (ty_list (ty_alt fs)) (modify (Index q) w) (list_doc (item_docs fs ps)) ≡ Ok x → LeftStep fs ps (part_left fs (tags_of ps) (modify (Index q) w)) x
modify_step fs p ps q w x b h =
    let m = mod_back (ty_alt fs) w (item_docs fs ps) q x h in
    let all : length (item_docs fs ps) ≡ length m.split.before + suc (length m.split.after) = ap length m.split.is ∙ length-append m.split.before (m.split.here ∷ m.split.after) in
    let long = length-map ps (item_doc fs) in
    let at_q = m.split.long in
    let s = split_at ps q (omega arith) in
    let docs : item_docs fs s.before ++ item_doc fs s.here ∷ item_docs fs s.after ≡ m.split.before ++ m.split.here ∷ m.split.after =
    sym (map-append (item_doc fs) s.before (s.here ∷ s.after)) ∙ (ap (item_docs fs) (sym s.is) ∙ m.split.is) in
    let same = parts_same (item_docs fs s.before) (item_doc fs s.here ∷ item_docs fs s.after) m.split.before (m.split.here ∷ m.split.after) docs
    (length-map s.before (item_doc fs) ∙ (s.long ∙ sym m.split.long)) in
    let heads = heads_same (item_doc fs s.here) m.split.here (item_docs fs s.after) m.split.after same.1 in
    subst (λ z. LeftStep fs ps (part_left fs (tags_of ps) (modify (Index z) w)) x) s.long
    (subst (λ z. LeftStep fs z (part_left fs (tags_of z) (modify (Index (length s.before)) w)) x) (sym s.is)
    (modify_parts fs p s.before s.here s.after w m.content x (subst (λ z. are_below (tag_count fs) (tags_of z) ≡ true) s.is b)
    (subst (λ z. act (ty_alt fs) w z ≡ Ok m.content) (sym heads.0) m.acts)
    (m.is ∙ ap list_doc (ap (λ z. z ++ m.content ∷ m.split.after) (sym same.0) ∙ ap (λ z. item_docs fs s.before ++ m.content ∷ z) (sym heads.1)))))

-- ---- each primitive

pub left_step : (fs : FieldTrees) → IsPartition fs → 0 < tag_count fs → (ps : List Item) (q : PrimitiveTree) (x : DocTree) → are_below (tag_count fs) (tags_of ps) ≡ true
    → act_primitive (ty_list (ty_alt fs)) q (list_doc (item_docs fs ps)) ≡ Ok x → LeftStep fs ps (part_left fs (tags_of ps) q) x
left_step fs p some ps (modify (Index i) w) x b h = modify_step fs p ps i w x b h
left_step fs p some ps (modify (Key k) w) x b h = cc
left_step fs p some ps (modify (Node k) w) x b h = cc
left_step fs p some ps (shape e) x b h = shape_step fs p some ps e x b h
left_step fs p some ps (set_to a) x b h = cc
left_step fs p some ps (add n) x b h = cc
left_step fs p some ps (splice i k s) x b h = cc
left_step fs p some ps (at f u) x b h = cc
left_step fs p some ps (stay n u) x b h = cc
left_step fs p some ps (switch n m u) x b h = cc
