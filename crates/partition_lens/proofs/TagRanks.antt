-- The ranks of the items of each tag, one item at a time.
use Rattle.std.proofs.Common.{◌≡◌, ℕ, zero, suc, ◌+◌, ◌<◌, ◌≤◌, List, [], ◌∷◌, ◌++◌, append-nil, append_assoc, replicate, length, map, set, drop, get_or, refl, ap, sym, ◌∙◌, arith}
use Rattle.std.specs.Prelude.{Vec, vec_items, slice_index}
use Rattle.std.specs.List.{range_with_len}
use Rattle.std.proofs.lemmas.List.{drop_all, drop_more, get_or-map, length-map}
use Rattle.std.proofs.lemmas.List.FromFn.{get_or-map-range_with_len, length-map-range_with_len}
use Rattle.std.proofs.lemmas.Bool.{eq-eqb, ne_eqb}
use Rattle.tag_seq.specs.Tags.{rank}
use Rattle.doc_values.specs.Types.{FieldTrees, no_fields, more_fields}
use Rattle.edit_module.specs.Words.{WordTree, joined}
use Rattle.lens_core.specs.Emitted.{at_word}
use Rattle.lens_core.specs.Tags.{tag_count}
use Rattle.lens_core.specs.Partition.{ranks_of, at_each_tag, reorder, reorder_items}
use Rattle.partition_lens.specs.TagRanks.{with_rank, ranks_by_tag}
use Rattle.partition_lens.proofs.RightSteps.{parted}

-- ---- one rank in the list of its tag

pub rank_put : {Z : Type 0} (vs : List (Vec ℕ Z)) (t r : ℕ) (v w : Vec ℕ Z) → t < length vs → v ≡ get_or vs t v → vec_items w ≡ vec_items v ++ r ∷ []
    → map vec_items (set vs t w) ≡ with_rank t r (map vec_items vs)
rank_put [] t r v w h e g = absurd (omega arith)
rank_put (x ∷ vs) zero r v w h e g = ap (λ z. z ∷ map vec_items vs) (g ∙ ap (λ z. vec_items z ++ r ∷ []) e)
rank_put (x ∷ vs) (suc t) r v w h e g = ap (λ z. vec_items x ∷ z) (rank_put vs t r v w (omega arith) e g)

pub rank_past : {Z : Type 0} (vs : List (Vec ℕ Z)) (t r : ℕ) → length vs ≤ t → map vec_items vs ≡ with_rank t r (map vec_items vs)
rank_past [] t r h = refl
rank_past (x ∷ vs) zero r h = absurd (omega arith)
rank_past (x ∷ vs) (suc t) r h = ap (λ z. vec_items x ∷ z) (rank_past vs t r (omega arith))

-- the list of a tag, as it is read
pub list_read : {Z : Type 0} (vs : List (Vec ℕ Z)) (t : ℕ) (v : Vec ℕ Z) → t < length vs → v ≡ get_or vs t v → vec_items v ≡ get_or (map vec_items vs) t []
list_read vs t v h e = ap vec_items e ∙ sym (get_or-map vec_items vs t v [] h)

-- ---- the lists, with the ranks of the items that are left behind each of them

-- the first list is that of the tag k
abbrev pub filled : List (List ℕ) → ℕ → List ℕ → List ℕ → List (List ℕ)
filled [] k ts f = []
filled (l ∷ ls) k ts f = (l ++ ranks_of k ts f) ∷ filled ls (k + 1) ts f

-- before the first item
filled_empty : (c k : ℕ) (ts f : List ℕ) → filled (replicate c []) k ts f ≡ map (λ t. ranks_of t ts f) (range_with_len k c)
filled_empty zero k ts f = refl
filled_empty (suc c) k ts f = ap (λ z. ranks_of k ts f ∷ z) (filled_empty c (k + 1) ts f)

pub filled_start : (c : ℕ) (ts f : List ℕ) (ls : List (List ℕ)) → ls ≡ replicate c [] → filled ls 0 ts f ≡ ranks_by_tag c ts f
filled_start c ts f ls e = ap (λ z. filled z 0 ts f) e ∙ filled_empty c 0 ts f

-- after the last item
filled_nothing : (ls : List (List ℕ)) (k : ℕ) (ts : List ℕ) → filled ls k ts [] ≡ ls
filled_nothing [] k ts = refl
filled_nothing (l ∷ ls) k ts = ap (λ z. z ∷ filled ls (k + 1) ts []) (append-nil l) ∙ ap (λ z. l ∷ z) (filled_nothing ls (k + 1) ts)

pub filled_end : (ls : List (List ℕ)) (ts f : List ℕ) (i : ℕ) (whole : List (List ℕ)) → length f ≤ i → filled ls 0 ts (drop i f) ≡ whole → ls ≡ whole
filled_end ls ts f i whole h e =
    let done : filled ls 0 ts (drop i f) ≡ ls = ap (filled ls 0 ts) (drop_all i f h) ∙ filled_nothing ls 0 ts in
    sym done ∙ e

-- after an item
ranks_here : (k p : ℕ) (ts f : List ℕ) → k ≡ slice_index ts p → ranks_of k ts (p ∷ f) ≡ rank k p ts ∷ ranks_of k ts f
ranks_here k p ts f e = rw (eq-eqb k (slice_index ts p) e) refl

ranks_else : (k p : ℕ) (ts f : List ℕ) → (k ≡ slice_index ts p → ⊥) → ranks_of k ts (p ∷ f) ≡ ranks_of k ts f
ranks_else k p ts f n = rw (ne_eqb k (slice_index ts p) n) refl

-- lists of tags above that of the item
filled_above : (ls : List (List ℕ)) (k p : ℕ) (ts f : List ℕ) → slice_index ts p < k → filled ls k ts (p ∷ f) ≡ filled ls k ts f
filled_above [] k p ts f h = refl
filled_above (l ∷ ls) k p ts f h =
    ap (λ z. (l ++ z) ∷ filled ls (k + 1) ts (p ∷ f)) (ranks_else k p ts f (λ e. omega (arith, e, h)))
    ∙ ap (λ z. (l ++ ranks_of k ts f) ∷ z) (filled_above ls (k + 1) p ts f (omega arith))

filled_next : (t r : ℕ) (ls : List (List ℕ)) (k p : ℕ) (ts f : List ℕ) → k + t ≡ slice_index ts p → r ≡ rank (slice_index ts p) p ts
    → filled (with_rank t r ls) k ts f ≡ filled ls k ts (p ∷ f)
filled_next t r [] k p ts f e g = refl
filled_next zero r (l ∷ ls) k p ts f e g =
    let here : k ≡ slice_index ts p = omega (arith, e) in
    let same : r ≡ rank k p ts = g ∙ ap (λ z. rank z p ts) (sym here) in
    let low : slice_index ts p < k + 1 = omega (arith, here) in
    ap (λ z. z ∷ filled ls (k + 1) ts f)
    (append_assoc l (r ∷ []) (ranks_of k ts f) ∙ ap (λ z. l ++ z) (ap (λ z. z ∷ ranks_of k ts f) same ∙ sym (ranks_here k p ts f here)))
    ∙ ap (λ z. (l ++ ranks_of k ts (p ∷ f)) ∷ z) (sym (filled_above ls (k + 1) p ts f low))
filled_next (suc t) r (l ∷ ls) k p ts f e g =
    let next : k + 1 + t ≡ slice_index ts p = omega (arith, e) in
    ap (λ z. (l ++ ranks_of k ts f) ∷ z) (filled_next t r ls (k + 1) p ts f next g)
    ∙ ap (λ z. (l ++ z) ∷ filled ls (k + 1) ts (p ∷ f)) (sym (ranks_else k p ts f (λ h. omega (arith, e, h))))

pub filled_kept : (ls ls' : List (List ℕ)) (ts f : List ℕ) (i t r : ℕ) (whole : List (List ℕ)) → i < length f
    → t ≡ slice_index ts (slice_index f i) → r ≡ rank t (slice_index f i) ts → ls' ≡ with_rank t r ls
    → filled ls 0 ts (drop i f) ≡ whole → filled ls' 0 ts (drop (i + 1) f) ≡ whole
filled_kept ls ls' ts f i t r whole h e g q k =
    let p = slice_index f i in
    let start : 0 + t ≡ slice_index ts p = omega (arith, e) in
    ap (λ z. filled z 0 ts (drop (i + 1) f)) q
    ∙ (filled_next t r ls 0 p ts (drop (i + 1) f) start (g ∙ ap (λ z. rank z p ts) e)
    ∙ (ap (filled ls 0 ts) (sym (drop_more f i 0 h)) ∙ k))

-- ---- an At for each tag

-- the list of a tag is that of the ranks of its items
list_at : (c : ℕ) (ts f : List ℕ) (t : ℕ) → t < c → get_or (ranks_by_tag c ts f) t [] ≡ ranks_of t ts f
list_at c ts f t h = get_or-map-range_with_len (λ z. ranks_of z ts f) 0 c t t [] h (omega arith)

each_same : (fs : FieldTrees) (k : ℕ) (a b : ℕ → WordTree) → ((t : ℕ) → t < k + tag_count fs → a t ≡ b t) → at_each_tag fs k a ≡ at_each_tag fs k b
each_same no_fields k a b h = refl
each_same (more_fields n ty fs) k a b h =
    ap (λ z. joined (at_word n z) (at_each_tag fs (k + 1) a)) (h k (omega arith))
    ∙ ap (λ z. joined (at_word n (b k)) z) (each_same fs (k + 1) a b (λ t l. h t (omega (arith, l))))

-- a word and tags by these lists are what the reorder gives
pub ranked_row : (fs : FieldTrees) (ts f : List ℕ) (ls : List (List ℕ)) (w : WordTree) (next : List ℕ) → ls ≡ ranks_by_tag (tag_count fs) ts f
    → w ≡ at_each_tag fs 0 (λ t. reorder (get_or ls t [])) → next ≡ map (slice_index ts) f → parted w next ≡ reorder_items fs ts f
ranked_row fs ts f ls w next e g h =
    let each : at_each_tag fs 0 (λ t. reorder (get_or (ranks_by_tag (tag_count fs) ts f) t [])) ≡ at_each_tag fs 0 (λ t. reorder (ranks_of t ts f)) =
    each_same fs 0 (λ t. reorder (get_or (ranks_by_tag (tag_count fs) ts f) t [])) (λ t. reorder (ranks_of t ts f))
    (λ t l. ap reorder (list_at (tag_count fs) ts f t (omega (arith, l)))) in
    let word : w ≡ at_each_tag fs 0 (λ t. reorder (ranks_of t ts f)) =
    g ∙ (ap (λ z. at_each_tag fs 0 (λ t. reorder (get_or z t []))) e ∙ each) in
    ap (λ z. parted z next) word ∙ ap (parted (at_each_tag fs 0 (λ t. reorder (ranks_of t ts f)))) h

-- there are as many lists as tags
pub lists_long : {Z : Type 0} (vs : List (Vec ℕ Z)) (c : ℕ) (ts f : List ℕ) → map vec_items vs ≡ ranks_by_tag c ts f → length vs ≡ c
lists_long vs c ts f e =
    let all = length-map-range_with_len (λ t. ranks_of t ts f) 0 c in
    let same = length-map vs vec_items in
    sym same ∙ (ap length e ∙ all)
