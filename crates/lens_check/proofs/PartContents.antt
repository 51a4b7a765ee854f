-- The contents of a partition's items, in a list for each tag.
use Rattle.std.proofs.Common.{◌≡◌, ℕ, zero, suc, ◌+◌, ◌<◌, ◌≤◌, Bool, true, false, ◌&&◌, List, [], ◌∷◌, ◌++◌, append-nil, append_assoc, replicate, length, map, set, drop, get_or, add-one, Option, Some, None, option_map, refl, ap, sym, ◌∙◌, arith}
use Rattle.std.specs.Prelude.{Vec, vec_items, slice_index, nat_eq, cond, if◌then◌else◌, option_and_then}
use Rattle.std.specs.List.{range_with_len}
use Rattle.std.proofs.lemmas.Bool.{eq-eqb, ne_eqb, eqb-true}
use Rattle.std.proofs.lemmas.List.{drop_all, length-map, length-replicate}
use Rattle.std.proofs.lemmas.List.FromFn.{get_or-map-range_with_len, length-map-range_with_len}
use Rattle.doc_values.specs.Types.{FieldTrees, names_of, type_fields_of, field_tree}
use Rattle.doc_values.specs.declared.ty.Ty.{Ty}
use Rattle.doc_values.specs.Typing.{is_list_of}
use Rattle.tag_seq.specs.Tags.{count}
use Rattle.lens_core.specs.Tags.{tag_count, tag_number, tag_name}
use Rattle.lens_core.proofs.Tags.{tag_name-at}
use Rattle.law_images.specs.declared.pattern.Pattern.{Pattern}
use Rattle.law_images.specs.Patterns.{PatternTree, hole, unit_pattern, truth_pattern, int_pattern, text_pattern, pick_pattern, rec_pattern, alt_pattern, hold_pattern, PatternTrees, no_patterns, more_patterns, pattern_count, pattern_list, patterns_from, pattern_tree, in_order}
use Rattle.law_images.specs.PartImage.{content_pattern, content_patterns, patterns_at, list_pattern, list_at, holes, patterns_in_list, parted_image}
use Rattle.law_images.proofs.PatternsOfItems.{count_holes}
use Rattle.law_images.proofs.PatternLists.{patterns_from-pattern_list, pattern_count-length}
use Rattle.lens_check.specs.PartLists.{trees_in, with_content, lists_by_tag, list_at_tag, list_of}
use Rattle.lens_check.proofs.PartNames.{in_order-names}
use Rattle.lens_core.proofs.TagNumbers.{tag-below}

-- ---- one content in the list of its tag

pub content_put : {Z : Type 0} (vs : List (Vec Pattern Z)) (t : ℕ) (q : Pattern) (v w : Vec Pattern Z) → t < length vs → v ≡ get_or vs t v → vec_items w ≡ vec_items v ++ q ∷ []
    → map trees_in (set vs t w) ≡ with_content t (pattern_tree q) (map trees_in vs)
content_put [] t q v w h e g = absurd (omega arith)
content_put (x ∷ vs) zero q v w h e g =
    ap (λ z. z ∷ map trees_in vs) (ap (map pattern_tree) (g ∙ ap (λ z. vec_items z ++ q ∷ []) e) ∙ map_end (vec_items x) q)
  where
    map_end : (xs : List Pattern) (q : Pattern) → map pattern_tree (xs ++ q ∷ []) ≡ map pattern_tree xs ++ pattern_tree q ∷ []
    map_end [] q = refl
    map_end (x ∷ xs) q = ap (λ z. pattern_tree x ∷ z) (map_end xs q)
content_put (x ∷ vs) (suc t) q v w h e g = ap (λ z. trees_in x ∷ z) (content_put vs t q v w (omega arith) e g)

-- ---- the lists, with the contents that are left behind each of them

-- the first list is that of the tag k
abbrev pub filled : List (List PatternTree) → ℕ → List ℕ → PatternTrees → List (List PatternTree)
filled [] k ts qs = []
filled (l ∷ ls) k ts qs = (l ++ pattern_list (patterns_at k ts qs)) ∷ filled ls (k + 1) ts qs

-- before the first item
filled_empty : (c k : ℕ) (ts : List ℕ) (qs : PatternTrees) → filled (replicate c []) k ts qs ≡ map (λ t. pattern_list (patterns_at t ts qs)) (range_with_len k c)
filled_empty zero k ts qs = refl
filled_empty (suc c) k ts qs = ap (λ z. pattern_list (patterns_at k ts qs) ∷ z) (filled_empty c (k + 1) ts qs)

-- after the last item
filled_nothing : (ls : List (List PatternTree)) (k : ℕ) (qs : PatternTrees) → filled ls k [] qs ≡ ls
filled_nothing [] k qs = refl
filled_nothing (l ∷ ls) k qs = ap (λ z. z ∷ filled ls (k + 1) [] qs) (append-nil l) ∙ ap (λ z. l ∷ z) (filled_nothing ls (k + 1) qs)

-- after an item
at_here : (k t : ℕ) (ts : List ℕ) (q : PatternTree) (qs : PatternTrees) → t ≡ k → pattern_list (patterns_at k (t ∷ ts) (more_patterns q qs)) ≡ q ∷ pattern_list (patterns_at k ts qs)
at_here k t ts q qs e = rw (eq-eqb t k e) refl

at_else : (k t : ℕ) (ts : List ℕ) (q : PatternTree) (qs : PatternTrees) → (t ≡ k → ⊥) → pattern_list (patterns_at k (t ∷ ts) (more_patterns q qs)) ≡ pattern_list (patterns_at k ts qs)
at_else k t ts q qs n = rw (ne_eqb t k n) refl

-- lists of tags above that of the item
filled_above : (ls : List (List PatternTree)) (k t : ℕ) (ts : List ℕ) (q : PatternTree) (qs : PatternTrees) → t < k → filled ls k (t ∷ ts) (more_patterns q qs) ≡ filled ls k ts qs
filled_above [] k t ts q qs h = refl
filled_above (l ∷ ls) k t ts q qs h =
    ap (λ z. (l ++ z) ∷ filled ls (k + 1) (t ∷ ts) (more_patterns q qs)) (at_else k t ts q qs (λ e. omega (arith, e, h)))
    ∙ ap (λ z. (l ++ pattern_list (patterns_at k ts qs)) ∷ z) (filled_above ls (k + 1) t ts q qs (omega arith))

filled_next : (j : ℕ) (ls : List (List PatternTree)) (k t : ℕ) (ts : List ℕ) (q : PatternTree) (qs : PatternTrees) → k + j ≡ t
    → filled (with_content j q ls) k ts qs ≡ filled ls k (t ∷ ts) (more_patterns q qs)
filled_next j [] k t ts q qs e = refl
filled_next zero (l ∷ ls) k t ts q qs e =
    let here : t ≡ k = omega (arith, e) in
    let low : t < k + 1 = omega (arith, here) in
    ap (λ z. z ∷ filled ls (k + 1) ts qs)
    (append_assoc l (q ∷ []) (pattern_list (patterns_at k ts qs)) ∙ ap (λ z. l ++ z) (sym (at_here k t ts q qs here)))
    ∙ ap (λ z. (l ++ pattern_list (patterns_at k (t ∷ ts) (more_patterns q qs))) ∷ z) (sym (filled_above ls (k + 1) t ts q qs low))
filled_next (suc j) (l ∷ ls) k t ts q qs e =
    let next : k + 1 + j ≡ t = omega (arith, e) in
    ap (λ z. (l ++ pattern_list (patterns_at k ts qs)) ∷ z) (filled_next j ls (k + 1) t ts q qs next)
    ∙ ap (λ z. (l ++ z) ∷ filled ls (k + 1) (t ∷ ts) (more_patterns q qs)) (sym (at_else k t ts q qs (λ h. omega (arith, e, h))))

-- ---- the loop over the items

-- what becomes of the lists by the items that are left
abbrev pub left_items : FieldTrees → List (List PatternTree) → List ℕ → List PatternTree → Option (List (List PatternTree))
left_items fs ls ts ps = option_map (filled ls 0 ts) (content_patterns fs ts (patterns_from ps))

-- before the first item
map_same : (o : Option PatternTrees) (f g : PatternTrees → List (List PatternTree)) → ((qs : PatternTrees) → f qs ≡ g qs) → option_map f o ≡ option_map g o
map_same None f g h = refl
map_same (Some qs) f g h = ap Some (h qs)

pub left_start : (fs : FieldTrees) (c : ℕ) (ls : List (List PatternTree)) (ts : List ℕ) (ps : PatternTrees) → c ≡ tag_count fs → ls ≡ replicate c []
    → left_items fs ls ts (pattern_list ps) ≡ option_map (lists_by_tag (tag_count fs) ts) (content_patterns fs ts ps)
left_start fs c ls ts ps e g =
    ap (λ z. option_map (filled ls 0 ts) (content_patterns fs ts z)) (patterns_from-pattern_list ps)
    ∙ map_same (content_patterns fs ts ps) (filled ls 0 ts) (lists_by_tag (tag_count fs) ts)
    (λ qs. ap (λ z. filled z 0 ts qs) g ∙ (filled_empty c 0 ts qs ∙ ap (λ z. lists_by_tag z ts qs) e))

-- an item: its tag and its pattern
item_step : (fs : FieldTrees) (ts : List ℕ) (ps : List PatternTree) (i : ℕ) (d : PatternTree) → i < length ts → i < length ps
    → content_patterns fs (drop i ts) (patterns_from (drop i ps))
    ≡ option_and_then (λ q. option_map (more_patterns q) (content_patterns fs (drop (suc i) ts) (patterns_from (drop (suc i) ps)))) (content_pattern (tag_name fs (slice_index ts i)) (get_or ps i d))
item_step fs [] ps i d h k = absurd (omega arith)
item_step fs (t ∷ ts) [] i d h k = absurd (omega arith)
item_step fs (t ∷ ts) (p ∷ ps) zero d h k = refl
item_step fs (t ∷ ts) (p ∷ ps) (suc i) d h k = item_step fs ts ps i d (omega arith) (omega arith)

left_step : (fs : FieldTrees) (ts : List ℕ) (ps : List PatternTree) (i : ℕ) (d : PatternTree) → i < length ts → i < length ps
    → content_patterns fs (drop i ts) (patterns_from (drop i ps))
    ≡ option_and_then (λ q. option_map (more_patterns q) (content_patterns fs (drop (i + 1) ts) (patterns_from (drop (i + 1) ps)))) (content_pattern (tag_name fs (slice_index ts i)) (get_or ps i d))
left_step fs ts ps i d h k =
    item_step fs ts ps i d h k
    ∙ ap (λ z. option_and_then (λ q. option_map (more_patterns q) (content_patterns fs (drop z ts) (patterns_from (drop z ps)))) (content_pattern (tag_name fs (slice_index ts i)) (get_or ps i d))) (sym (add-one i))

next_tag : (ts : List ℕ) (i : ℕ) → i < length ts → drop i ts ≡ slice_index ts i ∷ drop (suc i) ts
next_tag [] i h = absurd (omega arith)
next_tag (t ∷ ts) zero h = refl
next_tag (t ∷ ts) (suc i) h = next_tag ts i (omega arith)

tag_step : (ts : List ℕ) (i : ℕ) → i < length ts → drop i ts ≡ slice_index ts i ∷ drop (i + 1) ts
tag_step ts i h = next_tag ts i h ∙ ap (λ z. slice_index ts i ∷ drop z ts) (sym (add-one i))

filled_behind : (o : Option PatternTrees) (ls : List (List PatternTree)) (t : ℕ) (ts : List ℕ) (q : PatternTree)
    → option_map (filled (with_content t q ls) 0 ts) o ≡ option_map (filled ls 0 (t ∷ ts)) (option_map (more_patterns q) o)
filled_behind None ls t ts q = refl
filled_behind (Some qs) ls t ts q = ap Some (filled_next t ls 0 t ts q qs (omega arith))

pub left_kept : (fs : FieldTrees) (ls ls' : List (List PatternTree)) (ts : List ℕ) (ps : List PatternTree) (i t : ℕ) (d q : PatternTree) (whole : Option (List (List PatternTree)))
    → i < length ts → i < length ps → t ≡ slice_index ts i → Some q ≡ content_pattern (tag_name fs t) (get_or ps i d) → ls' ≡ with_content t q ls
    → left_items fs ls (drop i ts) (drop i ps) ≡ whole → left_items fs ls' (drop (i + 1) ts) (drop (i + 1) ps) ≡ whole
left_kept fs ls ls' ts ps i t d q whole h k e c g inv =
    let rest = content_patterns fs (drop (i + 1) ts) (patterns_from (drop (i + 1) ps)) in
    let step : content_patterns fs (drop i ts) (patterns_from (drop i ps)) ≡ option_map (more_patterns q) rest =
    left_step fs ts ps i d h k ∙ ap (option_and_then (λ q. option_map (more_patterns q) rest)) (ap (λ z. content_pattern (tag_name fs z) (get_or ps i d)) (sym e) ∙ sym c) in
    let tags : drop i ts ≡ t ∷ drop (i + 1) ts = tag_step ts i h ∙ ap (λ z. z ∷ drop (i + 1) ts) (sym e) in
    ap (λ z. option_map (filled z 0 (drop (i + 1) ts)) rest) g
    ∙ (filled_behind rest ls t (drop (i + 1) ts) q
    ∙ (ap (option_map (filled ls 0 (t ∷ drop (i + 1) ts))) (sym step)
    ∙ (ap (λ z. option_map (filled ls 0 z) (content_patterns fs (drop i ts) (patterns_from (drop i ps)))) (sym tags) ∙ inv)))

-- the content of the item at a place, by what is read there
pub content_read : (fields : List (List ℕ × Ty)) (fs : FieldTrees) (t : ℕ) (f : List ℕ × Ty) (p p' : PatternTree) (o : Option PatternTree) → type_fields_of (map field_tree fields) ≡ fs
    → t < length fields → f ≡ get_or fields t f → p ≡ p' → o ≡ content_pattern (get_or fields t f).0 p → o ≡ content_pattern (tag_name fs t) p'
content_read fields fs t f p p' o e h is same made =
    let name : (get_or fields t f).0 ≡ tag_name fs t = ap (λ (x : List ℕ × Ty). x.0) (sym is) ∙ (sym (tag_name-at fields t f h is) ∙ ap (λ z. tag_name z t) e) in
    made ∙ (ap (content_pattern (get_or fields t f).0) same ∙ ap (λ z. content_pattern z p') name)

none_map : {A B : Type 0} (f : A → B) (o : Option A) → None ≡ option_map f o → o ≡ None
none_map f None e = refl
none_map f (Some x) e = cc

-- an item that is not of its tag
pub left_none : (fs : FieldTrees) (ls : List (List PatternTree)) (ts : List ℕ) (ps : List PatternTree) (i t : ℕ) (d : PatternTree) (f : PatternTrees → List (List PatternTree)) (o : Option PatternTrees)
    → i < length ts → i < length ps → t ≡ slice_index ts i → None ≡ content_pattern (tag_name fs t) (get_or ps i d)
    → left_items fs ls (drop i ts) (drop i ps) ≡ option_map f o → o ≡ None
left_none fs ls ts ps i t d f o h k e c inv =
    let rest = content_patterns fs (drop (i + 1) ts) (patterns_from (drop (i + 1) ps)) in
    let step : content_patterns fs (drop i ts) (patterns_from (drop i ps)) ≡ None =
    left_step fs ts ps i d h k ∙ ap (option_and_then (λ q. option_map (more_patterns q) rest)) (ap (λ z. content_pattern (tag_name fs z) (get_or ps i d)) (sym e) ∙ sym c) in
    none_map f o (sym (ap (option_map (filled ls 0 (drop i ts))) step) ∙ inv)

-- after the last item
pub left_end : (fs : FieldTrees) (ls : List (List PatternTree)) (ts : List ℕ) (ps : List PatternTree) (i : ℕ) (whole : Option (List (List PatternTree)))
    → length ts ≤ i → length ps ≤ i → left_items fs ls (drop i ts) (drop i ps) ≡ whole → whole ≡ Some ls
left_end fs ls ts ps i whole h k inv =
    let none : left_items fs ls [] [] ≡ Some ls = ap Some (filled_nothing ls 0 no_patterns) in
    sym inv ∙ (ap (λ z. left_items fs ls z (drop i ps)) (drop_all i ts h) ∙ (ap (left_items fs ls []) (drop_all i ps k) ∙ none))

-- ---- the record of the lists

-- there are as many contents as items
contents_long : (fs : FieldTrees) (ts : List ℕ) (ps qs : PatternTrees) → content_patterns fs ts ps ≡ Some qs → pattern_count qs ≡ length ts
contents_long fs [] no_patterns qs e = let same : no_patterns ≡ qs = cc in ap pattern_count (sym same)
contents_long fs [] (more_patterns p ps) qs e = cc
contents_long fs (t ∷ ts) no_patterns qs e = cc
contents_long fs (t ∷ ts) (more_patterns p ps) qs e = go (content_pattern (tag_name fs t) p) (content_patterns fs ts ps) (λ r. contents_long fs ts ps r) e
  where
    go : (a : Option PatternTree) (o : Option PatternTrees) → ((r : PatternTrees) → o ≡ Some r → pattern_count r ≡ length ts)
        → option_and_then (λ q. option_map (more_patterns q) o) a ≡ Some qs → pattern_count qs ≡ suc (length ts)
    go None o again e = cc
    go (Some q) None again e = cc
    go (Some q) (Some r) again e =
        let same : more_patterns q r ≡ qs = cc in
        let long = again r refl in
        ap pattern_count (sym same) ∙ omega (arith, long)

-- the list of a tag is as long as the tag is often
one_longer : (b : Bool) (q : PatternTree) (qs : PatternTrees) (n : ℕ) → pattern_count qs ≡ n → pattern_count (if b then more_patterns q qs else qs) ≡ (if b then 1 else 0) + n
one_longer true q qs n e = omega (arith, e)
one_longer false q qs n e = omega (arith, e)

pub at_long : (k : ℕ) (ts : List ℕ) (qs : PatternTrees) → pattern_count qs ≡ length ts → pattern_count (patterns_at k ts qs) ≡ count k ts
at_long k [] qs e = refl
at_long k (t ∷ ts) no_patterns e = absurd (omega arith)
at_long k (t ∷ ts) (more_patterns q qs) e = one_longer (nat_eq t k) q (patterns_at k ts qs) (count k ts) (at_long k ts qs (omega arith))

-- the list of a tag, as it is made
pub list_made : (qs : PatternTrees) (n : ℕ) → pattern_count qs ≡ n → list_of (pattern_list qs) ≡ list_pattern n qs
list_made qs n e = ap (λ z. list_pattern z (patterns_from (pattern_list qs))) (sym (pattern_count-length qs) ∙ e) ∙ ap (list_pattern n) (patterns_from-pattern_list qs)

-- the list at a field, by the number of its tag
abbrev by_number : List ℕ → PatternTrees → Option ℕ → PatternTree
by_number ts qs None = hole
by_number ts qs (Some k) = list_pattern (count k ts) (patterns_at k ts qs)

abbrev by_place : List (List PatternTree) → Option ℕ → PatternTree
by_place ls None = hole
by_place ls (Some k) = list_of (get_or ls k [])

list_is : (fs : FieldTrees) (ts : List ℕ) (qs : PatternTrees) → pattern_count qs ≡ length ts → (n : List ℕ)
    → list_at fs ts qs n ≡ list_at_tag fs (lists_by_tag (tag_count fs) ts qs) n
list_is fs ts qs e n = go (tag_number fs n) refl
  where
    go : (o : Option ℕ) → tag_number fs n ≡ o → by_number ts qs o ≡ by_place (lists_by_tag (tag_count fs) ts qs) o
    go None f = refl
    go (Some k) f =
        let place : 0 + k ≡ k = omega arith in
        sym (list_made (patterns_at k ts qs) (count k ts) (at_long k ts qs e))
        ∙ ap list_of (sym (get_or-map-range_with_len (λ z. pattern_list (patterns_at z ts qs)) 0 (tag_count fs) k k [] (tag-below fs n k f) place))

-- the whole image
pub image_made : (fs gs : FieldTrees) (ts : List ℕ) (p : PatternTree) (ps : PatternTrees) (ls : List (List PatternTree)) (r : PatternTree) → Some ps ≡ patterns_in_list (length ts) p
    → option_map (lists_by_tag (tag_count fs) ts) (content_patterns fs ts ps) ≡ Some ls → r ≡ rec_pattern (patterns_from (map (list_at_tag fs ls) (names_of gs)))
    → Some r ≡ parted_image fs gs ts p
image_made fs gs ts p ps ls r a b c =
    go (content_patterns fs ts ps) refl b ∙ ap (λ o. option_map (λ qs. rec_pattern (in_order gs (list_at fs ts qs))) (option_and_then (content_patterns fs ts) o)) a
  where
    go : (o : Option PatternTrees) → content_patterns fs ts ps ≡ o → option_map (lists_by_tag (tag_count fs) ts) o ≡ Some ls
        → Some r ≡ option_map (λ qs. rec_pattern (in_order gs (list_at fs ts qs))) (content_patterns fs ts ps)
    go None e f = cc
    go (Some qs) e f =
        let same : lists_by_tag (tag_count fs) ts qs ≡ ls = cc in
        let each = in_order-names gs (list_at fs ts qs) (list_at_tag fs ls) (λ n. list_is fs ts qs (contents_long fs ts ps qs e) n ∙ ap (λ z. list_at_tag fs z n) same) in
        ap Some (c ∙ ap rec_pattern (sym each)) ∙ ap (option_map (λ qs. rec_pattern (in_order gs (list_at fs ts qs)))) (sym e)

pub image_not_list : (fs gs : FieldTrees) (ts : List ℕ) (p : PatternTree) → None ≡ patterns_in_list (length ts) p → None ≡ parted_image fs gs ts p
image_not_list fs gs ts p a = ap (λ o. option_map (λ qs. rec_pattern (in_order gs (list_at fs ts qs))) (option_and_then (content_patterns fs ts) o)) a

pub image_not_items : (fs gs : FieldTrees) (ts : List ℕ) (p : PatternTree) (ps : PatternTrees) → Some ps ≡ patterns_in_list (length ts) p → content_patterns fs ts ps ≡ None → None ≡ parted_image fs gs ts p
image_not_items fs gs ts p ps a b =
    ap (option_map (λ qs. rec_pattern (in_order gs (list_at fs ts qs)))) (sym b) ∙ ap (λ o. option_map (λ qs. rec_pattern (in_order gs (list_at fs ts qs))) (option_and_then (content_patterns fs ts) o)) a

-- the patterns in a list of n items are n
pub in_list_long : (n : ℕ) (p : PatternTree) (ps : PatternTrees) → Some ps ≡ patterns_in_list n p → pattern_count ps ≡ n
in_list_long n hole ps e = let same : ps ≡ holes n = cc in ap pattern_count same ∙ count_holes n
in_list_long n (hold_pattern s qs) ps e = go (is_list_of s n) (nat_eq (pattern_count qs) n) refl e
  where
    go : (a b : Bool) → nat_eq (pattern_count qs) n ≡ b → Some ps ≡ cond (a && b) (Some qs) None → pattern_count ps ≡ n
    go true true f g = let same : ps ≡ qs = cc in ap pattern_count same ∙ eqb-true (pattern_count qs) n f
    go true false f g = cc
    go false b f g = cc
in_list_long n unit_pattern ps e = cc
in_list_long n (truth_pattern b) ps e = cc
in_list_long n (int_pattern z) ps e = cc
in_list_long n (text_pattern s) ps e = cc
in_list_long n (pick_pattern m) ps e = cc
in_list_long n (rec_pattern qs) ps e = cc
in_list_long n (alt_pattern m q) ps e = cc

-- ---- sizes

pub with_content_long : (t : ℕ) (q : PatternTree) (ls : List (List PatternTree)) → length (with_content t q ls) ≡ length ls
with_content_long t q [] = refl
with_content_long zero q (l ∷ ls) = refl
with_content_long (suc t) q (l ∷ ls) = ap suc (with_content_long t q ls)

-- before the first item
pub empty_long : {Z : Type 0} (vs : List (Vec Pattern Z)) (c : ℕ) → map trees_in vs ≡ replicate c [] → length vs ≡ c
empty_long vs c e = sym (length-map vs trees_in) ∙ (ap length e ∙ length-replicate c [])

-- after an item
pub pushed_long : {Z : Type 0} (vs : List (Vec Pattern Z)) (ws : List (Vec Pattern Z)) (t : ℕ) (q : PatternTree) → map trees_in ws ≡ with_content t q (map trees_in vs) → length ws ≡ length vs
pushed_long vs ws t q e = sym (length-map ws trees_in) ∙ (ap length e ∙ (with_content_long t q (map trees_in vs) ∙ length-map vs trees_in))

-- the lists of the tags are as many as the tags
pub lists_many : {Z : Type 0} (fs : FieldTrees) (ts : List ℕ) (o : Option PatternTrees) (vs : List (Vec Pattern Z)) → option_map (lists_by_tag (tag_count fs) ts) o ≡ Some (map trees_in vs) → length vs ≡ tag_count fs
lists_many fs ts None vs e = cc
lists_many fs ts (Some qs) vs e =
    let same : lists_by_tag (tag_count fs) ts qs ≡ map trees_in vs = cc in
    sym (length-map vs trees_in) ∙ (ap length (sym same) ∙ length-map-range_with_len (λ k. pattern_list (patterns_at k ts qs)) 0 (tag_count fs))

pub ruleset image_rules = (image_not_list, image_not_items, in_list_long, lists_many)
