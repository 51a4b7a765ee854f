-- The items of a partition, each with the next content of its tag's list.
use Rattle.std.proofs.Common.{◌≡◌, ℕ, zero, suc, ◌+◌, ◌<◌, ◌≤◌, Bool, true, false, List, [], ◌∷◌, ◌++◌, append-nil, append_assoc, replicate, length, map, drop, get_or, add-one, Option, Some, None, option_map, refl, ap, sym, ◌∙◌, arith}
use Rattle.std.specs.Prelude.{slice_index, nat_eq, if◌then◌else◌, option_and_then}
use Rattle.std.specs.List.{range_with_len}
use Rattle.std.proofs.lemmas.Bool.{eq-eqb, ne_eqb, eqb-true}
use Rattle.std.proofs.lemmas.List.{drop_all, get_or-map, map-append}
use Rattle.std.proofs.lemmas.List.FromFn.{length-map-range_with_len, map-range_with_len_more}
use Rattle.doc_values.specs.Types.{FieldTrees, no_fields, more_fields, type_fields_of, field_tree, names_of}
use Rattle.doc_values.specs.declared.ty.Ty.{Ty}
use Rattle.tag_seq.specs.Tags.{count, rank}
use Rattle.lens_forms.specs.Forms.{sorted, lists_of}
use Rattle.lens_core.specs.Tags.{tag_count, tag_name}
use Rattle.lens_core.proofs.Tags.{tag_name-at}
use Rattle.law_images.specs.declared.pattern.Pattern.{Pattern}
use Rattle.law_images.specs.declared.pattern.Patterns.{Patterns}
use Rattle.law_images.specs.Patterns.{PatternTree, hole, alt_pattern, PatternTrees, no_patterns, more_patterns, patterns_from, pattern_list, pattern_tree, patterns_tree}
use Rattle.law_images.specs.PartImage.{list_pattern, patterns_in_list, list_patterns, holes, first_pattern, other_patterns, dealt, item_patterns, joined_image}
use Rattle.law_images.specs.Image.{patterns_by_name}
use Rattle.lens_check.specs.PartLists.{trees_of, list_of, field_pattern, tag_lists, item_at}
use Rattle.lens_check.proofs.PartNames.{by_name}

-- ---- the lists, as a function and as a list

-- the list of the number j, the first number being k
abbrev pub lists_from : ℕ → List PatternTrees → ℕ → PatternTrees
lists_from k [] j = no_patterns
lists_from k (ps ∷ rest) j = if nat_eq k j then ps else lists_from (k + 1) rest j

lists_same : (fs : FieldTrees) (k : ℕ) (ts : List ℕ) (at : List ℕ → PatternTree) → list_patterns fs k ts at ≡ option_map (lists_from k) (tag_lists fs k ts at)
lists_same no_fields k ts at = refl
lists_same (more_fields n t fs) k ts at = go (patterns_in_list (count k ts) (at n)) (tag_lists fs (k + 1) ts at) (lists_same fs (k + 1) ts at)
  where
    go : (o : Option PatternTrees) (r : Option (List PatternTrees)) → list_patterns fs (k + 1) ts at ≡ option_map (lists_from (k + 1)) r
        → option_and_then (λ ps. option_map (λ others j. if nat_eq k j then ps else others j) (list_patterns fs (k + 1) ts at)) o
        ≡ option_map (lists_from k) (option_and_then (λ ps. option_map (λ rest. ps ∷ rest) r) o)
    go None r e = refl
    go (Some ps) None e = ap (option_map (λ others j. if nat_eq k j then ps else others j)) e
    go (Some ps) (Some rest) e = ap (option_map (λ others j. if nat_eq k j then ps else others j)) e

list_found : (lists : List PatternTrees) (k j : ℕ) → lists_from k lists (k + j) ≡ get_or lists j no_patterns
list_found [] k j = refl
list_found (ps ∷ rest) k zero =
    let none : k ≡ k + 0 = omega arith in
    ap (λ b. if b then ps else lists_from (k + 1) rest (k + 0)) (eq-eqb k (k + 0) none)
list_found (ps ∷ rest) k (suc j) =
    let next : k + suc j ≡ k + 1 + j = omega arith in
    let apart : k ≡ k + suc j → ⊥ = λ e. omega (arith, e) in
    ap (λ b. if b then ps else lists_from (k + 1) rest (k + suc j)) (ne_eqb k (k + suc j) apart)
    ∙ (ap (lists_from (k + 1) rest) next ∙ list_found rest (k + 1) j)

-- ---- the items, one place after another

-- the pattern at a place of a list
abbrev nth : PatternTrees → ℕ → PatternTree
nth ps i = get_or (pattern_list ps) i hole

nth_first : (ps : PatternTrees) → nth ps 0 ≡ first_pattern ps
nth_first no_patterns = refl
nth_first (more_patterns p ps) = refl

nth_other : (ps : PatternTrees) (i : ℕ) → nth ps (suc i) ≡ nth (other_patterns ps) i
nth_other no_patterns i = refl
nth_other (more_patterns p ps) i = refl

-- the content of the item at a place, of lists as a function
abbrev dealt_at : List ℕ → (ℕ → PatternTrees) → ℕ → PatternTree
dealt_at ts lists i = nth (lists (slice_index ts i)) (rank (slice_index ts i) i ts)

dealt_next : (t : ℕ) (ts : List ℕ) (lists : ℕ → PatternTrees) (i : ℕ)
    → dealt_at (t ∷ ts) lists (suc i) ≡ dealt_at ts (λ k. if nat_eq t k then other_patterns (lists t) else lists k) i
dealt_next t ts lists i = go (nat_eq t (slice_index ts i)) refl
  where
    go : (b : Bool) → nat_eq t (slice_index ts i) ≡ b
        → nth (lists (slice_index ts i)) ((if b then 1 else 0) + rank (slice_index ts i) i ts)
        ≡ nth (if b then other_patterns (lists t) else lists (slice_index ts i)) (rank (slice_index ts i) i ts)
    go true e =
        let same : t ≡ slice_index ts i = eqb-true t (slice_index ts i) e in
        let more : 1 + rank (slice_index ts i) i ts ≡ suc (rank (slice_index ts i) i ts) = omega arith in
        ap (nth (lists (slice_index ts i))) more
        ∙ (nth_other (lists (slice_index ts i)) (rank (slice_index ts i) i ts)
        ∙ ap (λ z. nth (other_patterns (lists z)) (rank (slice_index ts i) i ts)) (sym same))
    go false e =
        let none : 0 + rank (slice_index ts i) i ts ≡ rank (slice_index ts i) i ts = omega arith in
        ap (nth (lists (slice_index ts i))) none

items_same : (fs : FieldTrees) (ts : List ℕ) (lists : ℕ → PatternTrees) (m : ℕ) (item : ℕ → PatternTree)
    → ((j : ℕ) → j < length ts → item (m + j) ≡ alt_pattern (tag_name fs (slice_index ts j)) (dealt_at ts lists j))
    → item_patterns fs ts (dealt ts lists) ≡ patterns_from (map item (range_with_len m (length ts)))
items_same fs [] lists m item h = refl
items_same fs (t ∷ ts) lists m item h =
    let others : ℕ → PatternTrees = λ k. if nat_eq t k then other_patterns (lists t) else lists k in
    let none : m + 0 ≡ m = omega arith in
    let here : alt_pattern (tag_name fs t) (first_pattern (lists t)) ≡ item m =
    ap (alt_pattern (tag_name fs t)) (sym (nth_first (lists t))) ∙ (sym (h 0 (omega arith)) ∙ ap item none) in
    ap (λ z. more_patterns z (item_patterns fs ts (dealt ts others))) here
    ∙ ap (more_patterns (item m)) (items_same fs ts others (m + 1) item (λ j l. next j l))
  where
    next : (j : ℕ) → j < length ts → item (m + 1 + j) ≡ alt_pattern (tag_name fs (slice_index ts j)) (dealt_at ts (λ k. if nat_eq t k then other_patterns (lists t) else lists k) j)
    next j l =
        let place : m + 1 + j ≡ m + suc j = omega arith in
        ap item place ∙ (h (suc j) (omega arith) ∙ ap (alt_pattern (tag_name fs (slice_index ts j))) (dealt_next t ts lists j))

list_first : (lists : List PatternTrees) (j : ℕ) → get_or lists j no_patterns ≡ lists_from 0 lists j
list_first lists j =
    let place : 0 + j ≡ j = omega arith in
    sym (list_found lists 0 j) ∙ ap (lists_from 0 lists) place

-- the items of these lists
pub items_made : (fs : FieldTrees) (ts : List ℕ) (lists : List PatternTrees)
    → item_patterns fs ts (dealt ts (lists_from 0 lists)) ≡ patterns_from (map (item_at fs ts lists) (range_with_len 0 (length ts)))
items_made fs ts lists = items_same fs ts (lists_from 0 lists) 0 (item_at fs ts lists) each
  where
    each : (j : ℕ) → j < length ts → item_at fs ts lists (0 + j) ≡ alt_pattern (tag_name fs (slice_index ts j)) (dealt_at ts (lists_from 0 lists) j)
    each j l =
        let place : 0 + j ≡ j = omega arith in
        ap (item_at fs ts lists) place ∙ ap (λ z. alt_pattern (tag_name fs (slice_index ts j)) (nth z (rank (slice_index ts j) j ts))) (list_first lists (slice_index ts j))

-- an item, by what is read of its tag and of its tag's list
pub item_made : (fs : List (List ℕ × Ty)) (ts : List ℕ) (qs : List Patterns) (i t k : ℕ) (f : List ℕ × Ty) (q : Patterns) (n : List ℕ) (p : PatternTree) → t ≡ slice_index ts i → k ≡ rank t i ts
    → t < length fs → t < length qs → f ≡ get_or fs t f → q ≡ get_or qs t q → n ≡ (get_or fs t f).0 → p ≡ get_or (trees_of q) k hole
    → alt_pattern n p ≡ item_at (type_fields_of (map field_tree fs)) ts (map patterns_tree qs) i
item_made fs ts qs i t k f q n p e r hf hq isf isq named content =
    let tree = type_fields_of (map field_tree fs) in
    let lists = map patterns_tree qs in
    let name : n ≡ tag_name tree (slice_index ts i) = named ∙ (ap (λ (x : List ℕ × Ty). x.0) (sym isf) ∙ (sym (tag_name-at fs t f hf isf) ∙ ap (tag_name tree) e)) in
    let list : patterns_tree q ≡ get_or lists (slice_index ts i) no_patterns =
    ap patterns_tree isq ∙ (sym (get_or-map patterns_tree qs t q no_patterns hq) ∙ ap (λ z. get_or lists z no_patterns) e) in
    let place : k ≡ rank (slice_index ts i) i ts = r ∙ ap (λ z. rank z i ts) e in
    ap (λ z. alt_pattern z p) name
    ∙ ap (alt_pattern (tag_name tree (slice_index ts i)))
    (content
    ∙ (ap (λ z. get_or (pattern_list z) k hole) list
    ∙ ap (λ z. get_or (pattern_list (get_or lists (slice_index ts i) no_patterns)) z hole) place))

-- one item more
pub items_kept : (item : ℕ → PatternTree) (i : ℕ) (done done' : List Pattern) (p : Pattern) → pattern_tree p ≡ item i → done' ≡ done ++ p ∷ []
    → map pattern_tree done ≡ map item (range_with_len 0 i) → map pattern_tree done' ≡ map item (range_with_len 0 (i + 1))
items_kept item i done done' p made pushed inv =
    let place : 0 + i ≡ i = omega arith in
    ap (map pattern_tree) pushed
    ∙ (map-append pattern_tree done (p ∷ [])
    ∙ (ap (λ z. z ++ pattern_tree p ∷ []) inv
    ∙ (ap (λ z. map item (range_with_len 0 i) ++ z ∷ []) made ∙ sym (map-range_with_len_more item 0 i i place))))

-- ---- the whole image

pub joined_made : (fs : FieldTrees) (at : List ℕ → PatternTree) (ts : List ℕ) (lists : List PatternTrees) (r : PatternTree) → tag_lists fs 0 ts at ≡ Some lists
    → r ≡ list_of (map (item_at fs ts lists) (range_with_len 0 (length ts))) → Some r ≡ joined_image fs at ts
joined_made fs at ts lists r e f =
    let made = lists_same fs 0 ts at ∙ ap (option_map (lists_from 0)) e in
    let items = map (item_at fs ts lists) (range_with_len 0 (length ts)) in
    let long : length items ≡ length ts = length-map-range_with_len (item_at fs ts lists) 0 (length ts) in
    let list : r ≡ list_pattern (length ts) (item_patterns fs ts (dealt ts (lists_from 0 lists))) =
    f ∙ (ap (λ z. list_pattern z (patterns_from items)) long ∙ ap (list_pattern (length ts)) (sym (items_made fs ts lists))) in
    ap Some list ∙ ap (option_map (λ lists. list_pattern (length ts) (item_patterns fs ts (dealt ts lists)))) (sym made)

pub joined_none : (fs : FieldTrees) (at : List ℕ → PatternTree) (ts : List ℕ) → tag_lists fs 0 ts at ≡ None → None ≡ joined_image fs at ts
joined_none fs at ts e =
    ap (option_map (λ lists. list_pattern (length ts) (item_patterns fs ts (dealt ts lists)))) (sym (lists_same fs 0 ts at ∙ ap (option_map (lists_from 0)) e))

-- the patterns of the fields, by the names in order
at_same : (fs : FieldTrees) (k : ℕ) (ts : List ℕ) (at at' : List ℕ → PatternTree) → ((n : List ℕ) → at n ≡ at' n) → list_patterns fs k ts at ≡ list_patterns fs k ts at'
at_same no_fields k ts at at' h = refl
at_same (more_fields n t fs) k ts at at' h =
    ap (λ z. option_and_then (λ ps. option_map (λ others j. if nat_eq k j then ps else others j) z) (patterns_in_list (count k ts) (at n))) (at_same fs (k + 1) ts at at' h)
    ∙ ap (λ z. option_and_then (λ ps. option_map (λ others j. if nat_eq k j then ps else others j) (list_patterns fs (k + 1) ts at')) (patterns_in_list (count k ts) z)) (h n)

pub same_image : (fs : FieldTrees) (p : PatternTree) (ts : List ℕ)
    → joined_image fs (field_pattern (names_of (sorted (lists_of fs))) p) ts ≡ joined_image fs (patterns_by_name (sorted (lists_of fs)) p) ts
same_image fs p ts =
    ap (option_map (λ lists. list_pattern (length ts) (item_patterns fs ts (dealt ts lists))))
    (at_same fs 0 ts (field_pattern (names_of (sorted (lists_of fs))) p) (patterns_by_name (sorted (lists_of fs)) p) (λ n. sym (by_name (sorted (lists_of fs)) p n)))

pub image_joined : (fs : FieldTrees) (p : PatternTree) (ts : List ℕ) (lists : List PatternTrees) (r : PatternTree) → tag_lists fs 0 ts (field_pattern (names_of (sorted (lists_of fs))) p) ≡ Some lists
    → r ≡ list_of (map (item_at fs ts lists) (range_with_len 0 (length ts))) → Some r ≡ joined_image fs (patterns_by_name (sorted (lists_of fs)) p) ts
image_joined fs p ts lists r e f = joined_made fs (field_pattern (names_of (sorted (lists_of fs))) p) ts lists r e f ∙ same_image fs p ts

pub image_none : (fs : FieldTrees) (p : PatternTree) (ts : List ℕ) → tag_lists fs 0 ts (field_pattern (names_of (sorted (lists_of fs))) p) ≡ None
    → None ≡ joined_image fs (patterns_by_name (sorted (lists_of fs)) p) ts
image_none fs p ts e = joined_none fs (field_pattern (names_of (sorted (lists_of fs))) p) ts e ∙ same_image fs p ts

-- there are as many lists as tags
pub lists_long : (fs : FieldTrees) (k : ℕ) (ts : List ℕ) (at : List ℕ → PatternTree) (lists : List PatternTrees) → tag_lists fs k ts at ≡ Some lists → length lists ≡ tag_count fs
lists_long no_fields k ts at lists e = let same : [] ≡ lists = cc in ap length (sym same)
lists_long (more_fields n t fs) k ts at lists e = go (patterns_in_list (count k ts) (at n)) (tag_lists fs (k + 1) ts at) (λ rest f. lists_long fs (k + 1) ts at rest f) e
  where
    go : (o : Option PatternTrees) (r : Option (List PatternTrees)) → ((rest : List PatternTrees) → r ≡ Some rest → length rest ≡ tag_count fs)
        → option_and_then (λ ps. option_map (λ rest. ps ∷ rest) r) o ≡ Some lists → length lists ≡ tag_count fs + 1
    go None r again f = cc
    go (Some ps) None again f = cc
    go (Some ps) (Some rest) again f =
        let same : ps ∷ rest ≡ lists = cc in
        let long = again rest refl in
        ap length (sym same) ∙ omega (arith, long)

-- ---- the loop over the tags

abbrev pub lists_behind : List PatternTrees → Option (List PatternTrees) → Option (List PatternTrees)
lists_behind done o = option_map (λ rest. done ++ rest) o

-- what becomes of the lists by the tags that are left
abbrev pub left_tags : List PatternTrees → List (List ℕ × Ty) → ℕ → List ℕ → (List ℕ → PatternTree) → Option (List PatternTrees)
left_tags done fs k ts at = lists_behind done (tag_lists (type_fields_of (map field_tree fs)) k ts at)

behind_nothing : (o : Option (List PatternTrees)) → lists_behind [] o ≡ o
behind_nothing None = refl
behind_nothing (Some ls) = refl

pub tags_start : (fs : List (List ℕ × Ty)) (tree : FieldTrees) (ts : List ℕ) (at : List ℕ → PatternTree) → type_fields_of (map field_tree fs) ≡ tree
    → left_tags [] fs 0 ts at ≡ tag_lists tree 0 ts at
tags_start fs tree ts at e = behind_nothing (tag_lists (type_fields_of (map field_tree fs)) 0 ts at) ∙ ap (λ z. tag_lists z 0 ts at) e

next_tag : (fs : List (List ℕ × Ty)) (i : ℕ) (f : List ℕ × Ty) (k : ℕ) (ts : List ℕ) (at : List ℕ → PatternTree) → i < length fs → f ≡ get_or fs i f
    → tag_lists (type_fields_of (map field_tree (drop i fs))) k ts at
    ≡ option_and_then (λ ps. option_map (λ rest. ps ∷ rest) (tag_lists (type_fields_of (map field_tree (drop (suc i) fs))) (k + 1) ts at)) (patterns_in_list (count k ts) (at f.0))
next_tag [] i f k ts at h e = absurd (omega arith)
next_tag (g ∷ fs) zero f k ts at h e =
    ap (λ (x : List ℕ × Ty). option_and_then (λ ps. option_map (λ rest. ps ∷ rest) (tag_lists (type_fields_of (map field_tree fs)) (k + 1) ts at)) (patterns_in_list (count k ts) (at x.0))) (sym e)
next_tag (g ∷ fs) (suc i) f k ts at h e = next_tag fs i f k ts at (omega arith) e

tags_step : (fs : List (List ℕ × Ty)) (i : ℕ) (f : List ℕ × Ty) (ts : List ℕ) (at : List ℕ → PatternTree) → i < length fs → f ≡ get_or fs i f
    → tag_lists (type_fields_of (map field_tree (drop i fs))) i ts at
    ≡ option_and_then (λ ps. option_map (λ rest. ps ∷ rest) (tag_lists (type_fields_of (map field_tree (drop (i + 1) fs))) (i + 1) ts at)) (patterns_in_list (count i ts) (at f.0))
tags_step fs i f ts at h e =
    next_tag fs i f i ts at h e
    ∙ ap (λ z. option_and_then (λ ps. option_map (λ rest. ps ∷ rest) (tag_lists (type_fields_of (map field_tree (drop z fs))) (i + 1) ts at)) (patterns_in_list (count i ts) (at f.0))) (sym (add-one i))

behind_more : (done : List PatternTrees) (ps : PatternTrees) (o : Option (List PatternTrees)) → lists_behind (done ++ ps ∷ []) o ≡ lists_behind done (option_map (λ rest. ps ∷ rest) o)
behind_more done ps None = refl
behind_more done ps (Some ls) = ap Some (append_assoc done (ps ∷ []) ls)

pub tags_kept : (fs : List (List ℕ × Ty)) (i : ℕ) (f : List ℕ × Ty) (ts : List ℕ) (at : List ℕ → PatternTree) (done done' : List PatternTrees) (ps : PatternTrees) (whole : Option (List PatternTrees))
    → i < length fs → f ≡ get_or fs i f → Some ps ≡ patterns_in_list (count i ts) (at f.0) → done' ≡ done ++ ps ∷ []
    → left_tags done (drop i fs) i ts at ≡ whole → left_tags done' (drop (i + 1) fs) (i + 1) ts at ≡ whole
tags_kept fs i f ts at done done' ps whole h e g q inv =
    let rest = tag_lists (type_fields_of (map field_tree (drop (i + 1) fs))) (i + 1) ts at in
    let step : tag_lists (type_fields_of (map field_tree (drop i fs))) i ts at ≡ option_map (λ rest. ps ∷ rest) rest =
    tags_step fs i f ts at h e ∙ ap (option_and_then (λ ps. option_map (λ rest. ps ∷ rest) rest)) (sym g) in
    ap (λ z. lists_behind z rest) q ∙ (behind_more done ps rest ∙ (ap (lists_behind done) (sym step) ∙ inv))

none_behind : (done : List PatternTrees) (o : Option (List PatternTrees)) → o ≡ None → lists_behind done o ≡ None
none_behind done o e = ap (lists_behind done) e

pub tags_none : (fs : List (List ℕ × Ty)) (i : ℕ) (f : List ℕ × Ty) (ts : List ℕ) (at : List ℕ → PatternTree) (done : List PatternTrees) (whole : Option (List PatternTrees))
    → i < length fs → f ≡ get_or fs i f → None ≡ patterns_in_list (count i ts) (at f.0)
    → left_tags done (drop i fs) i ts at ≡ whole → whole ≡ None
tags_none fs i f ts at done whole h e g inv =
    let rest = tag_lists (type_fields_of (map field_tree (drop (i + 1) fs))) (i + 1) ts at in
    sym inv ∙ none_behind done _ (tags_step fs i f ts at h e ∙ ap (option_and_then (λ ps. option_map (λ rest. ps ∷ rest) rest)) (sym g))

pub tags_end : (fs : List (List ℕ × Ty)) (i : ℕ) (ts : List ℕ) (at : List ℕ → PatternTree) (done : List PatternTrees) (whole : Option (List PatternTrees)) → length fs ≤ i
    → left_tags done (drop i fs) i ts at ≡ whole → whole ≡ Some done
tags_end fs i ts at done whole h inv =
    let nothing : left_tags done [] i ts at ≡ Some done = ap Some (append-nil done) in
    sym inv ∙ (ap (λ z. left_tags done z i ts at) (drop_all i fs h) ∙ nothing)

-- ---- holes

pub holes_made : (n : ℕ) → patterns_from (replicate n hole) ≡ holes n
holes_made zero = refl
holes_made (suc n) = ap (more_patterns hole) (holes_made n)

pub ruleset hole_rules = (holes_made)

pub ruleset loop_rules = (tags_start, tags_kept, tags_none, tags_end)

pub ruleset image_rules = (image_none)
