-- The names of a partition's tags and of its record's fields.
use Rattle.std.proofs.Common.{◌≡◌, ℕ, zero, suc, ◌+◌, ◌<◌, ◌≤◌, Bool, true, false, List, [], ◌∷◌, ◌++◌, append-nil, append_assoc, length, map, drop, get_or, add-one, refl, ap, sym, ◌∙◌, subst, arith, rules}
use Rattle.std.specs.Prelude.{bytes_eq, if◌then◌else◌}
use Rattle.std.specs.Cmp.{IsStrictWeakOrder}
use Rattle.std.specs.List.Sorted.{IsSortedBy, IsStableBy}
use Rattle.std.proofs.lemmas.Cmp.{nat_list_cmp_total}
use Rattle.std.proofs.lemmas.List.{drop_all}
use Rattle.std.proofs.lemmas.List.Sorted.{ranks_by}
use Rattle.texts.specs.Keys.{is_before}
use Rattle.doc_values.specs.Types.{TyTree, ty_list, FieldTrees, no_fields, more_fields, names_of, type_fields_of, field_tree}
use Rattle.doc_values.specs.declared.ty.Ty.{Ty}
use Rattle.lens_forms.specs.Forms.{insert_field, sorted, lists_of}
use Rattle.lens_types.proofs.StableSort.{put, put_all, sorted_is}
use Rattle.lens_core.specs.Tags.{tag_count}
use Rattle.lens_core.proofs.Tags.{tag_count-length}
use Rattle.law_images.specs.declared.pattern.Pattern.{Pattern, Rec, the_lemmas as pattern_lemmas}
use Rattle.law_images.specs.declared.pattern.Patterns.{Patterns}
use Rattle.law_images.specs.Patterns.{PatternTree, hole, unit_pattern, truth_pattern, int_pattern, text_pattern, pick_pattern, rec_pattern, alt_pattern, hold_pattern, PatternTrees, no_patterns, more_patterns, pattern_count, pattern_list, patterns_from, in_order, pattern_tree, patterns_tree}
use Rattle.law_images.specs.Image.{pattern_at, patterns_by_name}
use Rattle.lens_check.specs.PartLists.{place_of, pattern_named, field_pattern}

-- ---- the names in order

abbrev pub name_before : List ℕ → List ℕ → Bool
name_before m n = is_before m n

pub by_bytes : IsStrictWeakOrder name_before
by_bytes = ranks_by nat_list_cmp_total (λ (n : List ℕ). n)

put_name : (n : List ℕ) (t : TyTree) (fs : FieldTrees) → names_of (insert_field n t fs) ≡ put name_before by_bytes n (names_of fs)
put_name n t no_fields = refl
put_name n t (more_fields m u fs) =
    elim (is_before m n) as (λ b. names_of (if b then more_fields m u (insert_field n t fs) else more_fields n t (more_fields m u fs)) ≡ (if b then m ∷ put name_before by_bytes n (names_of fs) else n ∷ m ∷ names_of fs))
    [ true ↦ ap (λ z. m ∷ z) (put_name n t fs) | false ↦ refl ]

put_names : (fs : FieldTrees) → names_of (sorted (lists_of fs)) ≡ put_all name_before by_bytes (names_of fs)
put_names no_fields = refl
put_names (more_fields n t fs) = put_name n (ty_list t) (sorted (lists_of fs)) ∙ ap (put name_before by_bytes n) (put_names fs)

-- the names of the tags, sorted by a stable sort
pub sorted_names : (fs : FieldTrees) (ms ns : List (List ℕ)) → ms ≡ names_of fs → IsSortedBy name_before ns → IsStableBy name_before ms ns → ns ≡ names_of (sorted (lists_of fs))
sorted_names fs ms ns e up stable = sorted_is name_before by_bytes ms ns up stable ∙ (ap (put_all name_before by_bytes) e ∙ sym (put_names fs))

-- the names that are left behind those read
names_next : (fs : List (List ℕ × Ty)) (i : ℕ) (f : List ℕ × Ty) → i < length fs → f ≡ get_or fs i f
    → names_of (type_fields_of (map field_tree (drop i fs))) ≡ f.0 ∷ names_of (type_fields_of (map field_tree (drop (suc i) fs)))
names_next [] i f h e = absurd (omega arith)
names_next (g ∷ fs) zero f h e = ap (λ (x : List ℕ × Ty). x.0 ∷ names_of (type_fields_of (map field_tree fs))) (sym e)
names_next (g ∷ fs) (suc i) f h e = names_next fs i f (omega arith) e

names_left : (fs : List (List ℕ × Ty)) (i : ℕ) (f : List ℕ × Ty) → i < length fs → f ≡ get_or fs i f
    → names_of (type_fields_of (map field_tree (drop i fs))) ≡ f.0 ∷ names_of (type_fields_of (map field_tree (drop (i + 1) fs)))
names_left fs i f h e = names_next fs i f h e ∙ ap (λ z. f.0 ∷ names_of (type_fields_of (map field_tree (drop z fs)))) (sym (add-one i))

-- ---- a pattern by the name of its field

named_at : (fs : FieldTrees) (ps : PatternTrees) (n : List ℕ) → pattern_at fs ps n ≡ pattern_named (names_of fs) ps n
named_at no_fields no_patterns n = refl
named_at no_fields (more_patterns p ps) n = refl
named_at (more_fields m t fs) no_patterns n = refl
named_at (more_fields m t fs) (more_patterns p ps) n = ap (λ z. if bytes_eq m n then p else z) (named_at fs ps n)

pub by_name : (fs : FieldTrees) (p : PatternTree) (n : List ℕ) → patterns_by_name fs p n ≡ field_pattern (names_of fs) p n
by_name fs hole n = refl
by_name fs unit_pattern n = refl
by_name fs (truth_pattern b) n = refl
by_name fs (int_pattern z) n = refl
by_name fs (text_pattern s) n = refl
by_name fs (pick_pattern m) n = refl
by_name fs (rec_pattern ps) n = named_at fs ps n
by_name fs (alt_pattern m p) n = refl
by_name fs (hold_pattern s ps) n = refl

-- the pattern with a name is that at the name's place, if there is such a name
there_step : (b : Bool) (p : PatternTree) (ps : PatternTrees) (k long : ℕ) (q : PatternTree) → (if b then 0 else suc k) < suc long
    → (k < long → q ≡ get_or (pattern_list ps) k hole) → (if b then p else q) ≡ get_or (p ∷ pattern_list ps) (if b then 0 else suc k) hole
there_step true p ps k long q h again = refl
there_step false p ps k long q h again = again (omega arith)

pub named_there : (ms : List (List ℕ)) (ps : PatternTrees) (n : List ℕ) → place_of n ms < length ms → pattern_named ms ps n ≡ get_or (pattern_list ps) (place_of n ms) hole
named_there [] ps n h = absurd (omega arith)
named_there (m ∷ ms) no_patterns n h = refl
named_there (m ∷ ms) (more_patterns p ps) n h =
    there_step (bytes_eq m n) p ps (place_of n ms) (length ms) (pattern_named ms ps n) h (λ l. named_there ms ps n l)

-- a hole if there is no such name
nowhere_step : (b : Bool) (p : PatternTree) (k long : ℕ) (q : PatternTree) → suc long ≤ (if b then 0 else suc k) → (long ≤ k → q ≡ hole) → (if b then p else q) ≡ hole
nowhere_step true p k long q h again = absurd (omega arith)
nowhere_step false p k long q h again = again (omega arith)

pub named_nowhere : (ms : List (List ℕ)) (ps : PatternTrees) (n : List ℕ) → length ms ≤ place_of n ms → pattern_named ms ps n ≡ hole
named_nowhere [] ps n h = refl
named_nowhere (m ∷ ms) no_patterns n h = refl
named_nowhere (m ∷ ms) (more_patterns p ps) n h =
    nowhere_step (bytes_eq m n) p (place_of n ms) (length ms) (pattern_named ms ps n) h (λ l. named_nowhere ms ps n l)

-- or no pattern at its place
pub past_end : (ps : PatternTrees) (i : ℕ) → pattern_count ps ≤ i → get_or (pattern_list ps) i hole ≡ hole
past_end no_patterns i h = refl
past_end (more_patterns p ps) zero h = absurd (omega arith)
past_end (more_patterns p ps) (suc i) h = past_end ps i (omega arith)

pub named_past : (ms : List (List ℕ)) (ps : PatternTrees) (n : List ℕ) → place_of n ms < length ms → pattern_count ps ≤ place_of n ms → pattern_named ms ps n ≡ hole
named_past ms ps n h k = named_there ms ps n h ∙ past_end ps (place_of n ms) k

pub tree_of_record : (ps : Patterns) → pattern_tree (Rec ps) ≡ rec_pattern (patterns_tree ps)
tree_of_record ps = search (rules, pattern_lemmas)

of_record : (ms : List (List ℕ)) (q : Pattern) (ps : Patterns) (n : List ℕ) → q ≡ Rec ps → pattern_named ms (patterns_tree ps) n ≡ field_pattern ms (pattern_tree q) n
of_record ms q ps n is = ap (λ z. field_pattern ms z n) (sym (ap pattern_tree is ∙ tree_of_record ps))

-- the pattern at the field of a record, by the name's place
pub field_there : (ms : List (List ℕ)) (q : Pattern) (ps : Patterns) (n : List ℕ) (i : ℕ) (p : PatternTree) → q ≡ Rec ps → i ≡ place_of n ms → i < length ms
    → p ≡ get_or (pattern_list (patterns_tree ps)) i hole → p ≡ field_pattern ms (pattern_tree q) n
field_there ms q ps n i p is e h made =
    made
    ∙ (ap (λ z. get_or (pattern_list (patterns_tree ps)) z hole) e
    ∙ (sym (named_there ms (patterns_tree ps) n (subst (λ z. z < length ms) e h)) ∙ of_record ms q ps n is))

pub field_nowhere : (ms : List (List ℕ)) (q : Pattern) (ps : Patterns) (n : List ℕ) (i : ℕ) → q ≡ Rec ps → i ≡ place_of n ms → length ms ≤ i → hole ≡ field_pattern ms (pattern_tree q) n
field_nowhere ms q ps n i is e h =
    sym (named_nowhere ms (patterns_tree ps) n (subst (λ z. length ms ≤ z) e h)) ∙ of_record ms q ps n is

pub field_past : (ms : List (List ℕ)) (q : Pattern) (ps : Patterns) (n : List ℕ) (i : ℕ) → q ≡ Rec ps → i ≡ place_of n ms → i < length ms
    → pattern_count (patterns_tree ps) ≤ i → hole ≡ field_pattern ms (pattern_tree q) n
field_past ms q ps n i is e h k =
    sym (named_past ms (patterns_tree ps) n (subst (λ z. z < length ms) e h) (subst (λ z. pattern_count (patterns_tree ps) ≤ z) e k)) ∙ of_record ms q ps n is

-- ---- tags by their numbers

-- there are as many tags as fields in the slice
pub count_is : (fs : List (List ℕ × Ty)) (tree : FieldTrees) → type_fields_of (map field_tree fs) ≡ tree → length fs ≡ tag_count tree
count_is fs tree e = sym (tag_count-length fs) ∙ ap tag_count e

-- ---- fields in order

-- the patterns by the names of the fields
pub in_order-names : (fs : FieldTrees) (at at' : List ℕ → PatternTree) → ((n : List ℕ) → at n ≡ at' n) → in_order fs at ≡ patterns_from (map at' (names_of fs))
in_order-names no_fields at at' h = refl
in_order-names (more_fields n t fs) at at' h = ap (λ z. more_patterns z (in_order fs at)) (h n) ∙ ap (more_patterns (at' n)) (in_order-names fs at at' h)

-- ---- loops over names

-- the place among the names that are left
place_next : (ns : List (List ℕ)) (i : ℕ) (m n : List ℕ) (whole : ℕ) → i < length ns → m ≡ get_or ns i m → bytes_eq m n ≡ false
    → i + place_of n (drop i ns) ≡ whole → i + 1 + place_of n (drop (suc i) ns) ≡ whole
place_next [] i m n whole h e f inv = absurd (omega arith)
place_next (x ∷ ns) zero m n whole h e f inv =
    let same : bytes_eq x n ≡ false = ap (λ z. bytes_eq z n) (sym e) ∙ f in
    let step : (if bytes_eq x n then 0 else suc (place_of n ns)) ≡ suc (place_of n ns) = ap (λ b. if b then 0 else suc (place_of n ns)) same in
    omega (arith, inv, step)
place_next (x ∷ ns) (suc i) m n zero h e f inv = absurd (omega arith)
place_next (x ∷ ns) (suc i) m n (suc whole) h e f inv =
    let again = place_next ns i m n whole (omega arith) e f (omega (arith, inv)) in
    omega (arith, again)

pub place_kept : (ns : List (List ℕ)) (i : ℕ) (m n : List ℕ) (whole : ℕ) → i < length ns → m ≡ get_or ns i m → bytes_eq m n ≡ false
    → i + place_of n (drop i ns) ≡ whole → i + 1 + place_of n (drop (i + 1) ns) ≡ whole
place_kept ns i m n whole h e f inv = ap (λ z. i + 1 + place_of n (drop z ns)) (add-one i) ∙ place_next ns i m n whole h e f inv

pub place_found : (ns : List (List ℕ)) (i : ℕ) (m n : List ℕ) (whole : ℕ) → i < length ns → m ≡ get_or ns i m → bytes_eq m n ≡ true
    → i + place_of n (drop i ns) ≡ whole → i ≡ whole
place_found [] i m n whole h e f inv = absurd (omega arith)
place_found (x ∷ ns) zero m n whole h e f inv =
    let same : bytes_eq x n ≡ true = ap (λ z. bytes_eq z n) (sym e) ∙ f in
    let step : (if bytes_eq x n then 0 else suc (place_of n ns)) ≡ 0 = ap (λ b. if b then 0 else suc (place_of n ns)) same in
    omega (arith, inv, step)
place_found (x ∷ ns) (suc i) m n zero h e f inv = absurd (omega arith)
place_found (x ∷ ns) (suc i) m n (suc whole) h e f inv = ap suc (place_found ns i m n whole (omega arith) e f (omega (arith, inv)))

pub place_none : (ns : List (List ℕ)) (i : ℕ) (n : List ℕ) (whole : ℕ) → length ns ≤ i → i ≤ length ns → i + place_of n (drop i ns) ≡ whole → length ns ≡ whole
place_none ns i n whole h k inv =
    let none : place_of n (drop i ns) ≡ 0 = ap (place_of n) (drop_all i ns h) in
    omega (arith, none, inv)

pub ruleset place_rules = (place_kept, place_found, place_none)

pub names_end : (fs : List (List ℕ × Ty)) (i : ℕ) (done whole : List (List ℕ)) → length fs ≤ i → done ++ names_of (type_fields_of (map field_tree (drop i fs))) ≡ whole → done ≡ whole
names_end fs i done whole h inv =
    sym (append-nil done) ∙ (ap (λ z. done ++ names_of (type_fields_of (map field_tree z))) (sym (drop_all i fs h)) ∙ inv)

pub names_kept : (fs : List (List ℕ × Ty)) (i : ℕ) (f : List ℕ × Ty) (done done' whole : List (List ℕ)) → i < length fs → f ≡ get_or fs i f → done' ≡ done ++ f.0 ∷ []
    → done ++ names_of (type_fields_of (map field_tree (drop i fs))) ≡ whole → done' ++ names_of (type_fields_of (map field_tree (drop (i + 1) fs))) ≡ whole
names_kept fs i f done done' whole h e g inv =
    ap (λ z. z ++ names_of (type_fields_of (map field_tree (drop (i + 1) fs)))) g
    ∙ (append_assoc done (f.0 ∷ []) (names_of (type_fields_of (map field_tree (drop (i + 1) fs))))
    ∙ (ap (λ z. done ++ z) (sym (names_left fs i f h e)) ∙ inv))

pub ruleset names_rules = (names_end, names_kept)
