-- Loops that write contents one after another.
use Rattle.std.proofs.Math.Seq.{take-suc}
use Rattle.std.proofs.lemmas.List.{map-append}
use Rattle.std.proofs.lemmas.Cmp.{nat_list_cmp_total}
use Rattle.std.proofs.Common.{◌≡◌, ℕ, zero, suc, ◌+◌, add-one, ◌<◌, true, List, [], ◌∷◌, ◌++◌, map, take, length, get_or, Greater, Some, option_map, refl, sym, ap, ◌∙◌, arith}
use Rattle.std.specs.Ordering.{nat_cmp, ordering_reverse}
use Rattle.std.specs.Cmp.Lexicographic.{slice_cmp}
use Rattle.texts.specs.Keys.{is_before, is_rising}
use Rattle.serde_json.specs.Data.{Data, object, item, Members, no_members, member, put}
use Rattle.serde_json.specs.View.{items_of}
use Rattle.doc_values.specs.Documents.{DocTree, unit, alt, docs_of}
use Rattle.doc_values.specs.Types.{TyTree, ty_alt, FieldTrees, type_fields_of, field_tree, ty_tree, names_of, is_well_formed, are_well_formed}
use Rattle.doc_values.specs.Typing.{has, has_fields, has_each, lookup_type, lookup_field}
use Rattle.doc_values.specs.declared.ty.Ty.{Ty}
use Rattle.value_json.specs.Numbers.{count_tree, count_items}
use Rattle.value_json.specs.DocumentJson.{tree_of_document, field_members, key_members, content_items, holds_i64s, all_hold_i64s}
use Rattle.texts.proofs.Conjunction.{both, first as left, second as right}
use Rattle.texts.proofs.KeyOrder.{after-all, rising-first, rising-rest, is_less}

-- ---- names in byte order

after : (x y : List ℕ) → is_before x y ≡ true → slice_cmp nat_cmp y x ≡ Greater
after x y h = nat_list_cmp_total.antisymm y x ∙ ap ordering_reverse (is_less (slice_cmp nat_cmp x y) h)

-- each later name stands after the first
pub above : (x : List ℕ) (ns : List (List ℕ)) (i : ℕ) (n : List ℕ) → i < length ns → is_rising (x ∷ ns) ≡ true → slice_cmp nat_cmp (get_or ns i n) x ≡ Greater
above x ns i n h rising = after x (get_or ns i n) (after-all x ns i n (rising-first x ns rising) (rising-rest x ns rising) h)

name_at : (fs : List (List ℕ × Ty)) (i : ℕ) (f : List ℕ × Ty) (n : List ℕ) → i < length fs → get_or (names_of (type_fields_of (map field_tree fs))) i n ≡ (get_or fs i f).0
name_at [] i f n h = absurd (omega arith)
name_at (x ∷ fs) zero f n h = refl
name_at (x ∷ fs) (suc i) f n h = name_at fs i f n (omega arith)

names_length : (fs : List (List ℕ × Ty)) → length (names_of (type_fields_of (map field_tree fs))) ≡ length fs
names_length [] = refl
names_length (x ∷ fs) = ap suc (names_length fs)

-- ---- one more member

pub put_at : (k l : List ℕ) (d e : Data) (ms rest : Members) → slice_cmp nat_cmp k l ≡ Greater → put k d ms ≡ rest → put k d (member l e ms) ≡ member l e rest
put_at k l d e ms rest later is = rw (later, is) refl

put_field_at : (fs : List (List ℕ × Ty)) (ds : List DocTree) (i : ℕ) (f : List ℕ × Ty) (d : DocTree) → i < length fs → i < length ds → is_rising (names_of (type_fields_of (map field_tree fs))) ≡ true
    → put (get_or fs i f).0 (tree_of_document (ty_tree (get_or fs i f).1) (get_or ds i d)) (field_members (type_fields_of (map field_tree (take i fs))) (docs_of (take i ds)))
    ≡ field_members (type_fields_of (map field_tree (take (suc i) fs))) (docs_of (take (suc i) ds))
put_field_at [] ds i f d h k rising = absurd (omega arith)
put_field_at (x ∷ fs) [] i f d h k rising = absurd (omega arith)
put_field_at (x ∷ fs) (y ∷ ds) zero f d h k rising = refl
put_field_at (x ∷ fs) (y ∷ ds) (suc i) f d h k rising =
    let names = names_of (type_fields_of (map field_tree fs)) in
    let within : i < length names = omega (arith, names_length fs) in
    let later : slice_cmp nat_cmp (get_or fs i f).0 x.0 ≡ Greater = ap (λ n. slice_cmp nat_cmp n x.0) (sym (name_at fs i f [] (omega arith))) ∙ above x.0 names i [] within rising in
    put_at _ _ _ _ _ _ later (put_field_at fs ds i f d (omega arith) (omega arith) (rising-rest x.0 names rising))

pub put_field : (fs : List (List ℕ × Ty)) (ds : List DocTree) (i : ℕ) (f : List ℕ × Ty) (d : DocTree) → i < length fs → i < length ds → is_rising (names_of (type_fields_of (map field_tree fs))) ≡ true → f ≡ get_or fs i f → d ≡ get_or ds i unit
    → put f.0 (tree_of_document (ty_tree f.1) d) (field_members (type_fields_of (map field_tree (take i fs))) (docs_of (take i ds)))
    ≡ field_members (type_fields_of (map field_tree (take (i + 1) fs))) (docs_of (take (i + 1) ds))
put_field fs ds i f d h k rising is also =
    let this = ap (λ (g : List ℕ × Ty). put g.0 (tree_of_document (ty_tree g.1) d) (field_members (type_fields_of (map field_tree (take i fs))) (docs_of (take i ds)))) is in
    let that = ap (λ c. put (get_or fs i f).0 (tree_of_document (ty_tree (get_or fs i f).1) c) (field_members (type_fields_of (map field_tree (take i fs))) (docs_of (take i ds)))) also in
    rw add-one (this ∙ that ∙ put_field_at fs ds i f unit h k rising)

put_key_at : (t : TyTree) (ks : List (List ℕ)) (ds : List DocTree) (i : ℕ) (n : List ℕ) (d : DocTree) → i < length ks → i < length ds → is_rising ks ≡ true
    → put (get_or ks i n) (tree_of_document t (get_or ds i d)) (key_members t (take i ks) (docs_of (take i ds))) ≡ key_members t (take (suc i) ks) (docs_of (take (suc i) ds))
put_key_at t [] ds i n d h k rising = absurd (omega arith)
put_key_at t (x ∷ ks) [] i n d h k rising = absurd (omega arith)
put_key_at t (x ∷ ks) (y ∷ ds) zero n d h k rising = refl
put_key_at t (x ∷ ks) (y ∷ ds) (suc i) n d h k rising =
    put_at _ _ _ _ _ _ (above x ks i n (omega arith) rising) (put_key_at t ks ds i n d (omega arith) (omega arith) (rising-rest x ks rising))

pub put_key : (t : TyTree) (ks : List (List ℕ)) (ds : List DocTree) (i : ℕ) (n : List ℕ) (d : DocTree) → i < length ks → i < length ds → is_rising ks ≡ true → n ≡ get_or ks i n → d ≡ get_or ds i unit
    → put n (tree_of_document t d) (key_members t (take i ks) (docs_of (take i ds))) ≡ key_members t (take (i + 1) ks) (docs_of (take (i + 1) ds))
put_key t ks ds i n d h k rising is also =
    let this = ap (λ m. put m (tree_of_document t d) (key_members t (take i ks) (docs_of (take i ds)))) is in
    let that = ap (λ c. put (get_or ks i n) (tree_of_document t c) (key_members t (take i ks) (docs_of (take i ds)))) also in
    rw add-one (this ∙ that ∙ put_key_at t ks ds i n unit h k rising)

-- ---- the condition and the type of a part

pub same_many : (fs : List (List ℕ × Ty)) (ds : List DocTree) → has_fields (type_fields_of (map field_tree fs)) (docs_of ds) ≡ true → length fs ≡ length ds
same_many [] [] h = refl
same_many [] (y ∷ ds) h = cc
same_many (x ∷ fs) [] h = cc
same_many (x ∷ fs) (y ∷ ds) h = ap suc (same_many fs ds (right (has (ty_tree x.1) y) _ h))

field_typed_at : (fs : List (List ℕ × Ty)) (ds : List DocTree) (i : ℕ) (f : List ℕ × Ty) (d : DocTree) → i < length fs → has_fields (type_fields_of (map field_tree fs)) (docs_of ds) ≡ true
    → has (ty_tree (get_or fs i f).1) (get_or ds i d) ≡ true
field_typed_at [] ds i f d h k = absurd (omega arith)
field_typed_at (x ∷ fs) [] i f d h k = cc
field_typed_at (x ∷ fs) (y ∷ ds) zero f d h k = left (has (ty_tree x.1) y) _ k
field_typed_at (x ∷ fs) (y ∷ ds) (suc i) f d h k = field_typed_at fs ds i f d (omega arith) (right (has (ty_tree x.1) y) _ k)

pub field_typed : (fs : List (List ℕ × Ty)) (ds : List DocTree) (i : ℕ) (f : List ℕ × Ty) (d : DocTree) → i < length fs → f ≡ get_or fs i f → d ≡ get_or ds i unit → has_fields (type_fields_of (map field_tree fs)) (docs_of ds) ≡ true
    → has (ty_tree f.1) d ≡ true
field_typed fs ds i f d h is also k = ap (λ (g : List ℕ × Ty). has (ty_tree g.1) d) is ∙ ap (λ c. has (ty_tree (get_or fs i f).1) c) also ∙ field_typed_at fs ds i f unit h k

field_formed_at : (fs : List (List ℕ × Ty)) (i : ℕ) (f : List ℕ × Ty) → i < length fs → are_well_formed (type_fields_of (map field_tree fs)) ≡ true → is_well_formed (ty_tree (get_or fs i f).1) ≡ true
field_formed_at [] i f h k = absurd (omega arith)
field_formed_at (x ∷ fs) zero f h k = left (is_well_formed (ty_tree x.1)) _ k
field_formed_at (x ∷ fs) (suc i) f h k = field_formed_at fs i f (omega arith) (right (is_well_formed (ty_tree x.1)) _ k)

pub field_formed : (fs : List (List ℕ × Ty)) (i : ℕ) (f : List ℕ × Ty) → i < length fs → f ≡ get_or fs i f → are_well_formed (type_fields_of (map field_tree fs)) ≡ true → is_well_formed (ty_tree f.1) ≡ true
field_formed fs i f h is k = ap (λ (g : List ℕ × Ty). is_well_formed (ty_tree g.1)) is ∙ field_formed_at fs i f h k

each_typed_at : (t : TyTree) (ds : List DocTree) (i : ℕ) (d : DocTree) → i < length ds → has_each t (docs_of ds) ≡ true → has t (get_or ds i d) ≡ true
each_typed_at t [] i d h k = absurd (omega arith)
each_typed_at t (y ∷ ds) zero d h k = left (has t y) _ k
each_typed_at t (y ∷ ds) (suc i) d h k = each_typed_at t ds i d (omega arith) (right (has t y) _ k)

pub each_typed : (t : TyTree) (ds : List DocTree) (i : ℕ) (d : DocTree) → i < length ds → d ≡ get_or ds i unit → has_each t (docs_of ds) ≡ true → has t d ≡ true
each_typed t ds i d h is k = ap (has t) is ∙ each_typed_at t ds i unit h k

-- ---- i64 numbers, content by content

whole_at : (ds : List DocTree) (i : ℕ) (d : DocTree) → i < length ds → all_hold_i64s (docs_of (take i ds)) ≡ true → holds_i64s (get_or ds i d) ≡ true → all_hold_i64s (docs_of (take (suc i) ds)) ≡ true
whole_at [] i d h k w = absurd (omega arith)
whole_at (y ∷ ds) zero d h k w = both (holds_i64s y) true w refl
whole_at (y ∷ ds) (suc i) d h k w =
    both (holds_i64s y) _ (left (holds_i64s y) _ k) (whole_at ds i d (omega arith) (right (holds_i64s y) _ k) w)

pub whole_more : (ds : List DocTree) (i : ℕ) (d : DocTree) → i < length ds → d ≡ get_or ds i unit → all_hold_i64s (docs_of (take i ds)) ≡ true → holds_i64s d ≡ true → all_hold_i64s (docs_of (take (i + 1) ds)) ≡ true
whole_more ds i d h is k w = rw add-one (whole_at ds i unit h k (ap holds_i64s (sym is) ∙ w))

-- ---- the items of an array

-- one more item, which is that of the content at the place
pub push_item : {A : Type 0} (f : A → Data) (ds : List A) (i : ℕ) (d e : A) (xs : List Data) (x : Data) → i < length ds → d ≡ get_or ds i e → xs ≡ map f (take i ds) → x ≡ f d → xs ++ x ∷ [] ≡ map f (take (i + 1) ds)
push_item f ds i d e xs x within is so_far here =
    rw (so_far, here, add-one, take-suc ds i e within, map-append) (ap (λ c. map f (take i ds) ++ f c ∷ []) is)

pub items_of_contents : (t : TyTree) (ds : List DocTree) → items_of (map (tree_of_document t) ds) ≡ content_items t (docs_of ds)
items_of_contents t [] = refl
items_of_contents t (d ∷ ds) = ap (item (tree_of_document t d)) (items_of_contents t ds)

pub items_of_counts : (ns : List ℕ) → items_of (map count_tree ns) ≡ count_items ns
items_of_counts [] = refl
items_of_counts (n ∷ ns) = ap (item (count_tree n)) (items_of_counts ns)

-- ---- the type at a tag

tag_at : (fs : FieldTrees) (n : List ℕ) (s : ℕ × TyTree) → lookup_field fs n ≡ Some s → lookup_type fs n ≡ Some s.1
tag_at fs n s h = ap (option_map (λ (f : ℕ × TyTree). f.1)) h

pub content_tree : (fs : FieldTrees) (n : List ℕ) (d : DocTree) (s : ℕ × TyTree) → lookup_field fs n ≡ Some s → tree_of_document (ty_alt fs) (alt n d) ≡ object (member n (tree_of_document s.1 d) no_members)
content_tree fs n d s some = rw (tag_at fs n s some, tree_of_document) refl
