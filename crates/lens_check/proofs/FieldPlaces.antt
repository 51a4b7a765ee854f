-- The place of a field among the fields of a side, and the pattern there.
use Rattle.std.proofs.Common.{◌≡◌, ◌∙◌, ℕ, suc, ◌+◌, ◌<◌, ◌≤◌, Bool, true, false, List, [], ◌∷◌, length, map, drop, drop-cons, get_or, add-one, refl, ap, sym, subst, arith, rules}
use Rattle.std.specs.Prelude.{◌||◌, bytes_eq, if◌then◌else◌}
use Rattle.std.proofs.lemmas.List.{drop_all, get_or_past}
use Rattle.texts.specs.declared.side.Side.{Side}
use Rattle.texts.specs.declared.side.Side.TheVariants.{Left, Right}
use Rattle.texts.specs.Keys.{is_before, is_rising, has_name, key_rank}
use Rattle.texts.proofs.KeyOrder.{rising-rest}
use Rattle.doc_values.specs.Types.{TyTree, FieldTrees, no_fields, more_fields, names_of, are_distinct}
use Rattle.doc_values.proofs.DistinctNames.{are_distinct-rest}
use Rattle.lens_forms.specs.Forms.{RowTrees, no_rows, both, only_left, only_right, FormRowTree, row_both, row_left, row_right, row_tree, with_form_row, form_rows_of, left_type, right_type, left_fields, right_fields, insert_field}
use Rattle.lens_forms.specs.Typing.{left_names, right_names}
use Rattle.lens_forms.specs.declared.form.FormRow.{FormRow}
use Rattle.lens_forms.proofs.SortedFields.{inserted, inserted_names}
use Rattle.lens_core.proofs.LawsOfLeaves.{differs_back}
use Rattle.lens_core.specs.Sides.{fields_on, names_on}
use Rattle.law_images.specs.Image.{pattern_at, patterns_by_name}
use Rattle.law_images.specs.Patterns.{PatternTree, hole, unit_pattern, truth_pattern, int_pattern, text_pattern, pick_pattern, rec_pattern, alt_pattern, hold_pattern, PatternTrees, no_patterns, more_patterns, pattern_list, pattern_count, pattern_tree, patterns_tree}
use Rattle.law_images.specs.declared.pattern.Pattern.{Pattern, the_lemmas as pattern_lemmas}
use Rattle.law_images.specs.declared.pattern.Pattern.TheVariants.{Rec}
use Rattle.law_images.specs.declared.pattern.Patterns.{Patterns}
use Rattle.law_images.proofs.PatternLists.{pattern_count-length}
use Rattle.lens_check.specs.ImageParts.{place_among, field_pattern, has_field_before}
use Rattle.lens_check.proofs.SortedNames.{insert_name, sort_names, one_before, rank-insert, rank-first, before_member}
use Rattle.texts.proofs.Tests.{bytes_eq-is}

-- ---- the names of a side

pub insert_field-names : (n : List ℕ) (t : TyTree) (fs : FieldTrees) → names_of (insert_field n t fs) ≡ insert_name n (names_of fs)
insert_field-names n t no_fields = refl
insert_field-names n t (more_fields m u fs) = go (is_before m n) (insert_field-names n t fs)
  where
    go : (b : Bool) → names_of (insert_field n t fs) ≡ insert_name n (names_of fs)
        → names_of (if b then more_fields m u (insert_field n t fs) else more_fields n t (more_fields m u fs)) ≡ (if b then m ∷ insert_name n (names_of fs) else n ∷ m ∷ names_of fs)
    go true e = ap (λ z. m ∷ z) e
    go false e = refl

-- the fields of a side have its names, sorted
pub fields_on-names : (s : Side) (rows : RowTrees) → names_of (fields_on s rows) ≡ sort_names (names_on s rows)
fields_on-names Left no_rows = refl
fields_on-names Left (both a b l rows) = insert_field-names a (left_type l) (left_fields rows) ∙ ap (insert_name a) (fields_on-names Left rows)
fields_on-names Left (only_left a t rows) = insert_field-names a t (left_fields rows) ∙ ap (insert_name a) (fields_on-names Left rows)
fields_on-names Left (only_right b t rows) = fields_on-names Left rows
fields_on-names Right no_rows = refl
fields_on-names Right (both a b l rows) = insert_field-names b (right_type l) (right_fields rows) ∙ ap (insert_name b) (fields_on-names Right rows)
fields_on-names Right (only_left a t rows) = fields_on-names Right rows
fields_on-names Right (only_right b t rows) = insert_field-names b t (right_fields rows) ∙ ap (insert_name b) (fields_on-names Right rows)

-- the fields of a side have the names of its rows
pub fields_on-has : (s : Side) (rows : RowTrees) (k : List ℕ) → has_name k (names_of (fields_on s rows)) ≡ has_name k (names_on s rows)
fields_on-has Left no_rows k = refl
fields_on-has Left (both a b l rows) k = inserted_names a (left_type l) (left_fields rows) (left_names rows) (fields_on-has Left rows) k
fields_on-has Left (only_left a t rows) k = inserted_names a t (left_fields rows) (left_names rows) (fields_on-has Left rows) k
fields_on-has Left (only_right b t rows) k = fields_on-has Left rows k
fields_on-has Right no_rows k = refl
fields_on-has Right (both a b l rows) k = inserted_names b (right_type l) (right_fields rows) (right_names rows) (fields_on-has Right rows) k
fields_on-has Right (only_left a t rows) k = fields_on-has Right rows k
fields_on-has Right (only_right b t rows) k = inserted_names b t (right_fields rows) (right_names rows) (fields_on-has Right rows) k

-- and rise, where the names are distinct
pub fields_on-rising : (s : Side) (rows : RowTrees) → are_distinct (names_on s rows) ≡ true → is_rising (names_of (fields_on s rows)) ≡ true
fields_on-rising Left no_rows h = refl
fields_on-rising Left (both a b l rows) h =
    inserted a (left_type l) (left_fields rows) (left_names rows) (fields_on-has Left rows) h (fields_on-rising Left rows (are_distinct-rest a (left_names rows) h))
fields_on-rising Left (only_left a t rows) h =
    inserted a t (left_fields rows) (left_names rows) (fields_on-has Left rows) h (fields_on-rising Left rows (are_distinct-rest a (left_names rows) h))
fields_on-rising Left (only_right b t rows) h = fields_on-rising Left rows h
fields_on-rising Right no_rows h = refl
fields_on-rising Right (both a b l rows) h =
    inserted b (right_type l) (right_fields rows) (right_names rows) (fields_on-has Right rows) h (fields_on-rising Right rows (are_distinct-rest b (right_names rows) h))
fields_on-rising Right (only_left a t rows) h = fields_on-rising Right rows h
fields_on-rising Right (only_right b t rows) h =
    inserted b t (right_fields rows) (right_names rows) (fields_on-has Right rows) h (fields_on-rising Right rows (are_distinct-rest b (right_names rows) h))

-- ---- counting the fields that are before a name

abbrev pub count_from : Side → List ℕ → List FormRow → ℕ → ℕ
count_from s n rows i = key_rank n (names_of (fields_on s (form_rows_of (map row_tree (drop i rows)))))

put-rank : (k n : List ℕ) (t : TyTree) (fs : FieldTrees) → key_rank k (names_of (insert_field n t fs)) ≡ one_before n k + key_rank k (names_of fs)
put-rank k n t fs = ap (key_rank k) (insert_field-names n t fs) ∙ rank-insert k n (names_of fs)

with_row-count : (s : Side) (n : List ℕ) (r : FormRowTree) (rows : RowTrees)
    → key_rank n (names_of (fields_on s (with_form_row r rows))) ≡ (if has_field_before s n r then 1 else 0) + key_rank n (names_of (fields_on s rows))
with_row-count Left n (row_both a b l) rows = put-rank n a (left_type l) (left_fields rows)
with_row-count Left n (row_left a t) rows = put-rank n a t (left_fields rows)
with_row-count Left n (row_right b t) rows = omega arith
with_row-count Right n (row_both a b l) rows = put-rank n b (right_type l) (right_fields rows)
with_row-count Right n (row_left a t) rows = omega arith
with_row-count Right n (row_right b t) rows = put-rank n b t (right_fields rows)

count_next : (s : Side) (n : List ℕ) (rows : List FormRow) (i : ℕ) (r : FormRow) → i < length rows → r ≡ get_or rows i r
    → count_from s n rows i ≡ (if has_field_before s n (row_tree r) then 1 else 0) + count_from s n rows (i + 1)
count_next s n rows i r h is = rw (drop-cons rows i r h, sym is, add-one) (with_row-count s n (row_tree r) (form_rows_of (map row_tree (drop (suc i) rows))))

pub counted : (s : Side) (n : List ℕ) (rows : List FormRow) (i : ℕ) (r : FormRow) → i < length rows → r ≡ get_or rows i r → has_field_before s n (row_tree r) ≡ true
    → count_from s n rows i ≡ 1 + count_from s n rows (i + 1)
counted s n rows i r h is e = count_next s n rows i r h is ∙ rw e refl

pub passed_over : (s : Side) (n : List ℕ) (rows : List FormRow) (i : ℕ) (r : FormRow) → i < length rows → r ≡ get_or rows i r → has_field_before s n (row_tree r) ≡ false
    → count_from s n rows i ≡ count_from s n rows (i + 1)
passed_over s n rows i r h is e = count_next s n rows i r h is ∙ rw e (omega arith)

pub all_counted : (s : Side) (n : List ℕ) (rows : List FormRow) (i : ℕ) → length rows ≤ i → count_from s n rows i ≡ 0
all_counted Left n rows i h = rw (drop_all i rows h) refl
all_counted Right n rows i h = rw (drop_all i rows h) refl

pub ruleset count_rules = (counted, passed_over, all_counted)

-- ---- the pattern at a place

-- a place that a record's pattern does not have
pub field_past : (ps : PatternTrees) (i : ℕ) → pattern_count ps ≤ i → get_or (pattern_list ps) i hole ≡ hole
field_past ps i h = get_or_past (pattern_list ps) i hole (omega (arith, pattern_count-length ps))

record_pattern : (ps : Patterns) → pattern_tree (Rec ps) ≡ rec_pattern (patterns_tree ps)
record_pattern ps = search (rules, pattern_lemmas)

pub past_fields : (p : Pattern) (ps : Patterns) (i : ℕ) → p ≡ Rec ps → pattern_count (patterns_tree ps) ≤ i → field_pattern (pattern_tree p) i ≡ hole
past_fields p ps i is end = ap (λ z. field_pattern z i) (ap pattern_tree is ∙ record_pattern ps) ∙ field_past (patterns_tree ps) i end

pub ruleset field_rules = (past_fields)

at_first : (p : PatternTree) (ps : List PatternTree) (i : ℕ) → i ≡ 0 → p ≡ get_or (p ∷ ps) i hole
at_first p ps i e = rw e refl

at_later : (p : PatternTree) (ps : List PatternTree) (i j : ℕ) → i ≡ suc j → get_or ps j hole ≡ get_or (p ∷ ps) i hole
at_later p ps i j e = rw e refl

-- the pattern of a field is at the place of its name
pattern_place : (fs : FieldTrees) (ps : PatternTrees) (n : List ℕ) → is_rising (names_of fs) ≡ true → has_name n (names_of fs) ≡ true
    → pattern_at fs ps n ≡ get_or (pattern_list ps) (key_rank n (names_of fs)) hole
pattern_place no_fields ps n r h = cc
pattern_place (more_fields m t fs) no_patterns n r h = refl
pattern_place (more_fields m t fs) (more_patterns p ps) n r h =
    go (bytes_eq m n) refl (λ k. pattern_place fs ps n (rising-rest m (names_of fs) r) k)
  where
    later : bytes_eq m n ≡ false → (b : Bool) → bytes_eq n m ≡ b → (b || has_name n (names_of fs)) ≡ true → has_name n (names_of fs) ≡ true
    later e true k j = let back = differs_back m n e in cc
    later e false k j = j

    go : (b : Bool) → bytes_eq m n ≡ b → (has_name n (names_of fs) ≡ true → pattern_at fs ps n ≡ get_or (pattern_list ps) (key_rank n (names_of fs)) hole)
        → (if b then p else pattern_at fs ps n) ≡ get_or (p ∷ pattern_list ps) (key_rank n (m ∷ names_of fs)) hole
    go true e again =
        at_first p (pattern_list ps) (key_rank n (m ∷ names_of fs))
        (subst (λ z. key_rank z (m ∷ names_of fs) ≡ 0) (bytes_eq-is m n e) (rank-first m (names_of fs) r))
    go false e again =
        let k : has_name n (names_of fs) ≡ true = later e (bytes_eq n m) refl h in
        let on : is_before m n ≡ true = before_member m n (names_of fs) r k in
        again k ∙ at_later p (pattern_list ps) (key_rank n (m ∷ names_of fs)) (key_rank n (names_of fs)) (rw on refl)

pub near_place : (fs : FieldTrees) (p : PatternTree) (n : List ℕ) → is_rising (names_of fs) ≡ true → has_name n (names_of fs) ≡ true
    → field_pattern p (key_rank n (names_of fs)) ≡ patterns_by_name fs p n
near_place fs (rec_pattern ps) n r h = sym (pattern_place fs ps n r h)
near_place fs hole n r h = refl
near_place fs unit_pattern n r h = refl
near_place fs (truth_pattern b) n r h = refl
near_place fs (int_pattern z) n r h = refl
near_place fs (text_pattern s) n r h = refl
near_place fs (pick_pattern m) n r h = refl
near_place fs (alt_pattern m p) n r h = refl
near_place fs (hold_pattern s ps) n r h = refl

-- ---- among names

pub place_here : (ns : List (List ℕ)) (n m : List ℕ) (i : ℕ) → i < length ns → m ≡ get_or ns i m → is_before m n ≡ false → place_among n (drop i ns) ≡ 0
place_here ns n m i h is e = rw (drop-cons ns i m h, sym is, e) refl

pub place_next : (ns : List (List ℕ)) (n m : List ℕ) (i : ℕ) → i < length ns → m ≡ get_or ns i m → is_before m n ≡ true
    → place_among n (drop i ns) ≡ suc (place_among n (drop (i + 1) ns))
place_next ns n m i h is e = rw (drop-cons ns i m h, sym is, e, add-one) refl

pub place_end : (ns : List (List ℕ)) (n : List ℕ) (i : ℕ) → length ns ≤ i → place_among n (drop i ns) ≡ 0
place_end ns n i h = rw (drop_all i ns h) refl

pub place_within : (n : List ℕ) (ns : List (List ℕ)) → place_among n ns ≤ length ns
place_within n [] = omega arith
place_within n (m ∷ ns) = go (is_before m n) (place_within n ns)
  where
    go : (b : Bool) → place_among n ns ≤ length ns → (if b then suc (place_among n ns) else 0) ≤ suc (length ns)
    go true h = omega (arith, h)
    go false h = omega arith

pub ruleset place_rules = (place_here, place_next, place_end)
