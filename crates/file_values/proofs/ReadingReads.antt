-- The outcome of reading is the document that a slot is, where there is one.
use Rattle.std.proofs.Common.{◌≡◌, ℕ, ◌+◌, Bool, true, false, ◌&&◌, cond, bytes_eq, List, ◌∷◌, Ordering, Option, Some, None, option_map, option_and_then, Result, Ok, Err, refl, sym, ap, ap₂, ◌∙◌}
use Rattle.std.specs.Result.{result_ok}
use Rattle.std.specs.declared.cmp.Ordering.TheVariants.{Less, Equal, Greater}
use Rattle.std.specs.Ordering.{nat_cmp, is_lt, match_ordering, ordering_reverse}
use Rattle.std.specs.Cmp.Lexicographic.{slice_cmp}
use Rattle.std.specs.FinMap.{slice_cmp-IsAntisymmetric, nat_cmp-IsAntisymmetric}
use Rattle.std.proofs.lemmas.Cmp.{nat_list_cmp_total}
use Rattle.json.specs.Json.{Json, boolean, number, string, array, object, Items, no_items, item, Members, no_members, member}
use Rattle.json.specs.Strict.{keys}
use Rattle.texts.specs.Keys.{is_before, is_rising, has_name}
use Rattle.texts.proofs.Conjunction.{first as left, second as right}
use Rattle.texts.proofs.KeyOrder.{bytes_eq-refl, before-differs, rising-first}
use Rattle.hold_shapes.specs.declared.shape.Shape.TheVariants.{Keyed as KeyedOf}
use Rattle.doc_values.specs.Types.{are_distinct}
use Rattle.doc_values.specs.Documents.{DocTree, unit, truth, int, text, pick, rec, alt, hold, DocTrees, more_docs}
use Rattle.file_forms.specs.Forms.{FileFormTree, as_literal, as_bool, as_truths, as_int, as_text, as_enum, as_words, as_number, as_object, as_tagged, as_bare, as_items, as_map, FormFields, no_forms, more_forms, form_names}
use Rattle.file_forms.specs.Orders.{put, by_name, first_named}
use Rattle.file_forms.specs.Slots.{is_literal, takes, are_told_apart}
use Rattle.file_forms.specs.Fitting.{is_fit, are_fit}
use Rattle.file_forms.specs.Numbers.{is_number}
use Rattle.file_forms.specs.FileValues.{truth_of, word_of, int_text, listed_doc, keyed_doc, items_read, members_read, only_read, read, read_tag, read_bare}
use Rattle.file_forms.proofs.Sorting.{by_name-is_rising}
use Rattle.file_values.specs.declared.misfit.ReadCause.{ReadCause}
use Rattle.file_values.specs.declared.misfit.FileStep.{FileStep}
use Rattle.file_values.specs.Reading.{Misfit, ok_or, map_ok, and_then, inside, stranger, unless_stranger, all_named, one_member, one_reading, items_reading, members_reading, reading, fields_reading, tag_reading, bare_reading}
use Rattle.file_values.proofs.SortedFields.{all_known, named_fields, other, fields_by_name}

-- ---- outcomes and options

ok_if : {A : Type 0} (b : Bool) (a : A) (m : Misfit) → result_ok (let r : Result A Misfit = cond b (Ok a) (Err m) in r) ≡ cond b (Some a) None
ok_if true a m = refl
ok_if false a m = refl

ok_cond : {A : Type 0} (b : Bool) (r q : Result A Misfit) (o p : Option A) → result_ok r ≡ o → result_ok q ≡ p → result_ok (cond b r q) ≡ cond b o p
ok_cond true r q o p h k = h
ok_cond false r q o p h k = k

ok_some : {A : Type 0} (cause : ReadCause) (o : Option A) → result_ok (ok_or cause o) ≡ o
ok_some cause None = refl
ok_some cause (Some a) = refl

ok_map : {A B : Type 0} (f : A → B) (r : Result A Misfit) (o : Option A) → result_ok r ≡ o → result_ok (map_ok f r) ≡ option_map f o
ok_map f (Ok a) o h = ap (option_map f) h
ok_map f (Err m) o h = ap (option_map f) h

ok_inside : {A : Type 0} (s : FileStep) (r : Result A Misfit) → result_ok (inside s r) ≡ result_ok r
ok_inside s (Ok a) = refl
ok_inside s (Err m) = refl

-- one content, and then the others
ok_more : (s : FileStep) (r : Result DocTree Misfit) (more : Result DocTrees Misfit) (o : Option DocTree) (p : Option DocTrees) → result_ok r ≡ o → result_ok more ≡ p
    → result_ok (and_then (λ d. map_ok (more_docs d) more) (inside s r)) ≡ option_and_then (λ d. option_map (more_docs d) p) o
ok_more s (Ok d) more o p h k = ok_map (more_docs d) more p k ∙ ap (option_and_then (λ e. option_map (more_docs e) p)) h
ok_more s (Err m) more o p h k = ap (option_and_then (λ e. option_map (more_docs e) p)) h

-- ---- records

known_stranger : (ns : List (List ℕ)) (ms all : Members) (r : Members → Result DocTrees Misfit) → result_ok (map_ok rec (and_then r (unless_stranger (stranger ns ms) all))) ≡ cond (all_known ns ms) (result_ok (map_ok rec (r all))) None
known_stranger ns no_members all r = refl
known_stranger ns (member k j ms) all r = known_step (has_name k ns) k (stranger ns ms) (all_known ns ms) all r (known_stranger ns ms all r)
  where
    known_step : (b : Bool) (k : List ℕ) (o : Option (List ℕ)) (known : Bool) (all : Members) (r : Members → Result DocTrees Misfit) → result_ok (map_ok rec (and_then r (unless_stranger o all))) ≡ cond known (result_ok (map_ok rec (r all))) None
        → result_ok (map_ok rec (and_then r (unless_stranger (cond b o (Some k)) all))) ≡ cond (b && known) (result_ok (map_ok rec (r all))) None
    known_step true k o known all r h = h
    known_step false k o known all r h = refl

map_cond : (b : Bool) (o : Option DocTrees) → cond b (option_map rec o) None ≡ option_map rec (cond b o None)
map_cond true o = refl
map_cond false o = refl

-- ---- one member

named-put_by : (o : Ordering) (n k l : List ℕ) (j i : Json) (ms : Members) → slice_cmp nat_cmp k l ≡ o → all_named n (put k j ms) ≡ (bytes_eq n k && all_named n ms)
    → all_named n (match_ordering o (member k j (member l i ms)) (member l j ms) (member l i (put k j ms))) ≡ (bytes_eq n k && (bytes_eq n l && all_named n ms))
named-put_by Less n k l j i ms e h = refl
named-put_by Equal n k l j i ms e h =
    let same : k ≡ l = slice_cmp-IsAntisymmetric nat_cmp-IsAntisymmetric k l e in
    twice (bytes_eq n l) (all_named n ms) ∙ ap (λ x. bytes_eq n x && (bytes_eq n l && all_named n ms)) (sym same)
  where
    twice : (a b : Bool) → (a && b) ≡ (a && (a && b))
    twice true b = refl
    twice false b = refl
named-put_by Greater n k l j i ms e h = ap (λ b. bytes_eq n l && b) h ∙ swapped (bytes_eq n l) (bytes_eq n k) (all_named n ms)
  where
    swapped : (a b c : Bool) → (a && (b && c)) ≡ (b && (a && c))
    swapped true b c = refl
    swapped false true c = refl
    swapped false false c = refl

named-put : (n k : List ℕ) (j : Json) (ms : Members) → all_named n (put k j ms) ≡ (bytes_eq n k && all_named n ms)
named-put n k j no_members = refl
named-put n k j (member l i ms) = named-put_by (slice_cmp nat_cmp k l) n k l j i ms refl (named-put n k j ms)

all_named-by_name : (n : List ℕ) (ms : Members) → all_named n (by_name ms) ≡ all_named n ms
all_named-by_name n no_members = refl
all_named-by_name n (member k j ms) = named-put n k j (by_name ms) ∙ ap (λ b. bytes_eq n k && b) (all_named-by_name n ms)

-- with one more, members are at least two
never_one_by : (read : List ℕ → Json → Option DocTree) (o : Ordering) (l k m : List ℕ) (i j h : Json) (ms : Members) (v : Option DocTree)
    → only_read read (member l i (match_ordering o (member k j (member m h ms)) (member m j ms) (member m h (put k j ms)))) ≡ None
never_one_by read Less l k m i j h ms v = refl
never_one_by read Equal l k m i j h ms v = refl
never_one_by read Greater l k m i j h ms v = refl

never_one : (read : List ℕ → Json → Option DocTree) (l k : List ℕ) (i j : Json) (ms : Members) → only_read read (member l i (put k j ms)) ≡ None
never_one read l k i j no_members = refl
never_one read l k i j (member m h ms) = never_one_by read (slice_cmp nat_cmp k m) l k m i j h ms None

one_put_by : (read : List ℕ → Json → Option DocTree) (o : Ordering) (k l : List ℕ) (j i : Json) (ms : Members) → slice_cmp nat_cmp k l ≡ o → is_rising (l ∷ keys ms) ≡ true
    → only_read read (match_ordering o (member k j (member l i ms)) (member l j ms) (member l i (put k j ms))) ≡ cond (bytes_eq k l && all_named k ms) (option_map (alt k) (read k j)) None
one_put_by read Less k l j i ms e r = sym (ap (λ b. cond (b && all_named k ms) (option_map (alt k) (read k j)) None) (before-differs k l (ap is_lt e)))
one_put_by read Equal k l j i no_members e r =
    let same : k ≡ l = slice_cmp-IsAntisymmetric nat_cmp-IsAntisymmetric k l e in
    ap (λ x. option_map (alt x) (read x j)) (sym same)
    ∙ sym (ap (λ b. cond (b && true) (option_map (alt k) (read k j)) None) (ap (bytes_eq k) (sym same) ∙ bytes_eq-refl k))
one_put_by read Equal k l j i (member m h ms) e r =
    let same : k ≡ l = slice_cmp-IsAntisymmetric nat_cmp-IsAntisymmetric k l e in
    let apart : bytes_eq k m ≡ false = ap (λ x. bytes_eq x m) same ∙ before-differs l m (rising-first l (m ∷ keys ms) r) in
    sym (ap₂ (λ a b. cond (a && (b && all_named k ms)) (option_map (alt k) (read k j)) None) (ap (bytes_eq k) (sym same) ∙ bytes_eq-refl k) apart)
one_put_by read Greater k l j i ms e r =
    let before : is_before l k ≡ true = ap is_lt (nat_list_cmp_total.antisymm l k ∙ ap ordering_reverse e) in
    never_one read l k i j ms ∙ sym (ap (λ b. cond (b && all_named k ms) (option_map (alt k) (read k j)) None) (other l k before))

one_put : (read : List ℕ → Json → Option DocTree) (k : List ℕ) (j : Json) (ms : Members) → is_rising (keys ms) ≡ true
    → only_read read (put k j ms) ≡ cond (all_named k ms) (option_map (alt k) (read k j)) None
one_put read k j no_members r = refl
one_put read k j (member l i ms) r = one_put_by read (slice_cmp nat_cmp k l) k l j i ms refl r

one_by : (b : Bool) (r : List ℕ → Json → Result DocTree Misfit) (read : List ℕ → Json → Option DocTree) (k : List ℕ) (j : Json) → result_ok (r k j) ≡ read k j
    → result_ok (one_reading r (cond b (Some (k, j)) None)) ≡ cond b (option_map (alt k) (read k j)) None
one_by true r read k j h = ok_map (alt k) (r k j) (read k j) h
one_by false r read k j h = refl

one_agrees : (r : List ℕ → Json → Result DocTree Misfit) (read : List ℕ → Json → Option DocTree) → ((k : List ℕ) (j : Json) → result_ok (r k j) ≡ read k j)
    → (ms : Members) → result_ok (one_reading r (one_member ms)) ≡ only_read read (by_name ms)
one_agrees r read h no_members = refl
one_agrees r read h (member k j ms) =
    one_by (all_named k ms) r read k j (h k j)
    ∙ ap (λ b. cond b (option_map (alt k) (read k j)) None) (sym (all_named-by_name k ms))
    ∙ sym (one_put read k j (by_name ms) (by_name-is_rising ms))

-- ---- contents

items_agree : (r : Json → Result DocTree Misfit) (read : Json → Option DocTree) → ((j : Json) → result_ok (r j) ≡ read j) → (i : ℕ) (js : Items) → result_ok (items_reading r i js) ≡ items_read read js
items_agree r read h i no_items = refl
items_agree r read h i (item j js) = ok_more _ (r j) (items_reading r (i + 1) js) (read j) (items_read read js) (h j) (items_agree r read h (i + 1) js)

members_agree : (r : Json → Result DocTree Misfit) (read : Json → Option DocTree) → ((j : Json) → result_ok (r j) ≡ read j) → (ms : Members) → result_ok (members_reading r ms) ≡ members_read read ms
members_agree r read h no_members = refl
members_agree r read h (member k j ms) = ok_more _ (r j) (members_reading r ms) (read j) (members_read read ms) (h j) (members_agree r read h ms)

keyed : (ks : List (List ℕ)) (o : Option DocTrees) → is_rising ks ≡ true → option_map (hold (KeyedOf ks)) o ≡ option_and_then (keyed_doc ks) o
keyed ks None h = refl
keyed ks (Some ds) h = sym (ap (λ b. cond b (Some (hold (KeyedOf ks) ds)) None) h)

-- ---- forms

mutual
  pub agrees : (f : FileFormTree) (s : Option Json) → is_fit f ≡ true → result_ok (reading f s) ≡ read f s
  agrees (as_literal l) s k = ok_if (is_literal l s) unit _
  agrees as_bool (Some (boolean b)) k = refl
  agrees as_bool s k = refl
  agrees (as_truths f t) s k = ok_some _ (option_map truth (truth_of f t s))
  agrees (as_int i) (Some (number t)) k = ok_some _ (option_map int (int_text t))
  agrees (as_int i) s k = refl
  agrees (as_text i) (Some (string t)) k = refl
  agrees (as_text i) s k = refl
  agrees (as_enum ms i) (Some (string t)) k = ok_if (has_name t ms) (pick t) _
  agrees (as_enum ms i) s k = refl
  agrees (as_words ws i) s k = ok_some _ (option_map pick (word_of ws s))
  agrees (as_number i) (Some (number t)) k = ok_if (is_number t) (text t) _
  agrees (as_number i) s k = refl
  agrees (as_object fs) (Some (object ms)) k =
      let named = ok_map rec (fields_reading fs ms) (named_fields fs ms) (fields_agree fs ms (right (is_rising (form_names fs)) (are_fit fs) k)) in
      known_stranger (form_names fs) ms ms (fields_reading fs)
      ∙ ap (λ o. cond (all_known (form_names fs) ms) o None) named
      ∙ map_cond (all_known (form_names fs) ms) (named_fields fs ms)
      ∙ ap (option_map rec) (sym (fields_by_name fs ms (left (is_rising (form_names fs)) (are_fit fs) k)))
  agrees (as_object fs) s k = refl
  agrees (as_tagged fs) (Some (object ms)) k =
      one_agrees (tag_reading fs) (read_tag fs) (λ n j. tag_agrees fs n j (right (are_distinct (form_names fs)) (are_fit fs) k)) ms
  agrees (as_tagged fs) s k = refl
  agrees (as_bare fs) s k = bare_agrees fs s (right (are_distinct (form_names fs) && are_told_apart fs) (are_fit fs) k)
  agrees (as_items f) (Some (array js)) k =
      ok_map listed_doc (items_reading (λ j. reading f (Some j)) 0 js) (items_read (λ j. read f (Some j)) js)
      (items_agree (λ j. reading f (Some j)) (λ j. read f (Some j)) (λ j. agrees f (Some j) k) 0 js)
  agrees (as_items f) s k = refl
  agrees (as_map f) (Some (object ms)) k =
      let ns = by_name ms in
      ok_map (hold (KeyedOf (keys ns))) (members_reading (λ j. reading f (Some j)) ns) (members_read (λ j. read f (Some j)) ns)
      (members_agree (λ j. reading f (Some j)) (λ j. read f (Some j)) (λ j. agrees f (Some j) k) ns)
      ∙ keyed (keys ns) (members_read (λ j. read f (Some j)) ns) (by_name-is_rising ms)
  agrees (as_map f) s k = refl

  fields_agree : (fs : FormFields) (ms : Members) → are_fit fs ≡ true → result_ok (fields_reading fs ms) ≡ named_fields fs ms
  fields_agree no_forms ms k = refl
  fields_agree (more_forms n f fs) ms k =
      ok_more _ (reading f (first_named n ms)) (fields_reading fs ms) (read f (first_named n ms)) (named_fields fs ms)
      (agrees f (first_named n ms) (left (is_fit f) (are_fit fs) k)) (fields_agree fs ms (right (is_fit f) (are_fit fs) k))

  tag_agrees : (fs : FormFields) (n : List ℕ) (j : Json) → are_fit fs ≡ true → result_ok (tag_reading fs n j) ≡ read_tag fs n j
  tag_agrees no_forms n j k = refl
  tag_agrees (more_forms m f fs) n j k =
      ok_cond (bytes_eq m n) (inside _ (reading f (Some j))) (tag_reading fs n j) (read f (Some j)) (read_tag fs n j)
      (ok_inside _ (reading f (Some j)) ∙ agrees f (Some j) (left (is_fit f) (are_fit fs) k)) (tag_agrees fs n j (right (is_fit f) (are_fit fs) k))

  bare_agrees : (fs : FormFields) (s : Option Json) → are_fit fs ≡ true → result_ok (bare_reading fs s) ≡ read_bare fs s
  bare_agrees no_forms s k = refl
  bare_agrees (more_forms n f fs) s k =
      ok_cond (takes f s) (map_ok (alt n) (reading f s)) (bare_reading fs s) (option_map (alt n) (read f s)) (read_bare fs s)
      (ok_map (alt n) (reading f s) (read f s) (agrees f s (left (is_fit f) (are_fit fs) k))) (bare_agrees fs s (right (is_fit f) (are_fit fs) k))
