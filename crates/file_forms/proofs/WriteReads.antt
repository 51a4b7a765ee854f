-- What is written is read back as the document.
use Rattle.std.proofs.Common.{◌≡◌, ℕ, Bool, true, false, not, ◌&&◌, cond, bytes_eq, List, [], ◌∷◌, length, Option, Some, None, option_map, option_and_then, refl, sym, subst, ap, ◌∙◌}
use Rattle.std.specs.Prelude.{nat_eq}
use Rattle.std.specs.Option.{option_flatten}
use Rattle.std.specs.Fmt.{signed_decimal}
use Rattle.std.proofs.lemmas.Bool.{eqb-true}
use Rattle.json.specs.Json.{Json, number, string, Members}
use Rattle.json.specs.Strict.{keys}
use Rattle.texts.specs.Keys.{is_before, is_rising, has_name}
use Rattle.texts.proofs.Conjunction.{both, first as left, second as right}
use Rattle.texts.proofs.KeyOrder.{before-trans, rising-first, rising-rest}
use Rattle.texts.proofs.Tests.{bytes_eq-is}
use Rattle.hold_shapes.specs.declared.shape.Shape.TheVariants.{List as ListOf, Keyed as KeyedOf}
use Rattle.doc_values.specs.Types.{are_distinct}
use Rattle.doc_values.specs.Documents.{DocTree, unit, truth, int, text, pick, rec, alt, hold, DocTrees, no_docs, more_docs, doc_list}
use Rattle.doc_values.specs.Integers.{fits_i64}
use Rattle.file_forms.specs.Forms.{FileFormTree, as_literal, as_bool, as_truths, as_int, as_text, as_enum, as_words, as_number, as_object, as_tagged, as_bare, as_items, as_map, FormFields, no_forms, more_forms, form_names, word_names, word_literals}
use Rattle.file_forms.specs.Slots.{takes, meets_any, are_told_apart}
use Rattle.file_forms.specs.Fitting.{are_unlike, are_writable, is_fit, are_fit}
use Rattle.file_forms.specs.Numbers.{is_number}
use Rattle.file_forms.specs.FileValues.{head_slot, after_head, with_slot, listed_doc, keyed_doc, array_slot, object_slot, tagged_slot, members_read, items_written, members_written, read, read_fields, read_tag, read_bare, write, write_fields, write_tag}
use Rattle.file_forms.proofs.Facts.{some_is, bind_some, map_some, flatten_some, if_some, if_then, choice}
use Rattle.file_forms.proofs.Sorting.{by_name-rising}
use Rattle.file_forms.proofs.Telling.{literal-refl, taken_once, write-takes, tag-takes}
use Rattle.file_forms.proofs.MemberLiterals.{truth_again, word_again}
use Rattle.file_forms.proofs.IntTexts.{int_again}
use Rattle.file_forms.proofs.Contents.{items_again, members_again, keys_written, head_with, after_with}

-- ---- the members of a record are in the order of its fields

skip : (n m : List ℕ) (ns : List (List ℕ)) → is_rising (n ∷ m ∷ ns) ≡ true → is_rising (n ∷ ns) ≡ true
skip n m [] h = refl
skip n m (k ∷ ns) h =
    let rest = rising-rest n (m ∷ k ∷ ns) h in
    both (is_before n k) (is_rising (k ∷ ns)) (before-trans n m k (rising-first n (m ∷ k ∷ ns) h) (rising-first m (k ∷ ns) rest)) (rising-rest m (k ∷ ns) rest)

rising_with : (n m : List ℕ) (s : Option Json) (ms : Members) → is_before n m ≡ true → is_rising (m ∷ keys ms) ≡ true → is_rising (n ∷ keys ms) ≡ true → is_rising (n ∷ keys (with_slot m s ms)) ≡ true
rising_with n m None ms b r t = t
rising_with n m (Some j) ms b r t = both (is_before n m) (is_rising (m ∷ keys ms)) b r

fields_after : (fs : FormFields) (n : List ℕ) (ds : DocTrees) (ms : Members) → is_rising (n ∷ form_names fs) ≡ true → write_fields fs ds ≡ Some ms → is_rising (n ∷ keys ms) ≡ true
fields_after no_forms n no_docs ms r h = subst (λ x. is_rising (n ∷ keys x) ≡ true) (some_is _ _ h) refl
fields_after no_forms n (more_docs d ds) ms r h = cc
fields_after (more_forms m f fs) n no_docs ms r h = cc
fields_after (more_forms m f fs) n (more_docs d ds) ms r h =
    let b = bind_some (λ s. option_map (with_slot m s) (write_fields fs ds)) (write f d) ms h in
    let p = map_some (with_slot m b.0) (write_fields fs ds) ms b.2 in
    let rest = rising-rest n (m ∷ form_names fs) r in
    subst (λ x. is_rising (n ∷ keys x) ≡ true) p.2
    (rising_with n m b.0 p.0 (rising-first n (m ∷ form_names fs) r) (fields_after fs m ds p.0 rest p.1) (fields_after fs n ds p.0 (skip n m (form_names fs) r) p.1))

keys_with : (m : List ℕ) (s : Option Json) (ms : Members) → is_rising (m ∷ keys ms) ≡ true → is_rising (keys (with_slot m s ms)) ≡ true
keys_with m None ms r = rising-rest m (keys ms) r
keys_with m (Some j) ms r = r

keys_rise : (fs : FormFields) (ds : DocTrees) (ms : Members) → is_rising (form_names fs) ≡ true → write_fields fs ds ≡ Some ms → is_rising (keys ms) ≡ true
keys_rise no_forms no_docs ms r h = subst (λ x. is_rising (keys x) ≡ true) (some_is _ _ h) refl
keys_rise no_forms (more_docs d ds) ms r h = cc
keys_rise (more_forms m f fs) no_docs ms r h = cc
keys_rise (more_forms m f fs) (more_docs d ds) ms r h =
    let b = bind_some (λ s. option_map (with_slot m s) (write_fields fs ds)) (write f d) ms h in
    let p = map_some (with_slot m b.0) (write_fields fs ds) ms b.2 in
    subst (λ x. is_rising (keys x) ≡ true) p.2 (keys_with m b.0 p.0 (fields_after fs m ds p.0 r p.1))

-- ---- fields and tags

fields_join : (n : List ℕ) (f : FileFormTree) (fs : FormFields) (ms rest : Members) (s : Option Json) (d : DocTree) (ds : DocTrees) → head_slot n ms ≡ s → after_head n ms ≡ rest
    → read f s ≡ Some d → read_fields fs rest ≡ Some ds → read_fields (more_forms n f fs) ms ≡ Some (more_docs d ds)
fields_join n f fs ms rest s d ds head after one more =
    ap (λ x. option_and_then (λ e. option_map (more_docs e) (read_fields fs (after_head n ms))) (read f x)) head
    ∙ ap (option_and_then (λ e. option_map (more_docs e) (read_fields fs (after_head n ms)))) one
    ∙ ap (λ x. option_map (more_docs d) (read_fields fs x)) after
    ∙ ap (option_map (more_docs d)) more

bare_choice : (b : Bool) (m n : List ℕ) (t : Bool) (w v : Option (Option Json)) (r q : Option DocTree) (d : DocTree) (s : Option Json) → bytes_eq m n ≡ b
    → (w ≡ Some s → t ≡ true) → (w ≡ Some s → r ≡ Some d) → (v ≡ Some s → t ≡ false) → (v ≡ Some s → q ≡ Some (alt n d))
    → cond b w v ≡ Some s → cond t (option_map (alt m) r) q ≡ Some (alt n d)
bare_choice true m n t w v r q d s e taken one other more h =
    ap (λ x. cond x (option_map (alt m) r) q) (taken h) ∙ ap (option_map (alt m)) (one h) ∙ ap (λ x. Some (alt x d)) (bytes_eq-is m n e)
bare_choice false m n t w v r q d s e taken one other more h = ap (λ x. cond x (option_map (alt m) r) q) (other h) ∙ more h

list_again : (n : ℕ) (ds : DocTrees) (s : ℕ) → s ≡ n → hold (ListOf (record { count = n })) ds ≡ hold (ListOf (record { count = s })) ds
list_again n ds s h = ap (λ k. hold (ListOf (record { count = k })) ds) (sym h)

-- ---- documents

mutual
  pub again : (f : FileFormTree) (d : DocTree) (s : Option Json) → is_fit f ≡ true → write f d ≡ Some s → read f s ≡ Some d
  again (as_literal l) unit s k h =
      subst (λ x. read (as_literal l) x ≡ Some unit) (some_is _ _ h) (ap (λ b. cond b (Some unit) None) (literal-refl l))
  again as_bool (truth b) s k h = subst (λ x. read as_bool x ≡ Some (truth b)) (some_is _ _ h) refl
  again (as_truths f t) (truth b) s k h =
      let apart = left (are_unlike (f ∷ t ∷ [])) (are_writable (f ∷ t ∷ [])) k in
      subst (λ x. read (as_truths f t) x ≡ Some (truth b)) (some_is _ _ h) (ap (option_map truth) (truth_again f t b apart))
  again (as_int i) (int z) s k h =
      let p = if_some (fits_i64 z) (Some (number (signed_decimal z))) s h in
      subst (λ x. read (as_int i) x ≡ Some (int z)) p.1 (ap (option_map int) (int_again z p.0))
  again (as_text i) (text t) s k h = subst (λ x. read (as_text i) x ≡ Some (text t)) (some_is _ _ h) refl
  again (as_enum ms i) (pick n) s k h =
      let p = if_some (has_name n ms) (Some (string n)) s h in
      subst (λ x. read (as_enum ms i) x ≡ Some (pick n)) p.1 (ap (λ b. cond b (Some (pick n)) None) p.0)
  again (as_words ws i) (pick n) s k h =
      let literals = right (are_distinct (word_names ws)) (are_unlike (word_literals ws) && are_writable (word_literals ws)) k in
      ap (option_map pick) (word_again ws n s (left (are_unlike (word_literals ws)) (are_writable (word_literals ws)) literals) h)
  again (as_number i) (text t) s k h =
      let p = if_some (is_number t) (Some (number t)) s h in
      subst (λ x. read (as_number i) x ≡ Some (text t)) p.1 (ap (λ b. cond b (Some (text t)) None) p.0)
  again (as_object fs) (rec ds) s k h =
      let m = map_some object_slot (write_fields fs ds) s h in
      let names = left (is_rising (form_names fs)) (are_fit fs) k in
      let rising = keys_rise fs ds m.0 names m.1 in
      subst (λ x. read (as_object fs) x ≡ Some (rec ds)) m.2
      (ap (λ ms. option_map rec (read_fields fs ms)) (by_name-rising m.0 rising)
      ∙ ap (option_map rec) (fields_again fs ds m.0 names (right (is_rising (form_names fs)) (are_fit fs) k) m.1))
  again (as_tagged fs) (alt n d) s k h =
      let m = map_some (tagged_slot n) (option_flatten (write_tag fs n d)) s h in
      let t = tag_again fs n d m.0 (right (are_distinct (form_names fs)) (are_fit fs) k) (flatten_some (write_tag fs n d) m.0 m.1) in
      subst (λ x. read (as_tagged fs) x ≡ Some (alt n d)) m.2 (ap (option_map (alt n)) t)
  again (as_bare fs) (alt n d) s k h =
      let shape = left (are_distinct (form_names fs) && are_told_apart fs) (are_fit fs) k in
      bare_again fs n d s (right (are_distinct (form_names fs)) (are_told_apart fs) shape) (right (are_distinct (form_names fs) && are_told_apart fs) (are_fit fs) k) h
  again (as_items f) (hold (ListOf c) ds) s k h =
      let n = length (doc_list ds) in
      let p = if_then (nat_eq c.count n) (option_map array_slot (items_written (write f) ds)) s h in
      let m = map_some array_slot (items_written (write f) ds) s p.1 in
      let r = items_again (write f) (λ j. read f (Some j)) (λ d j e. again f d (Some j) k e) ds m.0 m.1 in
      subst (λ x. read (as_items f) x ≡ Some (hold (ListOf c) ds)) m.2
      (ap (option_map listed_doc) r ∙ ap Some (list_again n ds c.count (eqb-true c.count n p.0)))
  again (as_map f) (hold (KeyedOf ks) ds) s k h =
      let p = if_then (is_rising ks) (option_map object_slot (members_written (write f) ks ds)) s h in
      let m = map_some object_slot (members_written (write f) ks ds) s p.1 in
      let names = keys_written (write f) (λ j. read f (Some j)) ks ds m.0 m.1 in
      let rising : is_rising (keys m.0) ≡ true = ap is_rising names ∙ p.0 in
      let r = members_again (write f) (λ j. read f (Some j)) (λ d j e. again f d (Some j) k e) ks ds m.0 m.1 in
      subst (λ x. read (as_map f) x ≡ Some (hold (KeyedOf ks) ds)) m.2
      (ap (λ ms. option_and_then (keyed_doc (keys ms)) (members_read (λ j. read f (Some j)) ms)) (by_name-rising m.0 rising)
      ∙ ap (option_and_then (keyed_doc (keys m.0))) r
      ∙ ap (λ ns. keyed_doc ns ds) names
      ∙ ap (λ b. cond b (Some (hold (KeyedOf ks) ds)) None) p.0)
  again f d s k h = cc

  fields_again : (fs : FormFields) (ds : DocTrees) (ms : Members) → is_rising (form_names fs) ≡ true → are_fit fs ≡ true → write_fields fs ds ≡ Some ms → read_fields fs ms ≡ Some ds
  fields_again no_forms no_docs ms r k h = subst (λ x. read_fields no_forms x ≡ Some no_docs) (some_is _ _ h) refl
  fields_again no_forms (more_docs d ds) ms r k h = cc
  fields_again (more_forms n f fs) no_docs ms r k h = cc
  fields_again (more_forms n f fs) (more_docs d ds) ms r k h =
      let b = bind_some (λ s. option_map (with_slot n s) (write_fields fs ds)) (write f d) ms h in
      let m = map_some (with_slot n b.0) (write_fields fs ds) ms b.2 in
      let after = rising-first n (keys m.0) (fields_after fs n ds m.0 r m.1) in
      let one = again f d b.0 (left (is_fit f) (are_fit fs) k) b.1 in
      let more = fields_again fs ds m.0 (rising-rest n (form_names fs) r) (right (is_fit f) (are_fit fs) k) m.1 in
      subst (λ x. read_fields (more_forms n f fs) x ≡ Some (more_docs d ds)) m.2
      (fields_join n f fs (with_slot n b.0 m.0) m.0 b.0 d ds (head_with n b.0 m.0 after) (after_with n b.0 m.0 after) one more)

  tag_again : (fs : FormFields) (n : List ℕ) (d : DocTree) (j : Json) → are_fit fs ≡ true → write_tag fs n d ≡ Some (Some j) → read_tag fs n j ≡ Some d
  tag_again no_forms n d j k h = cc
  tag_again (more_forms m f fs) n d j k h =
      choice (bytes_eq m n) (write f d) (write_tag fs n d) (Some (Some j)) (read f (Some j)) (read_tag fs n j) (Some d)
      (λ e. again f d (Some j) (left (is_fit f) (are_fit fs) k) e) (λ e. tag_again fs n d j (right (is_fit f) (are_fit fs) k) e) h

  bare_again : (fs : FormFields) (n : List ℕ) (d : DocTree) (s : Option Json) → are_told_apart fs ≡ true → are_fit fs ≡ true → write_tag fs n d ≡ Some s → read_bare fs s ≡ Some (alt n d)
  bare_again no_forms n d s a k h = cc
  bare_again (more_forms m f fs) n d s a k h =
      let apart = left (not (meets_any f fs)) (are_told_apart fs) a in
      bare_choice (bytes_eq m n) m n (takes f s) (write f d) (write_tag fs n d) (read f s) (read_bare fs s) d s refl
      (λ e. write-takes f d s e) (λ e. again f d s (left (is_fit f) (are_fit fs) k) e)
      (λ e. taken_once f fs s apart (tag-takes fs n d s e))
      (λ e. bare_again fs n d s (right (not (meets_any f fs)) (are_told_apart fs) a) (right (is_fit f) (are_fit fs) k) e) h
