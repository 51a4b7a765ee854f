-- What is written by a fit form has the letters of numbers where it has numbers.
use Rattle.std.proofs.Common.{◌≡◌, ℕ, ℤ, pos, negsuc, ◌<◌, ◌^◌, Bool, true, false, ◌&&◌, cond, bytes_eq, List, [], ◌∷◌, length, Option, Some, None, option_map, refl, subst, arith}
use Rattle.std.specs.Prelude.{nat_eq}
use Rattle.std.specs.Option.{option_flatten}
use Rattle.std.specs.Fmt.{signed_decimal}
use Rattle.std.specs.Int.Signed.{mag}
use Rattle.std.proofs.lemmas.Bool.Decides.{nat_tests}
use Rattle.json.specs.Word.{after_number}
use Rattle.json.specs.Print.{IsNumber}
use Rattle.json.specs.Json.{Json, number, string, Items, item, Members, member}
use Rattle.json.specs.Tree.{HasNumbers, ItemsHaveNumbers, MembersHaveNumbers}
use Rattle.json.proofs.Printed.Decimals.{IsNumber-signed_decimal}
use Rattle.texts.specs.Keys.{is_rising, has_name}
use Rattle.texts.proofs.Conjunction.{first as left, second as right}
use Rattle.hold_shapes.specs.declared.shape.Shape.TheVariants.{List as ListOf, Keyed as KeyedOf}
use Rattle.doc_values.specs.Types.{are_distinct}
use Rattle.doc_values.specs.Documents.{DocTree, unit, truth, int, text, pick, rec, alt, hold, DocTrees, no_docs, more_docs, doc_list}
use Rattle.doc_values.specs.Integers.{fits_i64}
use Rattle.file_forms.specs.declared.literal.Literal.{Literal}
use Rattle.file_forms.specs.declared.literal.Literal.TheVariants.{Gone, Null, Bool as Truth, Number, Text}
use Rattle.file_forms.specs.Forms.{FileFormTree, as_literal, as_bool, as_truths, as_int, as_text, as_enum, as_words, as_number, as_object, as_tagged, as_bare, as_items, as_map, FormFields, no_forms, more_forms, form_names, word_names, word_literals}
use Rattle.file_forms.specs.Numbers.{nothing_left, is_number}
use Rattle.file_forms.specs.Slots.{literal_slot, are_told_apart}
use Rattle.file_forms.specs.Fitting.{is_writable, are_writable, are_unlike, is_fit, are_fit}
use Rattle.file_forms.specs.FileValues.{truth_literal, word_slot, with_slot, array_slot, object_slot, tagged_slot, items_written, members_written, write, write_fields, write_tag}
use Rattle.file_forms.proofs.Facts.{some_is, bind_some, map_some, flatten_some, if_some, if_then}

-- a slot that has a tree has one in which each number has the letters of one
abbrev pub SlotHasNumbers : Option Json → Type 0
SlotHasNumbers None = Unit {0}
SlotHasNumbers (Some j) = HasNumbers j

nothing : (o : Option (List ℕ)) → nothing_left o ≡ true → o ≡ Some []
nothing None h = cc
nothing (Some []) h = refl
nothing (Some (c ∷ cs)) h = cc

number-is : (s : List ℕ) → is_number s ≡ true → IsNumber s
number-is s h = nothing (after_number s) h

small : (z : ℤ) → fits_i64 z ≡ true → mag z < 2 ^ 63
small (pos n) h = grind (arith, nat_tests)
small (negsuc n) h = grind (arith, nat_tests)

literal_numbers : (l : Literal) → is_writable l ≡ true → SlotHasNumbers (literal_slot l)
literal_numbers Gone h = tt
literal_numbers Null h = tt
literal_numbers (Truth b) h = tt
literal_numbers (Number s) h = number-is s h
literal_numbers (Text s) h = tt

truth_numbers : (f t : Literal) (b : Bool) → are_writable (f ∷ t ∷ []) ≡ true → SlotHasNumbers (literal_slot (truth_literal f t b))
truth_numbers f t false k = literal_numbers f (left (is_writable f) (are_writable (t ∷ [])) k)
truth_numbers f t true k = literal_numbers t (left (is_writable t) true (right (is_writable f) (are_writable (t ∷ [])) k))

joined : (n : List ℕ) (s : Option Json) (ms : Members) → SlotHasNumbers s → MembersHaveNumbers ms → MembersHaveNumbers (with_slot n s ms)
joined n None ms h k = k
joined n (Some j) ms h k = (h, k)

-- the case of a choice
chosen : {X : Type 0} (b : Bool) (p q : Option X) (x : X) (P : Type 0) → (p ≡ Some x → P) → (q ≡ Some x → P) → cond b p q ≡ Some x → P
chosen true p q x P f g h = f h
chosen false p q x P f g h = g h

word_numbers : (ws : List (List ℕ × Literal)) (n : List ℕ) (s : Option Json) → are_writable (word_literals ws) ≡ true → word_slot ws n ≡ Some s → SlotHasNumbers s
word_numbers [] n s k h = cc
word_numbers (w ∷ ws) n s k h =
    chosen (bytes_eq w.0 n) (Some (literal_slot w.1)) (word_slot ws n) s (SlotHasNumbers s)
    (λ e. subst SlotHasNumbers (some_is _ _ e) (literal_numbers w.1 (left (is_writable w.1) (are_writable (word_literals ws)) k)))
    (λ e. word_numbers ws n s (right (is_writable w.1) (are_writable (word_literals ws)) k) e) h

module _ (write : DocTree → Option (Option Json)) (numbers : (d : DocTree) (j : Json) → write d ≡ Some (Some j) → HasNumbers j) where
  items_numbers : (ds : DocTrees) (js : Items) → items_written write ds ≡ Some js → ItemsHaveNumbers js
  items_numbers no_docs js h = subst ItemsHaveNumbers (some_is _ _ h) tt
  items_numbers (more_docs d ds) js h =
      let b = bind_some (λ j. option_map (item j) (items_written write ds)) (option_flatten (write d)) js h in
      let m = map_some (item b.0) (items_written write ds) js b.2 in
      subst ItemsHaveNumbers m.2 (numbers d b.0 (flatten_some (write d) b.0 b.1), items_numbers ds m.0 m.1)

  members_numbers : (ks : List (List ℕ)) (ds : DocTrees) (ms : Members) → members_written write ks ds ≡ Some ms → MembersHaveNumbers ms
  members_numbers [] no_docs ms h = subst MembersHaveNumbers (some_is _ _ h) tt
  members_numbers [] (more_docs d ds) ms h = cc
  members_numbers (k ∷ ks) no_docs ms h = cc
  members_numbers (k ∷ ks) (more_docs d ds) ms h =
      let b = bind_some (λ j. option_map (member k j) (members_written write ks ds)) (option_flatten (write d)) ms h in
      let m = map_some (member k b.0) (members_written write ks ds) ms b.2 in
      subst MembersHaveNumbers m.2 (numbers d b.0 (flatten_some (write d) b.0 b.1), members_numbers ks ds m.0 m.1)

mutual
  pub numbers : (f : FileFormTree) (d : DocTree) (s : Option Json) → is_fit f ≡ true → write f d ≡ Some s → SlotHasNumbers s
  numbers (as_literal l) unit s k h = subst SlotHasNumbers (some_is _ _ h) (literal_numbers l k)
  numbers as_bool (truth b) s k h = subst SlotHasNumbers (some_is _ _ h) tt
  numbers (as_truths f t) (truth b) s k h =
      subst SlotHasNumbers (some_is _ _ h) (truth_numbers f t b (right (are_unlike (f ∷ t ∷ [])) (are_writable (f ∷ t ∷ [])) k))
  numbers (as_int i) (int z) s k h =
      let p = if_some (fits_i64 z) (Some (number (signed_decimal z))) s h in
      subst SlotHasNumbers p.1 (IsNumber-signed_decimal z (small z p.0))
  numbers (as_text i) (text t) s k h = subst SlotHasNumbers (some_is _ _ h) tt
  numbers (as_enum ms i) (pick n) s k h = subst SlotHasNumbers (if_some (has_name n ms) (Some (string n)) s h).1 tt
  numbers (as_words ws i) (pick n) s k h =
      let literals = right (are_distinct (word_names ws)) (are_unlike (word_literals ws) && are_writable (word_literals ws)) k in
      word_numbers ws n s (right (are_unlike (word_literals ws)) (are_writable (word_literals ws)) literals) h
  numbers (as_number i) (text t) s k h =
      let p = if_some (is_number t) (Some (number t)) s h in
      subst SlotHasNumbers p.1 (number-is t p.0)
  numbers (as_object fs) (rec ds) s k h =
      let m = map_some object_slot (write_fields fs ds) s h in
      subst SlotHasNumbers m.2 (fields_numbers fs ds m.0 (right (is_rising (form_names fs)) (are_fit fs) k) m.1)
  numbers (as_tagged fs) (alt n d) s k h =
      let m = map_some (tagged_slot n) (option_flatten (write_tag fs n d)) s h in
      let content = tag_numbers fs n d (Some m.0) (right (are_distinct (form_names fs)) (are_fit fs) k) (flatten_some (write_tag fs n d) m.0 m.1) in
      subst SlotHasNumbers m.2 (content, tt)
  numbers (as_bare fs) (alt n d) s k h = tag_numbers fs n d s (right (are_distinct (form_names fs) && are_told_apart fs) (are_fit fs) k) h
  numbers (as_items f) (hold (ListOf c) ds) s k h =
      let p = if_then (nat_eq c.count (length (doc_list ds))) (option_map array_slot (items_written (write f) ds)) s h in
      let m = map_some array_slot (items_written (write f) ds) s p.1 in
      subst SlotHasNumbers m.2 (items_numbers (write f) (λ d j e. numbers f d (Some j) k e) ds m.0 m.1)
  numbers (as_map f) (hold (KeyedOf ks) ds) s k h =
      let p = if_then (is_rising ks) (option_map object_slot (members_written (write f) ks ds)) s h in
      let m = map_some object_slot (members_written (write f) ks ds) s p.1 in
      subst SlotHasNumbers m.2 (members_numbers (write f) (λ d j e. numbers f d (Some j) k e) ks ds m.0 m.1)
  numbers f d s k h = cc

  fields_numbers : (fs : FormFields) (ds : DocTrees) (ms : Members) → are_fit fs ≡ true → write_fields fs ds ≡ Some ms → MembersHaveNumbers ms
  fields_numbers no_forms no_docs ms k h = subst MembersHaveNumbers (some_is _ _ h) tt
  fields_numbers no_forms (more_docs d ds) ms k h = cc
  fields_numbers (more_forms n f fs) no_docs ms k h = cc
  fields_numbers (more_forms n f fs) (more_docs d ds) ms k h =
      let b = bind_some (λ s. option_map (with_slot n s) (write_fields fs ds)) (write f d) ms h in
      let m = map_some (with_slot n b.0) (write_fields fs ds) ms b.2 in
      subst MembersHaveNumbers m.2
      (joined n b.0 m.0 (numbers f d b.0 (left (is_fit f) (are_fit fs) k) b.1) (fields_numbers fs ds m.0 (right (is_fit f) (are_fit fs) k) m.1))

  tag_numbers : (fs : FormFields) (n : List ℕ) (d : DocTree) (s : Option Json) → are_fit fs ≡ true → write_tag fs n d ≡ Some s → SlotHasNumbers s
  tag_numbers no_forms n d s k h = cc
  tag_numbers (more_forms m f fs) n d s k h =
      chosen (bytes_eq m n) (write f d) (write_tag fs n d) s (SlotHasNumbers s)
      (λ e. numbers f d s (left (is_fit f) (are_fit fs) k) e) (λ e. tag_numbers fs n d s (right (is_fit f) (are_fit fs) k) e) h
