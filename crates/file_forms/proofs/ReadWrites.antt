-- What is read is written back, with the members of its objects in byte order.
use Rattle.std.proofs.Common.{◌≡◌, ℕ, Bool, true, false, not, ◌&&◌, ◌||◌, cond, bytes_eq, List, length, Option, Some, None, option_map, option_and_then, refl, sym, subst, ap, ◌∙◌}
use Rattle.std.specs.Option.{option_flatten}
use Rattle.std.specs.Fmt.{signed_decimal}
use Rattle.json.specs.Json.{Json, boolean, number, string, array, object, Members, no_members, member}
use Rattle.json.specs.Strict.{keys}
use Rattle.texts.specs.Keys.{is_rising, has_name}
use Rattle.texts.proofs.Conjunction.{first as left, second as right}
use Rattle.texts.proofs.KeyOrder.{bytes_eq-refl}
use Rattle.texts.proofs.Tests.{bytes_eq-is, or_second, nat_eq-refl}
use Rattle.hold_shapes.specs.declared.shape.Shape.TheVariants.{Keyed as KeyedOf}
use Rattle.doc_values.specs.Types.{are_distinct}
use Rattle.doc_values.specs.Documents.{DocTree, unit, truth, int, text, pick, rec, alt, hold, DocTrees, more_docs, doc_list}
use Rattle.file_forms.specs.Forms.{FileFormTree, as_literal, as_bool, as_truths, as_int, as_text, as_enum, as_words, as_number, as_object, as_tagged, as_bare, as_items, as_map, FormFields, no_forms, more_forms, form_names, word_names, word_literals}
use Rattle.file_forms.specs.Orders.{by_name, sorted, sorted_items, sorted_members}
use Rattle.file_forms.specs.Slots.{is_literal, takes, are_told_apart}
use Rattle.file_forms.specs.Fitting.{are_unlike, are_writable, is_fit, are_fit}
use Rattle.file_forms.specs.Numbers.{is_number}
use Rattle.file_forms.specs.FileValues.{int_text, truth_of, word_of, head_slot, after_head, with_slot, listed_doc, keyed_doc, array_slot, object_slot, tagged_slot, items_read, members_read, items_written, members_written, read, read_fields, read_tag, read_bare, write, write_fields, write_tag}
use Rattle.file_forms.proofs.Facts.{some_is, bind_some, map_some, if_some, choice, refuted, not_both}
use Rattle.file_forms.proofs.Sorting.{each_sorted, sorted_each}
use Rattle.file_forms.proofs.Telling.{literal-is, sorted_literal}
use Rattle.file_forms.proofs.MemberLiterals.{truth_found, word_found, other_name}
use Rattle.file_forms.proofs.IntTexts.{int_found}
use Rattle.file_forms.proofs.Contents.{items_found, members_found, only_found, head_back}

-- what a content that is written alone was read as
pub record BareFound (fs : FormFields) (s : Option Json) (v : DocTree) : Type 0 where
  pub tag : List ℕ
  pub content : DocTree
  pub is : alt tag content ≡ v
  pub named : has_name tag (form_names fs) ≡ true
  pub written : write_tag fs tag content ≡ Some (option_map sorted s)

bare_case : (t : Bool) (n : List ℕ) (f : FileFormTree) (fs : FormFields) (s : Option Json) (v : DocTree) → not (has_name n (form_names fs)) ≡ true
    → ((d : DocTree) → read f s ≡ Some d → write f d ≡ Some (option_map sorted s)) → (read_bare fs s ≡ Some v → BareFound fs s v)
    → cond t (option_map (alt n) (read f s)) (read_bare fs s) ≡ Some v → BareFound (more_forms n f fs) s v
bare_case true n f fs s v lacks one more h =
    let m = map_some (alt n) (read f s) v h in
    record {
      tag = n;
      content = m.0;
      is = m.2;
      named = ap (λ b. b || has_name n (form_names fs)) (bytes_eq-refl n);
      written = ap (λ b. cond b (write f m.0) (write_tag fs n m.0)) (bytes_eq-refl n) ∙ one m.0 m.1;
    }
bare_case false n f fs s v lacks one more h =
    let r = more h in
    record {
      tag = r.tag;
      content = r.content;
      is = r.is;
      named = or_second (bytes_eq r.tag n) (has_name r.tag (form_names fs)) r.named;
      written = ap (λ b. cond b (write f r.content) (write_tag fs r.tag r.content)) (other_name n r.tag (form_names fs) lacks r.named) ∙ r.written;
    }

mutual
  pub found : (f : FileFormTree) (s : Option Json) (v : DocTree) → is_fit f ≡ true → read f s ≡ Some v → write f v ≡ Some (option_map sorted s)
  found (as_literal l) s v k h =
      let p = if_some (is_literal l s) unit v h in
      let e = literal-is l s p.0 in
      subst (λ x. write (as_literal l) x ≡ Some (option_map sorted s)) p.1 (ap Some (sym (ap (option_map sorted) e ∙ sorted_literal l)))
  found as_bool (Some (boolean b)) v k h = subst (λ x. write as_bool x ≡ Some (Some (boolean b))) (some_is _ _ h) refl
  found (as_truths f t) s v k h =
      let m = map_some truth (truth_of f t s) v h in
      subst (λ x. write (as_truths f t) x ≡ Some (option_map sorted s)) m.2 (ap Some (truth_found f t s m.0 m.1))
  found (as_int i) (Some (number t)) v k h =
      let m = map_some int (int_text t) v h in
      let r = int_found t m.0 m.1 in
      subst (λ x. write (as_int i) x ≡ Some (Some (number t))) m.2
      (ap (λ b. cond b (Some (Some (number (signed_decimal m.0)))) None) r.0 ∙ ap (λ x. Some (Some (number x))) r.1)
  found (as_text i) (Some (string t)) v k h = subst (λ x. write (as_text i) x ≡ Some (Some (string t))) (some_is _ _ h) refl
  found (as_enum ms i) (Some (string t)) v k h =
      let p = if_some (has_name t ms) (pick t) v h in
      subst (λ x. write (as_enum ms i) x ≡ Some (Some (string t))) p.1 (ap (λ b. cond b (Some (Some (string t))) None) p.0)
  found (as_words ws i) s v k h =
      let m = map_some pick (word_of ws s) v h in
      let distinct = left (are_distinct (word_names ws)) (are_unlike (word_literals ws) && are_writable (word_literals ws)) k in
      subst (λ x. write (as_words ws i) x ≡ Some (option_map sorted s)) m.2 (word_found ws s m.0 distinct m.1)
  found (as_number i) (Some (number t)) v k h =
      let p = if_some (is_number t) (text t) v h in
      subst (λ x. write (as_number i) x ≡ Some (Some (number t))) p.1 (ap (λ b. cond b (Some (Some (number t))) None) p.0)
  found (as_object fs) (Some (object ms)) v k h =
      let m = map_some rec (read_fields fs (by_name ms)) v h in
      let r = fields_found fs (by_name ms) m.0 (right (is_rising (form_names fs)) (are_fit fs) k) m.1 in
      subst (λ x. write (as_object fs) x ≡ Some (Some (object (sorted_members ms)))) m.2
      (ap (option_map object_slot) r ∙ ap (λ x. Some (Some (object x))) (sorted_each ms))
  found (as_tagged fs) (Some (object ms)) v k h =
      let o = only_found (read_tag fs) (by_name ms) v h in
      let t = tag_found fs o.tag o.tree o.content (right (are_distinct (form_names fs)) (are_fit fs) k) o.read_it in
      subst (λ x. write (as_tagged fs) x ≡ Some (Some (object (sorted_members ms)))) o.is
      (ap (λ x. option_map (tagged_slot o.tag) (option_flatten x)) t
      ∙ ap (λ x. Some (Some (object x))) (ap each_sorted (sym o.members) ∙ sorted_each ms))
  found (as_bare fs) s v k h =
      let shape = left (are_distinct (form_names fs) && are_told_apart fs) (are_fit fs) k in
      let b = bare_found fs s v (left (are_distinct (form_names fs)) (are_told_apart fs) shape) (right (are_distinct (form_names fs) && are_told_apart fs) (are_fit fs) k) h in
      subst (λ x. write (as_bare fs) x ≡ Some (option_map sorted s)) b.is b.written
  found (as_items f) (Some (array js)) v k h =
      let m = map_some listed_doc (items_read (λ j. read f (Some j)) js) v h in
      let r = items_found (write f) (λ j. read f (Some j)) (λ j d e. found f (Some j) d k e) js m.0 m.1 in
      subst (λ x. write (as_items f) x ≡ Some (Some (array (sorted_items js)))) m.2
      (ap (λ b. cond b (option_map array_slot (items_written (write f) m.0)) None) (nat_eq-refl (length (doc_list m.0))) ∙ ap (option_map array_slot) r)
  found (as_map f) (Some (object ms)) v k h =
      let b = bind_some (keyed_doc (keys (by_name ms))) (members_read (λ j. read f (Some j)) (by_name ms)) v h in
      let p = if_some (is_rising (keys (by_name ms))) (hold (KeyedOf (keys (by_name ms))) b.0) v b.2 in
      let r = members_found (write f) (λ j. read f (Some j)) (λ j d e. found f (Some j) d k e) (by_name ms) b.0 b.1 in
      subst (λ x. write (as_map f) x ≡ Some (Some (object (sorted_members ms)))) p.1
      (ap (λ x. cond x (option_map object_slot (members_written (write f) (keys (by_name ms)) b.0)) None) p.0
      ∙ ap (option_map object_slot) r ∙ ap (λ x. Some (Some (object x))) (sorted_each ms))
  found f s v k h = cc

  fields_found : (fs : FormFields) (ms : Members) (vs : DocTrees) → are_fit fs ≡ true → read_fields fs ms ≡ Some vs → write_fields fs vs ≡ Some (each_sorted ms)
  fields_found no_forms no_members vs k h = subst (λ x. write_fields no_forms x ≡ Some no_members) (some_is _ _ h) refl
  fields_found no_forms (member n j ms) vs k h = cc
  fields_found (more_forms n f fs) ms vs k h =
      let b = bind_some (λ d. option_map (more_docs d) (read_fields fs (after_head n ms))) (read f (head_slot n ms)) vs h in
      let m = map_some (more_docs b.0) (read_fields fs (after_head n ms)) vs b.2 in
      let one = found f (head_slot n ms) b.0 (left (is_fit f) (are_fit fs) k) b.1 in
      let more = fields_found fs (after_head n ms) m.0 (right (is_fit f) (are_fit fs) k) m.1 in
      subst (λ x. write_fields (more_forms n f fs) x ≡ Some (each_sorted ms)) m.2
      (ap (option_and_then (λ s. option_map (with_slot n s) (write_fields fs m.0))) one
      ∙ ap (option_map (with_slot n (option_map sorted (head_slot n ms)))) more ∙ ap Some (head_back n ms))

  tag_found : (fs : FormFields) (n : List ℕ) (j : Json) (d : DocTree) → are_fit fs ≡ true → read_tag fs n j ≡ Some d → write_tag fs n d ≡ Some (Some (sorted j))
  tag_found no_forms n j d k h = cc
  tag_found (more_forms m f fs) n j d k h =
      choice (bytes_eq m n) (read f (Some j)) (read_tag fs n j) (Some d) (write f d) (write_tag fs n d) (Some (Some (sorted j)))
      (λ e. found f (Some j) d (left (is_fit f) (are_fit fs) k) e) (λ e. tag_found fs n j d (right (is_fit f) (are_fit fs) k) e) h

  bare_found : (fs : FormFields) (s : Option Json) (v : DocTree) → are_distinct (form_names fs) ≡ true → are_fit fs ≡ true → read_bare fs s ≡ Some v → BareFound fs s v
  bare_found no_forms s v a k h = cc
  bare_found (more_forms n f fs) s v a k h =
      bare_case (takes f s) n f fs s v (left (not (has_name n (form_names fs))) (are_distinct (form_names fs)) a)
      (λ d e. found f s d (left (is_fit f) (are_fit fs) k) e)
      (λ e. bare_found fs s v (right (not (has_name n (form_names fs))) (are_distinct (form_names fs)) a) (right (is_fit f) (are_fit fs) k) e) h
