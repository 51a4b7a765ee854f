-- What is written has the type of its form.
use Rattle.std.proofs.Common.{◌≡◌, ℕ, Bool, true, false, ◌&&◌, cond, bytes_eq, List, length, Option, Some, None, option_map, refl}
use Rattle.std.specs.Prelude.{nat_eq}
use Rattle.std.specs.Option.{option_flatten}
use Rattle.std.proofs.lemmas.Bool.{eq-eqb}
use Rattle.json.specs.Json.{Json, string, Members}
use Rattle.texts.specs.Keys.{is_rising, has_name}
use Rattle.texts.proofs.Conjunction.{both}
use Rattle.hold_shapes.specs.declared.shape.Shape.TheVariants.{List as ListOf, Keyed as KeyedOf}
use Rattle.doc_values.specs.Types.{TyTree, ty_alt}
use Rattle.doc_values.specs.Documents.{DocTree, unit, truth, int, text, pick, rec, alt, hold, DocTrees, no_docs, more_docs, doc_list}
use Rattle.doc_values.specs.Typing.{has, has_fields, has_each, lookup_field, later_field}
use Rattle.file_forms.specs.Forms.{FileFormTree, as_literal, as_bool, as_truths, as_int, as_text, as_enum, as_words, as_number, as_object, as_tagged, as_bare, as_items, as_map, FormFields, no_forms, more_forms, type_of, types_of}
use Rattle.file_forms.specs.FileValues.{with_slot, array_slot, object_slot, tagged_slot, items_written, members_written, read, write, write_fields, write_tag}
use Rattle.file_forms.proofs.Facts.{bind_some, map_some, flatten_some, if_some, if_then}
use Rattle.file_forms.proofs.MemberLiterals.{slot_named}
use Rattle.file_forms.proofs.Contents.{items_typed, members_typed, many_written}

-- the content of a tag that is found has its type, or a later one has
tag_has : (b : Bool) (t : TyTree) (o : Option (ℕ × TyTree)) (d : DocTree) (w v : Option (Option Json)) (s : Option Json) → (w ≡ Some s → has t d ≡ true)
    → (v ≡ Some s → (elim (option_map (λ (f : ℕ × TyTree). f.1) o) [ None ↦ false | Some t ↦ has t d ]) ≡ true) → cond b w v ≡ Some s
    → (elim (option_map (λ (f : ℕ × TyTree). f.1) (cond b (Some (0, t)) (option_map (later_field 1) o))) [ None ↦ false | Some t ↦ has t d ]) ≡ true
tag_has true t o d w v s one more h = one h
tag_has false t None d w v s one more h = more h
tag_has false t (Some p) d w v s one more h = more h

mutual
  pub typed : (f : FileFormTree) (d : DocTree) (s : Option Json) → write f d ≡ Some s → has (type_of f) d ≡ true
  typed (as_literal l) unit s h = refl
  typed as_bool (truth b) s h = refl
  typed (as_truths f t) (truth b) s h = refl
  typed (as_int i) (int z) s h = refl
  typed (as_text i) (text t) s h = refl
  typed (as_enum ms i) (pick n) s h = (if_some (has_name n ms) (Some (string n)) s h).0
  typed (as_words ws i) (pick n) s h = slot_named ws n s h
  typed (as_number i) (text t) s h = refl
  typed (as_object fs) (rec ds) s h =
      let m = map_some object_slot (write_fields fs ds) s h in
      fields_typed fs ds m.0 m.1
  typed (as_tagged fs) (alt n d) s h =
      let m = map_some (tagged_slot n) (option_flatten (write_tag fs n d)) s h in
      tag_typed fs n d (Some m.0) (flatten_some (write_tag fs n d) m.0 m.1)
  typed (as_bare fs) (alt n d) s h = tag_typed fs n d s h
  typed (as_items f) (hold (ListOf c) ds) s h =
      let n = length (doc_list ds) in
      let p = if_then (nat_eq c.count n) (option_map array_slot (items_written (write f) ds)) s h in
      let m = map_some array_slot (items_written (write f) ds) s p.1 in
      both (nat_eq c.count n) (has_each (type_of f) ds) p.0
      (items_typed (write f) (λ j. read f (Some j)) (type_of f) (λ d t e. typed f d t e) ds m.0 m.1)
  typed (as_map f) (hold (KeyedOf ks) ds) s h =
      let n = length (doc_list ds) in
      let p = if_then (is_rising ks) (option_map object_slot (members_written (write f) ks ds)) s h in
      let m = map_some object_slot (members_written (write f) ks ds) s p.1 in
      let many = many_written (write f) (λ j. read f (Some j)) ks ds m.0 m.1 in
      both (is_rising ks && nat_eq (length ks) n) (has_each (type_of f) ds) (both (is_rising ks) (nat_eq (length ks) n) p.0 (eq-eqb (length ks) n many))
      (members_typed (write f) (λ j. read f (Some j)) (type_of f) (λ d t e. typed f d t e) ks ds m.0 m.1)
  typed f d s h = cc

  pub fields_typed : (fs : FormFields) (ds : DocTrees) (ms : Members) → write_fields fs ds ≡ Some ms → has_fields (types_of fs) ds ≡ true
  fields_typed no_forms no_docs ms h = refl
  fields_typed no_forms (more_docs d ds) ms h = cc
  fields_typed (more_forms n f fs) no_docs ms h = cc
  fields_typed (more_forms n f fs) (more_docs d ds) ms h =
      let b = bind_some (λ s. option_map (with_slot n s) (write_fields fs ds)) (write f d) ms h in
      let m = map_some (with_slot n b.0) (write_fields fs ds) ms b.2 in
      both (has (type_of f) d) (has_fields (types_of fs) ds) (typed f d b.0 b.1) (fields_typed fs ds m.0 m.1)

  pub tag_typed : (fs : FormFields) (n : List ℕ) (d : DocTree) (s : Option Json) → write_tag fs n d ≡ Some s → has (ty_alt (types_of fs)) (alt n d) ≡ true
  tag_typed no_forms n d s h = cc
  tag_typed (more_forms m f fs) n d s h =
      tag_has (bytes_eq m n) (type_of f) (lookup_field (types_of fs) n) d (write f d) (write_tag fs n d) s (λ e. typed f d s e) (λ e. tag_typed fs n d s e) h
