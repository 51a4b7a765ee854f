-- A document's tree is read back as the document.
use Rattle.std.proofs.Common.{◌≡◌, ℕ, ◌+◌, ℤ, pos, negsuc, ◌^◌, Bool, true, false, ◌&&◌, List, [], ◌∷◌, length, Option, Some, None, option_map, refl, sym, ap, ◌∙◌, arith}
use Rattle.std.specs.Prelude.{nat_eq, nat_lt, nat_le}
use Rattle.std.proofs.lemmas.Bool.Decides.{nat_tests}
use Rattle.texts.specs.Keys.{is_rising}
use Rattle.hold_shapes.specs.Trees.{is_valid, goes_on}
use Rattle.hold_shapes.specs.declared.shape.Shape.TheVariants.{List as ListOf, Keyed as KeyedOf, Tree as TreeOf}
use Rattle.serde_json.specs.Data.{Data, null}
use Rattle.serde_json.specs.Find.{of_integer}
use Rattle.doc_values.specs.Types.{TyTree, ty_unit, ty_bool, ty_int, ty_text, ty_enum, ty_rec, ty_alt, ty_list, ty_keyed, ty_ordered, FieldTrees, no_fields, more_fields}
use Rattle.doc_values.specs.Documents.{DocTree, unit, truth, int, text, pick, rec, alt, hold, DocTrees, no_docs, more_docs, doc_list}
use Rattle.doc_values.specs.Typing.{lookup_type, has, has_fields, has_each}
use Rattle.doc_values.specs.Integers.{fits_i64}
use Rattle.value_json.specs.Numbers.{int_in, counts_of, count_items}
use Rattle.value_json.specs.DocumentJson.{tree_of_document, field_members, key_members, content_items, member_names, list_document, document_of, field_documents, member_documents, item_documents, holds_i64s, all_hold_i64s}
use Rattle.texts.proofs.Conjunction.{first as left, second as right}
use Rattle.std.proofs.lemmas.Bool.{eqb-true}
use Rattle.texts.proofs.KeyOrder.{bytes_eq-refl}

-- ---- numbers

pub int_again : (z : ℤ) → fits_i64 z ≡ true → int_in (of_integer z) ≡ Some z
int_again (pos n) fits = rw fits refl
int_again (negsuc n) fits = rw fits refl

-- depths of a tree are small
deep : (d b : ℕ) (t : Bool) → (nat_le 1 d && (nat_le d (b + 1) && (nat_le d 15 && t))) ≡ true → (nat_lt d (2 ^ 64) ≡ true) × (t ≡ true)
deep d b t h = grind (arith, nat_tests)

counts_again_from : (b : ℕ) (ds : List ℕ) → goes_on b ds ≡ true → counts_of (count_items ds) ≡ Some ds
counts_again_from b [] h = refl
counts_again_from b (d ∷ ds) h = let p = deep d b (goes_on d ds) h in rw (p.0, counts_again_from d ds p.1) refl

pub counts_again : (ds : List ℕ) → is_valid ds ≡ true → counts_of (count_items ds) ≡ Some ds
counts_again [] h = refl
counts_again (d ∷ ds) h =
    let zero : d ≡ 0 = eqb-true d 0 (left (nat_eq d 0) (goes_on 0 ds) h) in
    rw (zero, counts_again_from 0 ds (right (nat_eq d 0) (goes_on 0 ds) h)) refl

-- ---- keys

pub names_again : (t : TyTree) (ks : List (List ℕ)) (ds : DocTrees) → length ks ≡ length (doc_list ds) → member_names (key_members t ks ds) ≡ ks
names_again t [] no_docs h = refl
names_again t [] (more_docs d ds) h = refl
names_again t (k ∷ ks) no_docs h = absurd (omega arith)
names_again t (k ∷ ks) (more_docs d ds) h = ap (λ x. k ∷ x) (names_again t ks ds (omega arith))

tag_again : (n : List ℕ) (o : Option TyTree) (d : DocTree) → ((t : TyTree) → has t d ≡ true → document_of t (tree_of_document t d) ≡ Some d)
    → (elim o [ None ↦ false | Some t ↦ has t d ]) ≡ true
    → (let tree : Data = elim o [ None ↦ null | Some t ↦ tree_of_document t d ] in elim o [ None ↦ None | Some t ↦ option_map (alt n) (document_of t tree) ]) ≡ Some (alt n d)
tag_again n None d again h = cc
tag_again n (Some t) d again h = ap (option_map (alt n)) (again t h)

-- ---- documents

list_again : (n : ℕ) (ds : DocTrees) (s : ℕ) → s ≡ n → hold (ListOf (record { count = n })) ds ≡ hold (ListOf (record { count = s })) ds
list_again n ds s h = ap (λ k. hold (ListOf (record { count = k })) ds) (sym h)

mutual
  pub again : (t : TyTree) (d : DocTree) → has t d ≡ true → holds_i64s d ≡ true → document_of t (tree_of_document t d) ≡ Some d
  again ty_unit unit h k = refl
  again ty_bool (truth b) h k = refl
  again (ty_int i) (int z) h k = ap (option_map int) (int_again z k)
  again (ty_text i) (text s) h k = refl
  again (ty_enum ms i) (pick n) h k = rw h refl
  again (ty_rec fs) (rec ds) h k = ap (option_map rec) (fields_again fs ds h k)
  again (ty_alt fs) (alt n d) h k = tag_again n (lookup_type fs n) d (λ t p. again t d p k) h
  again (ty_list t) (hold (ListOf s) ds) h k =
      let n = length (doc_list ds) in
      ap (option_map list_document) (items_again t ds (right (nat_eq s.count n) (has_each t ds) h) k)
      ∙ ap Some (list_again n ds s.count (eqb-true s.count n (left (nat_eq s.count n) (has_each t ds) h)))
  again (ty_keyed t) (hold (KeyedOf ks) ds) h k =
      let n = length (doc_list ds) in
      let shape = left (is_rising ks && nat_eq (length ks) n) (has_each t ds) h in
      let same = eqb-true (length ks) n (right (is_rising ks) (nat_eq (length ks) n) shape) in
      rw (members_again t ks ds same (right (is_rising ks && nat_eq (length ks) n) (has_each t ds) h) k, names_again t ks ds same, left (is_rising ks) (nat_eq (length ks) n) shape) refl
  again (ty_ordered t) (hold (TreeOf depths) ds) h k =
      let n = length (doc_list ds) in
      let shape = left (is_valid depths && nat_eq (length depths) n) (has_each t ds) h in
      rw (counts_again depths (left (is_valid depths) (nat_eq (length depths) n) shape), items_again t ds (right (is_valid depths && nat_eq (length depths) n) (has_each t ds) h) k, shape) refl
  again t d h k = cc

  fields_again : (fs : FieldTrees) (ds : DocTrees) → has_fields fs ds ≡ true → all_hold_i64s ds ≡ true → field_documents fs (field_members fs ds) ≡ Some ds
  fields_again no_fields no_docs h k = refl
  fields_again (more_fields n t fs) (more_docs d ds) h k =
      rw (bytes_eq-refl n, again t d (left (has t d) (has_fields fs ds) h) (left (holds_i64s d) (all_hold_i64s ds) k), fields_again fs ds (right (has t d) (has_fields fs ds) h) (right (holds_i64s d) (all_hold_i64s ds) k)) refl
  fields_again fs ds h k = cc

  members_again : (t : TyTree) (ks : List (List ℕ)) (ds : DocTrees) → length ks ≡ length (doc_list ds) → has_each t ds ≡ true → all_hold_i64s ds ≡ true → member_documents t (key_members t ks ds) ≡ Some ds
  members_again t [] no_docs same h k = refl
  members_again t [] (more_docs d ds) same h k = absurd (omega arith)
  members_again t (key ∷ ks) no_docs same h k = absurd (omega arith)
  members_again t (key ∷ ks) (more_docs d ds) same h k =
      rw (again t d (left (has t d) (has_each t ds) h) (left (holds_i64s d) (all_hold_i64s ds) k), members_again t ks ds (omega arith) (right (has t d) (has_each t ds) h) (right (holds_i64s d) (all_hold_i64s ds) k)) refl

  items_again : (t : TyTree) (ds : DocTrees) → has_each t ds ≡ true → all_hold_i64s ds ≡ true → item_documents t (content_items t ds) ≡ Some ds
  items_again t no_docs h k = refl
  items_again t (more_docs d ds) h k =
      rw (again t d (left (has t d) (has_each t ds) h) (left (holds_i64s d) (all_hold_i64s ds) k), items_again t ds (right (has t d) (has_each t ds) h) (right (holds_i64s d) (all_hold_i64s ds) k)) refl
