-- What is read has the type, holds i64 numbers alone, and has the tree that was read.
use Rattle.std.proofs.Common.{◌≡◌, ℕ, ℤ, pos, negsuc, suc, true, ◌&&◌, List, [], ◌∷◌, length, Option, Some, None, option_map, option_and_then, codes, bytes_eq, refl, sym, ap, ap₂, ◌∙◌}
use Rattle.std.specs.Prelude.{nat_eq}
use Rattle.texts.specs.Keys.{is_rising, has_name}
use Rattle.hold_shapes.specs.Trees.{is_valid}
use Rattle.hold_shapes.specs.declared.shape.Shape.TheVariants.{Keyed as KeyedOf, Tree as TreeOf}
use Rattle.serde_json.specs.Data.{Num, unsigned, negative, float, Data, null, boolean, number, string, array, object, Items, no_items, item, Members, no_members, member}
use Rattle.serde_json.specs.Find.{of_integer}
use Rattle.doc_values.specs.Types.{TyTree, ty_unit, ty_bool, ty_int, ty_text, ty_enum, ty_rec, ty_alt, ty_list, ty_keyed, ty_ordered, FieldTrees, no_fields, more_fields}
use Rattle.doc_values.specs.Documents.{DocTree, unit, truth, int, text, pick, rec, alt, hold, DocTrees, no_docs, more_docs, doc_list}
use Rattle.doc_values.specs.Typing.{lookup_type, has, has_fields, has_each}
use Rattle.doc_values.specs.Integers.{fits_i64}
use Rattle.value_json.specs.Numbers.{int_in, count_in, counts_of, count_of, count_tree, count_items}
use Rattle.value_json.specs.DocumentJson.{tree_of_document, field_members, key_members, content_items, member_names, list_document, keyed_document, ordered_document, document_of, field_documents, member_documents, item_documents, holds_i64s, all_hold_i64s}
use Rattle.texts.proofs.Conjunction.{both, first as left, second as right}
use Rattle.value_json.proofs.Facts.{bind_some, map_some, if_some, if_then}
use Rattle.texts.proofs.Tests.{bytes_eq-is}
use Rattle.std.proofs.lemmas.Bool.{eq-eqb}

-- ---- numbers

pub int_takes : (x : Num) (z : ℤ) → int_in x ≡ Some z → (of_integer z ≡ x) × (fits_i64 z ≡ true)
int_takes (unsigned m) z h = let p = if_some _ _ _ h in (ap of_integer (sym p.1), ap fits_i64 (sym p.1) ∙ p.0)
int_takes (negative (pos m)) z h = cc
int_takes (negative (negsuc m)) z h = let p = if_some _ _ _ h in (ap of_integer (sym p.1), ap fits_i64 (sym p.1) ∙ p.0)
int_takes (float f) z h = cc

count_in_takes : (x : Num) (n : ℕ) → count_in x ≡ Some n → unsigned n ≡ x
count_in_takes (unsigned m) n h = let p = if_some _ _ _ h in ap unsigned (sym p.1)
count_in_takes (negative z) n h = cc
count_in_takes (float f) n h = cc

pub count_takes : (d : Data) (n : ℕ) → count_of d ≡ Some n → count_tree n ≡ d
count_takes (number x) n h = ap number (count_in_takes x n h)
count_takes d n h = cc

pub counts_take : (ds : Items) (ns : List ℕ) → counts_of ds ≡ Some ns → count_items ns ≡ ds
counts_take no_items ns h = let e : [] ≡ ns = cc in ap count_items (sym e)
counts_take (item d ds) ns h =
    let b = bind_some (λ n. option_map (λ ns. n ∷ ns) (counts_of ds)) (count_of d) ns h in
    let m = map_some (λ ns. b.0 ∷ ns) (counts_of ds) ns b.2 in
    ap count_items (sym m.2) ∙ ap₂ item (count_takes d b.0 b.1) (counts_take ds m.0 m.1)

-- ---- documents

-- a document that is read from a tree
pub record IsRead (t : TyTree) (d : Data) (v : DocTree) : Type 0 where
  pub tree : tree_of_document t v ≡ d
  pub typed : has t v ≡ true
  pub whole : holds_i64s v ≡ true

read_as : (t : TyTree) (d : Data) (v w : DocTree) → v ≡ w → IsRead t d v → IsRead t d w
read_as t d v w e r = record { tree = ap (tree_of_document t) (sym e) ∙ r.tree; typed = ap (has t) (sym e) ∙ r.typed; whole = ap holds_i64s (sym e) ∙ r.whole }

-- documents that are read from the members of a record, from those of a keyed map and from items
pub record FieldsRead (fs : FieldTrees) (ms : Members) (vs : DocTrees) : Type 0 where
  pub tree : field_members fs vs ≡ ms
  pub typed : has_fields fs vs ≡ true
  pub whole : all_hold_i64s vs ≡ true

pub record MembersRead (t : TyTree) (ms : Members) (vs : DocTrees) : Type 0 where
  pub tree : key_members t (member_names ms) vs ≡ ms
  pub many : length (member_names ms) ≡ length (doc_list vs)
  pub typed : has_each t vs ≡ true
  pub whole : all_hold_i64s vs ≡ true

pub record ItemsRead (t : TyTree) (ds : Items) (vs : DocTrees) : Type 0 where
  pub tree : content_items t vs ≡ ds
  pub typed : has_each t vs ≡ true
  pub whole : all_hold_i64s vs ≡ true

tag_takes : (fs : FieldTrees) (k : List ℕ) (o : Option TyTree) (d : Data) (v : DocTree) → lookup_type fs k ≡ o → ((t : TyTree) (w : DocTree) → document_of t d ≡ Some w → IsRead t d w)
    → (elim o [ None ↦ None | Some t ↦ option_map (alt k) (document_of t d) ]) ≡ Some v → IsRead (ty_alt fs) (object (member k d no_members)) v
tag_takes fs k None d v is takes h = cc
tag_takes fs k (Some t) d v is takes h =
    let m = map_some (alt k) (document_of t d) v h in
    let r = takes t m.0 m.1 in
    read_as _ _ _ v m.2 (record { tree = rw (is, tree_of_document) (ap (λ x. object (member k x no_members)) r.tree); typed = rw (is, has) r.typed; whole = r.whole })

ordered_tree : (t : TyTree) (k l : List ℕ) (ns ds : Items) (depths : List ℕ) (vs : DocTrees) → k ≡ codes "depths" → l ≡ codes "items" → count_items depths ≡ ns → content_items t vs ≡ ds
    → tree_of_document (ty_ordered t) (hold (TreeOf depths) vs) ≡ object (member k (array ns) (member l (array ds) no_members))
ordered_tree t k l ns ds depths vs first second numbers contents = rw (first, second, numbers, contents) refl

mutual
  pub takes : (t : TyTree) (d : Data) (v : DocTree) → document_of t d ≡ Some v → IsRead t d v
  takes ty_unit null v h = let e : unit ≡ v = cc in read_as _ _ _ v e (record { tree = refl; typed = refl; whole = refl })
  takes ty_bool (boolean b) v h = let e : truth b ≡ v = cc in read_as _ _ _ v e (record { tree = refl; typed = refl; whole = refl })
  takes (ty_int i) (number x) v h =
      let m = map_some int (int_in x) v h in
      let r = int_takes x m.0 m.1 in
      read_as _ _ _ v m.2 (record { tree = ap number r.0; typed = refl; whole = r.1 })
  takes (ty_text i) (string s) v h = let e : text s ≡ v = cc in read_as _ _ _ v e (record { tree = refl; typed = refl; whole = refl })
  takes (ty_enum ms i) (string s) v h = let p = if_some (has_name s ms) (pick s) v h in read_as _ _ _ v p.1 (record { tree = refl; typed = p.0; whole = refl })
  takes (ty_rec fs) (object ms) v h =
      let m = map_some rec (field_documents fs ms) v h in
      let r = fields_take fs ms m.0 m.1 in
      read_as _ _ _ v m.2 (record { tree = ap object r.tree; typed = r.typed; whole = r.whole })
  takes (ty_alt fs) (object (member k d no_members)) v h = tag_takes fs k (lookup_type fs k) d v refl (λ t w e. takes t d w e) h
  takes (ty_list t) (array ds) v h =
      let m = map_some list_document (item_documents t ds) v h in
      let r = items_take t ds m.0 m.1 in
      let n = length (doc_list m.0) in
      read_as _ _ _ v m.2 (record { tree = ap array r.tree; typed = both (nat_eq n n) (has_each t m.0) (eq-eqb n n refl) r.typed; whole = r.whole })
  takes (ty_keyed t) (object ms) v h =
      let b = bind_some (keyed_document (member_names ms)) (member_documents t ms) v h in
      let r = members_take t ms b.0 b.1 in
      let p = if_some (is_rising (member_names ms)) (hold (KeyedOf (member_names ms)) b.0) v b.2 in
      let n = length (doc_list b.0) in
      let shape = both (is_rising (member_names ms)) (nat_eq (length (member_names ms)) n) p.0 (eq-eqb _ n r.many) in
      read_as _ _ _ v p.1 (record { tree = ap object r.tree; typed = both (is_rising (member_names ms) && nat_eq (length (member_names ms)) n) (has_each t b.0) shape r.typed; whole = r.whole })
  takes (ty_ordered t) (object (member k (array ns) (member l (array ds) no_members))) v h =
      let names = if_then (bytes_eq k (codes "depths") && bytes_eq l (codes "items")) _ v h in
      let a = bind_some (λ depths. option_and_then (ordered_document depths) (item_documents t ds)) (counts_of ns) v names.1 in
      let b = bind_some (ordered_document a.0) (item_documents t ds) v a.2 in
      let r = items_take t ds b.0 b.1 in
      let n = length (doc_list b.0) in
      let p = if_some (is_valid a.0 && nat_eq (length a.0) n) (hold (TreeOf a.0) b.0) v b.2 in
      let first = bytes_eq-is k (codes "depths") (left (bytes_eq k (codes "depths")) (bytes_eq l (codes "items")) names.0) in
      let second = bytes_eq-is l (codes "items") (right (bytes_eq k (codes "depths")) (bytes_eq l (codes "items")) names.0) in
      read_as _ _ _ v p.1 (record {
        tree = ordered_tree t k l ns ds a.0 b.0 first second (counts_take ns a.0 a.1) r.tree;
        typed = both (is_valid a.0 && nat_eq (length a.0) n) (has_each t b.0) p.0 r.typed;
        whole = r.whole;
      })
  takes t d v h = cc

  fields_take : (fs : FieldTrees) (ms : Members) (vs : DocTrees) → field_documents fs ms ≡ Some vs → FieldsRead fs ms vs
  fields_take no_fields no_members vs h = let e : no_docs ≡ vs = cc in rw (← e) (record { tree = refl; typed = refl; whole = refl })
  fields_take (more_fields n t fs) (member k d ms) vs h =
      let p = if_then (bytes_eq n k) _ vs h in
      let b = bind_some (λ c. option_map (more_docs c) (field_documents fs ms)) (document_of t d) vs p.1 in
      let m = map_some (more_docs b.0) (field_documents fs ms) vs b.2 in
      let r = takes t d b.0 b.1 in
      let s = fields_take fs ms m.0 m.1 in
      let name : n ≡ k = bytes_eq-is n k p.0 in
      rw (← m.2) (record {
        tree = rw (name, r.tree, s.tree) refl;
        typed = both (has t b.0) (has_fields fs m.0) r.typed s.typed;
        whole = both (holds_i64s b.0) (all_hold_i64s m.0) r.whole s.whole;
      })
  fields_take fs ms vs h = cc

  members_take : (t : TyTree) (ms : Members) (vs : DocTrees) → member_documents t ms ≡ Some vs → MembersRead t ms vs
  members_take t no_members vs h = let e : no_docs ≡ vs = cc in rw (← e) (record { tree = refl; many = refl; typed = refl; whole = refl })
  members_take t (member k d ms) vs h =
      let b = bind_some (λ c. option_map (more_docs c) (member_documents t ms)) (document_of t d) vs h in
      let m = map_some (more_docs b.0) (member_documents t ms) vs b.2 in
      let r = takes t d b.0 b.1 in
      let s = members_take t ms m.0 m.1 in
      rw (← m.2) (record {
        tree = rw (r.tree, s.tree) refl;
        many = ap suc s.many;
        typed = both (has t b.0) (has_each t m.0) r.typed s.typed;
        whole = both (holds_i64s b.0) (all_hold_i64s m.0) r.whole s.whole;
      })

  items_take : (t : TyTree) (ds : Items) (vs : DocTrees) → item_documents t ds ≡ Some vs → ItemsRead t ds vs
  items_take t no_items vs h = let e : no_docs ≡ vs = cc in rw (← e) (record { tree = refl; typed = refl; whole = refl })
  items_take t (item d ds) vs h =
      let b = bind_some (λ c. option_map (more_docs c) (item_documents t ds)) (document_of t d) vs h in
      let m = map_some (more_docs b.0) (item_documents t ds) vs b.2 in
      let r = takes t d b.0 b.1 in
      let s = items_take t ds m.0 m.1 in
      rw (← m.2) (record {
        tree = rw (r.tree, s.tree) refl;
        typed = both (has t b.0) (has_each t m.0) r.typed s.typed;
        whole = both (holds_i64s b.0) (all_hold_i64s m.0) r.whole s.whole;
      })
