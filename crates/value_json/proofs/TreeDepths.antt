-- The tree of a document has no float, and nests less than twice as deep as its type is high.
use Rattle.std.proofs.Common.{◌≡◌, ℕ, ◌*◌, ◌<◌, ◌≤◌, false, ℤ, pos, negsuc, List, [], ◌∷◌, Option, Some, None, refl, ap, arith}
use Rattle.std.proofs.lemmas.Bool.{or_from}
use Rattle.hold_shapes.specs.declared.shape.Shape.TheVariants.{List as ListOf, Keyed as KeyedOf, Tree as TreeOf}
use Rattle.serde_json.specs.Data.{Data, null, depth, items_depth, members_depth}
use Rattle.serde_json.specs.Written.{has_float, items_have_float, members_have_float}
use Rattle.doc_values.specs.Types.{TyTree, ty_unit, ty_bool, ty_int, ty_text, ty_enum, ty_rec, ty_alt, ty_list, ty_keyed, ty_ordered, FieldTrees, more_fields, height, highest}
use Rattle.doc_values.specs.Documents.{DocTree, unit, truth, int, text, pick, rec, alt, hold, DocTrees, no_docs, more_docs}
use Rattle.doc_values.specs.Typing.{lookup_type}
use Rattle.doc_values.proofs.FieldPlaces.{lookup_field-height, lookup_type_place}
use Rattle.value_json.specs.Numbers.{int_tree, count_items}
use Rattle.value_json.specs.DocumentJson.{tree_of_document, field_members, key_members, content_items}

-- ---- no float

pub int_whole : (z : ℤ) → has_float (int_tree z) ≡ false
int_whole (pos n) = refl
int_whole (negsuc n) = refl

pub counts_whole : (ns : List ℕ) → items_have_float (count_items ns) ≡ false
counts_whole [] = refl
counts_whole (n ∷ ns) = counts_whole ns

content_whole : (o : Option TyTree) (d : DocTree) → ((t : TyTree) → has_float (tree_of_document t d) ≡ false) → (let x : Data = elim o [ None ↦ null | Some t ↦ tree_of_document t d ] in has_float x ≡ false)
content_whole None d whole = refl
content_whole (Some t) d whole = whole t

mutual
  pub whole : (t : TyTree) (d : DocTree) → has_float (tree_of_document t d) ≡ false
  whole ty_unit unit = refl
  whole ty_bool (truth b) = refl
  whole (ty_int i) (int z) = int_whole z
  whole (ty_text i) (text s) = refl
  whole (ty_enum ms i) (pick n) = refl
  whole (ty_rec fs) (rec ds) = fields_whole fs ds
  whole (ty_alt fs) (alt n d) = or_from _ false (content_whole (lookup_type fs n) d (λ t. whole t d)) refl
  whole (ty_list t) (hold (ListOf s) ds) = items_whole t ds
  whole (ty_keyed t) (hold (KeyedOf ks) ds) = members_whole t ks ds
  whole (ty_ordered t) (hold (TreeOf depths) ds) = or_from _ _ (counts_whole depths) (or_from _ false (items_whole t ds) refl)
  whole t d = refl

  fields_whole : (fs : FieldTrees) (ds : DocTrees) → members_have_float (field_members fs ds) ≡ false
  fields_whole (more_fields n t fs) (more_docs d ds) = or_from _ _ (whole t d) (fields_whole fs ds)
  fields_whole fs ds = refl

  members_whole : (t : TyTree) (ks : List (List ℕ)) (ds : DocTrees) → members_have_float (key_members t ks ds) ≡ false
  members_whole t (k ∷ ks) (more_docs d ds) = or_from _ _ (whole t d) (members_whole t ks ds)
  members_whole t ks ds = refl

  items_whole : (t : TyTree) (ds : DocTrees) → items_have_float (content_items t ds) ≡ false
  items_whole t no_docs = refl
  items_whole t (more_docs d ds) = or_from _ _ (whole t d) (items_whole t ds)

-- ---- depth

pub high : (t : TyTree) → 0 < 2 * height t
high ty_unit = omega arith
high ty_bool = omega arith
high (ty_int i) = omega arith
high (ty_text i) = omega arith
high (ty_enum ms i) = omega arith
high (ty_rec fs) = omega arith
high (ty_alt fs) = omega arith
high (ty_list t) = omega arith
high (ty_keyed t) = omega arith
high (ty_ordered t) = omega arith

pub counts_flat : (ns : List ℕ) → items_depth (count_items ns) ≡ 0
counts_flat [] = refl
counts_flat (n ∷ ns) = omega (arith, counts_flat ns)

tag_height : (fs : FieldTrees) (n : List ℕ) (s : TyTree) → lookup_type fs n ≡ Some s → height s ≤ highest fs
tag_height fs n s h =
    let r = lookup_type_place fs n s h in
    let e = ap height r.2 in
    omega (arith, e, lookup_field-height fs n r.0 r.1)

content_shallow : (fs : FieldTrees) (o : Option TyTree) (d : DocTree) → ((s : TyTree) → o ≡ Some s → height s ≤ highest fs) → ((t : TyTree) → depth (tree_of_document t d) < 2 * height t)
    → (let x : Data = elim o [ None ↦ null | Some t ↦ tree_of_document t d ] in depth x ≤ 2 * highest fs)
content_shallow fs None d low shallow = omega arith
content_shallow fs (Some t) d low shallow = omega (arith, low t refl, shallow t)

mutual
  pub shallow : (t : TyTree) (d : DocTree) → depth (tree_of_document t d) < 2 * height t
  shallow ty_unit unit = omega arith
  shallow ty_bool (truth b) = omega arith
  shallow (ty_int i) (int z) = omega arith
  shallow (ty_text i) (text s) = omega arith
  shallow (ty_enum ms i) (pick n) = omega arith
  shallow (ty_rec fs) (rec ds) = omega (arith, fields_shallow fs ds)
  shallow (ty_alt fs) (alt n d) = omega (arith, content_shallow fs (lookup_type fs n) d (λ s e. tag_height fs n s e) (λ t. shallow t d))
  shallow (ty_list t) (hold (ListOf s) ds) = omega (arith, items_shallow t ds)
  shallow (ty_keyed t) (hold (KeyedOf ks) ds) = omega (arith, members_shallow t ks ds)
  shallow (ty_ordered t) (hold (TreeOf depths) ds) = omega (arith, counts_flat depths, items_shallow t ds)
  shallow t d = high t

  fields_shallow : (fs : FieldTrees) (ds : DocTrees) → members_depth (field_members fs ds) ≤ 2 * highest fs
  fields_shallow (more_fields n t fs) (more_docs d ds) = omega (arith, shallow t d, fields_shallow fs ds)
  fields_shallow fs ds = omega arith

  members_shallow : (t : TyTree) (ks : List (List ℕ)) (ds : DocTrees) → members_depth (key_members t ks ds) < 2 * height t
  members_shallow t (k ∷ ks) (more_docs d ds) = omega (arith, shallow t d, members_shallow t ks ds)
  members_shallow t ks ds = high t

  items_shallow : (t : TyTree) (ds : DocTrees) → items_depth (content_items t ds) < 2 * height t
  items_shallow t no_docs = high t
  items_shallow t (more_docs d ds) = omega (arith, shallow t d, items_shallow t ds)
