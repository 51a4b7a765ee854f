-- The definitions on small cases.
use Rattle.std.proofs.Common.{◌≡◌, pos, negsuc, true, false, [], ◌∷◌, Some, None, codes, refl}
use Rattle.hold_shapes.specs.declared.shape.Shape.TheVariants.{List as ListOf, Keyed as KeyedOf, Tree as TreeOf}
use Rattle.serde_json.specs.Data.{null, boolean, negative, string, array, object, no_items, item, no_members, member}
use Rattle.doc_values.specs.Types.{ty_unit, ty_bool, ty_int, ty_text, ty_enum, ty_rec, ty_alt, ty_list, ty_keyed, ty_ordered, no_fields, more_fields}
use Rattle.doc_values.specs.Documents.{unit, truth, int, pick, rec, alt, hold, no_docs, more_docs}
use Rattle.value_json.specs.Numbers.{int_in, count_tree, int_tree}
use Rattle.value_json.specs.DocumentJson.{tree_of_document, document_of}

-- {"a":2,"b":1} as a keyed map of ints
keyed : document_of (ty_keyed (ty_int (pos 0))) (object (member (codes "a") (count_tree 2) (member (codes "b") (count_tree 1) no_members)))
    ≡ Some (hold (KeyedOf (codes "a" ∷ codes "b" ∷ [])) (more_docs (int (pos 2)) (more_docs (int (pos 1)) no_docs)))
keyed = refl

-- {"depths":[0,2],"items":[1,2]} is no ordered tree: a depth goes up by one at most
too_steep : document_of (ty_ordered (ty_int (pos 0)))
    (object (member (codes "depths") (array (item (count_tree 0) (item (count_tree 2) no_items))) (member (codes "items") (array (item (count_tree 1) (item (count_tree 2) no_items))) no_members)))
    ≡ None
too_steep = refl

ordered : document_of (ty_ordered (ty_int (pos 0)))
    (object (member (codes "depths") (array (item (count_tree 0) (item (count_tree 1) no_items))) (member (codes "items") (array (item (int_tree (negsuc 0)) (item (count_tree 2) no_items))) no_members)))
    ≡ Some (hold (TreeOf (0 ∷ 1 ∷ [])) (more_docs (int (negsuc 0)) (more_docs (int (pos 2)) no_docs)))
ordered = refl

-- 9223372036854775808 is above every i64
above : document_of (ty_list (ty_int (pos 0))) (array (item (count_tree 9223372036854775808) no_items)) ≡ None
above = refl

-- {"o":1,"p":""} has two members, and alternatives have one
two_tags : document_of (ty_alt (more_fields (codes "p") (ty_text []) (more_fields (codes "o") (ty_int (pos 0)) no_fields))) (object (member (codes "o") (count_tree 1) (member (codes "p") (string []) no_members))) ≡ None
two_tags = refl

one_tag : document_of (ty_alt (more_fields (codes "p") (ty_text []) (more_fields (codes "o") (ty_int (pos 0)) no_fields))) (object (member (codes "o") (count_tree 1) no_members)) ≡ Some (alt (codes "o") (int (pos 1)))
one_tag = refl

missing_field : document_of (ty_rec (more_fields (codes "a") ty_bool (more_fields (codes "b") ty_unit no_fields))) (object (member (codes "a") (boolean true) no_members)) ≡ None
missing_field = refl

extra_field : document_of (ty_rec (more_fields (codes "a") ty_bool no_fields)) (object (member (codes "a") (boolean true) (member (codes "b") null no_members))) ≡ None
extra_field = refl

no_member : document_of (ty_enum (codes "x" ∷ codes "y" ∷ []) (codes "y")) (string (codes "z")) ≡ None
no_member = refl

written : tree_of_document (ty_rec (more_fields (codes "a") (ty_list ty_bool) (more_fields (codes "b") (ty_enum (codes "x" ∷ []) (codes "x")) no_fields)))
    (rec (more_docs (hold (ListOf (record { count = 1 })) (more_docs (truth false) no_docs)) (more_docs (pick (codes "x")) no_docs)))
    ≡ object (member (codes "a") (array (item (boolean false) no_items)) (member (codes "b") (string (codes "x")) no_members))
written = refl

written_tree : tree_of_document (ty_ordered ty_unit) (hold (TreeOf (0 ∷ [])) (more_docs unit no_docs))
    ≡ object (member (codes "depths") (array (item (count_tree 0) no_items)) (member (codes "items") (array (item null no_items)) no_members))
written_tree = refl

smallest : int_in (negative (negsuc 9223372036854775807)) ≡ Some (negsuc 9223372036854775807)
smallest = refl
