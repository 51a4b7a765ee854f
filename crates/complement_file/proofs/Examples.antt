-- The definition, tried on small examples.
use Rattle.std.proofs.Common.{◌≡◌, pos, [], ◌∷◌, codes, inl, inr, refl}
use Rattle.serde_json.specs.Data.{Items, null, string, array, object, no_items, item, no_members, member}
use Rattle.hold_shapes.specs.declared.shape.Shape.TheVariants.{List as ListOf, Keyed as KeyedOf, Tree as TreeOf}
use Rattle.doc_values.specs.Types.{ty_int, ty_text, ty_bool, FieldTrees, no_fields, more_fields}
use Rattle.value_json.specs.Numbers.{count_tree}
use Rattle.lens_forms.specs.Forms.{FormTree, form_id, form_then, form_rec, form_alt, form_each, form_keyed, form_ordered, form_part, form_inv, no_rows, both, only_left, only_right, no_arms, more_arms}
use Rattle.lens_core.specs.Complements.{CompTree, nil, then_comp, rec_comp, alt_comp, hold_comp, tags_comp, no_comps, more_comps}
use Rattle.complement_file.specs.ComplementJson.{tree_of_complement}
use Rattle.value_json.specs.SmallTrees.{one_member, array_of_two}
use Rattle.complement_file.specs.Reading.{IsComplement}
use Rattle.complement_file.proofs.ReadForms.{no_list}

abbrev number : FormTree
number = form_id (ty_int (pos 0))

abbrev tags : FieldTrees
tags = more_fields (codes "p") (ty_text []) (more_fields (codes "o") (ty_int (pos 0)) no_fields)

-- nothing is kept
of_a_number : tree_of_complement number nil ≡ null
of_a_number = refl

-- a complement for each paired row, and none for a field of one side
of_a_record : tree_of_complement (form_rec (only_left (codes "x") ty_bool (both (codes "a") (codes "b") number (only_right (codes "y") ty_bool no_rows)))) (rec_comp (more_comps nil no_comps))
    ≡ one_member (codes "rec") (array (item null no_items))
of_a_record = refl

-- the left tag of the second arm
of_an_arm : tree_of_complement (form_alt (more_arms (codes "s") (codes "S") number (more_arms (codes "t") (codes "T") (form_each number) no_arms))) (alt_comp (codes "t") (hold_comp (ListOf (record { count = 1 })) (more_comps nil no_comps)))
    ≡ one_member (codes "alt") (array_of_two (string (codes "t")) (one_member (codes "list") (array (item null no_items))))
of_an_arm = refl

-- the keys, and the depths, with their complements
of_keys : tree_of_complement (form_keyed number) (hold_comp (KeyedOf (codes "0" ∷ codes "a" ∷ [])) (more_comps nil (more_comps nil no_comps)))
    ≡ one_member (codes "keyed") (object (member (codes "0") null (member (codes "a") null no_members)))
of_keys = refl

of_nodes : tree_of_complement (form_ordered number) (hold_comp (TreeOf (0 ∷ 1 ∷ [])) (more_comps nil (more_comps nil no_comps)))
    ≡ one_member (codes "tree") (object (member (codes "depths") (array (item (count_tree 0) (item (count_tree 1) no_items))) (member (codes "items") (array (item null (item null no_items))) no_members)))
of_nodes = refl

-- the names of the tags
of_tags : tree_of_complement (form_part tags) (tags_comp (1 ∷ 0 ∷ [])) ≡ one_member (codes "tags") (array (item (string (codes "o")) (item (string (codes "p")) no_items)))
of_tags = refl

-- both complements of a composition, and that of the lens of an inverse
of_both : tree_of_complement (form_then (form_part tags) (form_inv number)) (then_comp (tags_comp []) nil) ≡ one_member (codes "then") (array_of_two (one_member (codes "tags") (array no_items)) null)
of_both = refl

-- ---- what is read from a tree

read_of_a_number : IsComplement number null nil
read_of_a_number = (tt, refl)

read_of_a_record : IsComplement (form_rec (only_left (codes "x") ty_bool (both (codes "a") (codes "b") number no_rows))) (one_member (codes "rec") (array (item null no_items))) (rec_comp (more_comps nil no_comps))
read_of_a_record = ((tt, tt), refl)

read_of_an_arm : IsComplement (form_alt (more_arms (codes "s") (codes "S") number (more_arms (codes "t") (codes "T") (form_each number) no_arms))) (one_member (codes "alt") (array_of_two (string (codes "t")) (one_member (codes "list") (array no_items))))
    (alt_comp (codes "t") (hold_comp (ListOf (record { count = 0 })) no_comps))
read_of_an_arm = (inr (inl (refl, (refl, tt))), refl)

read_of_keys : IsComplement (form_keyed number) (one_member (codes "keyed") (object (member (codes "0") null (member (codes "a") null no_members)))) (hold_comp (KeyedOf (codes "0" ∷ codes "a" ∷ [])) (more_comps nil (more_comps nil no_comps)))
read_of_keys = ((refl, (tt, (tt, tt))), refl)

read_of_nodes : IsComplement (form_ordered number) (one_member (codes "tree") (object (member (codes "depths") (array (item (count_tree 0) no_items)) (member (codes "items") (array (item null no_items)) no_members)))) (hold_comp (TreeOf (0 ∷ [])) (more_comps nil no_comps))
read_of_nodes = ((refl, (tt, tt)), refl)

read_of_tags : IsComplement (form_part tags) (one_member (codes "tags") (array (item (string (codes "o")) (item (string (codes "p")) no_items)))) (tags_comp (1 ∷ 0 ∷ []))
read_of_tags = (refl, refl)

read_of_both : IsComplement (form_then (form_inv number) (form_part tags)) (one_member (codes "then") (array_of_two null (one_member (codes "tags") (array no_items)))) (then_comp nil (tags_comp []))
read_of_both = ((tt, refl), refl)

-- {"list":null} is the tree of no complement of a list
not_a_list : (c : CompTree) → IsComplement (form_each number) (one_member (codes "list") null) c → ⊥
not_a_list = no_list number (one_member (codes "list") null) (λ (ds : Items) q. cc)
