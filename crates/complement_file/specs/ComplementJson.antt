-- Complements as JSON trees: the tree of a complement that fits the form of a lens.
-- Read it from the end: `tree_of_complement` has a line for each form, and the helpers stand before it.
use Rattle.std.specs.Prelude.{ℕ, List, [], ◌∷◌, Option, Some, None, if◌then◌else◌, codes, bytes_eq}
use Rattle.serde_json.specs.Data.{Data, null, string, array, object, Items, no_items, item, Members, no_members, member}
use Rattle.hold_shapes.specs.declared.shape.Shape.TheVariants.{List as ListOf, Keyed as KeyedOf, Tree as TreeOf}
use Rattle.doc_values.specs.Types.{FieldTrees}
use Rattle.value_json.specs.Numbers.{count_items}
use Rattle.value_json.specs.SmallTrees.{one_member, array_of_two}
use Rattle.lens_forms.specs.Forms.{FormTree, form_id, form_bij, form_disc, form_then, form_rec, form_alt, form_each}
use Rattle.lens_forms.specs.Forms.{form_keyed, form_ordered, form_part, form_inv, RowTrees, no_rows, both, only_left}
use Rattle.lens_forms.specs.Forms.{only_right, ArmTrees, no_arms, more_arms}
use Rattle.lens_core.specs.Tags.{tag_name}
use Rattle.lens_core.specs.Complements.{CompTree, then_comp, rec_comp, alt_comp, hold_comp, tags_comp, CompTrees}
use Rattle.lens_core.specs.Complements.{no_comps, more_comps}

-- the lens of the first arm with this left tag
abbrev pub arm_with : ArmTrees → List ℕ → Option FormTree
arm_with no_arms t = None
arm_with (more_arms a b l arms) t = if bytes_eq a t then Some l else arm_with arms t

-- an item for each tag number: the name of the tag
abbrev pub tag_items : FieldTrees → List ℕ → Items
tag_items fs [] = no_items
tag_items fs (k ∷ ks) = item (string (tag_name fs k)) (tag_items fs ks)

-- an item for each place: its complement, whose tree a function gives
abbrev pub place_items : (CompTree → Data) → CompTrees → Items
place_items tree no_comps = no_items
place_items tree (more_comps c cs) = item (tree c) (place_items tree cs)

-- a member for each key: the key, and its complement
abbrev pub place_members : (CompTree → Data) → List (List ℕ) → CompTrees → Members
place_members tree (k ∷ ks) (more_comps c cs) = member k (tree c) (place_members tree ks cs)
place_members tree _ _ = no_members

-- The tree of a complement. Of an identity, a bijection and a disconnection it is `null`. Of a composition it is the
-- two complements; of a record those of its paired rows; of alternatives the left tag of the arm and the arm's
-- complement; of a container its shape with the complement of each place; of a partition the names of the tags; of an
-- inverse that of its lens. A complement that does not fit the form has the tree `null`.
abbrev mutual
  pub tree_of_complement : FormTree → CompTree → Data
  tree_of_complement (form_id t) c = null
  tree_of_complement (form_bij ps n) c = null
  tree_of_complement (form_disc t u) c = null
  tree_of_complement (form_then l k) (then_comp c d) =
      one_member (codes "then") (array_of_two (tree_of_complement l c) (tree_of_complement k d))
  tree_of_complement (form_then l k) _ = null
  tree_of_complement (form_rec rows) (rec_comp cs) = one_member (codes "rec") (array (row_items rows cs))
  tree_of_complement (form_rec rows) _ = null
  tree_of_complement (form_alt arms) (alt_comp t c) =
      one_member (codes "alt") (array_of_two (string t) (tree_in_arm arms t c))
  tree_of_complement (form_alt arms) _ = null
  tree_of_complement (form_each l) (hold_comp (ListOf s) cs) =
      one_member (codes "list") (array (place_items (tree_of_complement l) cs))
  tree_of_complement (form_each l) _ = null
  tree_of_complement (form_keyed l) (hold_comp (KeyedOf ks) cs) =
      one_member (codes "keyed") (object (place_members (tree_of_complement l) ks cs))
  tree_of_complement (form_keyed l) _ = null
  tree_of_complement (form_ordered l) (hold_comp (TreeOf ds) cs) =
      one_member (codes "tree")
      (object (member (codes "depths") (array (count_items ds))
      (member (codes "items") (array (place_items (tree_of_complement l) cs)) no_members)))
  tree_of_complement (form_ordered l) _ = null
  tree_of_complement (form_part fs) (tags_comp ks) = one_member (codes "tags") (array (tag_items fs ks))
  tree_of_complement (form_part fs) _ = null
  tree_of_complement (form_inv l) c = tree_of_complement l c

  -- an item for each paired row: its complement
  pub row_items : RowTrees → CompTrees → Items
  row_items no_rows cs = no_items
  row_items (both a b l rows) (more_comps c cs) = item (tree_of_complement l c) (row_items rows cs)
  row_items (both a b l rows) no_comps = no_items
  row_items (only_left a t rows) cs = row_items rows cs
  row_items (only_right b t rows) cs = row_items rows cs

  -- a complement of the arm with this left tag
  pub tree_in_arm : ArmTrees → List ℕ → CompTree → Data
  tree_in_arm no_arms t c = null
  tree_in_arm (more_arms a b l arms) t c = if bytes_eq a t then tree_of_complement l c else tree_in_arm arms t c
