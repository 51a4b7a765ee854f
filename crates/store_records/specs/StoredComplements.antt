-- The complement of a form that a tree is. It is the reader that belongs to `tree_of_complement` of complement_file.
-- Read it from the end: `complement_of` has a line for each form, and the helpers stand before it.
use Rattle.std.specs.Prelude.{ℕ, ◌&&◌, List, [], ◌∷◌, length, Option, Some, None, option_map, option_and_then}
use Rattle.std.specs.Prelude.{if◌then◌else◌, codes, bytes_eq, nat_eq}
use Rattle.serde_json.specs.Data.{Data, null, array, object, Items, no_items, item, Members, no_members, member}
use Rattle.serde_json.specs.Find.{as_str, as_array, as_object}
use Rattle.texts.specs.Keys.{is_rising}
use Rattle.hold_shapes.specs.Trees.{is_valid}
use Rattle.hold_shapes.specs.declared.shape.Shape.TheVariants.{List as ListOf, Keyed as KeyedOf, Tree as TreeOf}
use Rattle.doc_values.specs.Types.{FieldTrees}
use Rattle.value_json.specs.Numbers.{counts_of}
use Rattle.value_json.specs.Parts.{depths_and_items}
use Rattle.value_json.specs.DocumentJson.{member_names}
use Rattle.lens_forms.specs.Forms.{FormTree, form_id, form_bij, form_disc, form_then, form_rec, form_alt, form_each}
use Rattle.lens_forms.specs.Forms.{form_keyed, form_ordered, form_part, form_inv, RowTrees, no_rows, both, only_left}
use Rattle.lens_forms.specs.Forms.{only_right, ArmTrees, no_arms, more_arms}
use Rattle.lens_core.specs.Tags.{tag_number}
use Rattle.lens_core.specs.Complements.{CompTree, nil, then_comp, rec_comp, alt_comp, hold_comp, tags_comp, CompTrees}
use Rattle.lens_core.specs.Complements.{no_comps, more_comps, comp_count}
use Rattle.complement_file.specs.Reading.{member_contents}

-- the complement that keeps nothing, whose tree is `null`
abbrev pub nothing_of : Data → Option CompTree
nothing_of null = Some nil
nothing_of _ = None

-- the content of the one member of an object, which has this name
abbrev pub content_under : List ℕ → Data → Option Data
content_under name (object (member k d no_members)) = if bytes_eq k name then Some d else None
content_under name _ = None

-- the two items of an array
abbrev pub both_items : Data → Option (Data × Data)
both_items (array (item d (item e no_items))) = Some (d, e)
both_items _ = None

-- a complement for each item, as a reader gives them
abbrev pub each_complement : (Data → Option CompTree) → Items → Option CompTrees
each_complement of no_items = Some no_comps
each_complement of (item d ds) = option_and_then (λ c. option_map (more_comps c) (each_complement of ds)) (of d)

-- the complements at the places of a list, of a keyed map whose keys rise, and of an ordered tree
abbrev pub comp_list_of : CompTrees → CompTree
comp_list_of cs = hold_comp (ListOf (record { count = comp_count cs })) cs

abbrev pub keyed_of : List (List ℕ) → CompTrees → Option CompTree
keyed_of ks cs = if is_rising ks then Some (hold_comp (KeyedOf ks) cs) else None

abbrev pub ordered_of : List ℕ → CompTrees → Option CompTree
ordered_of depths cs =
    if is_valid depths && nat_eq (length depths) (comp_count cs) then Some (hold_comp (TreeOf depths) cs) else None

-- the numbers of the tags that the items name
abbrev pub tag_numbers_of : FieldTrees → Items → Option (List ℕ)
tag_numbers_of fs no_items = Some []
tag_numbers_of fs (item d ds) =
    option_and_then (λ k. option_map (λ ks. k ∷ ks) (tag_numbers_of fs ds)) (option_and_then (tag_number fs) (as_str d))

-- the complement of a list, of a keyed map and of an ordered tree, whose contents a reader gives
abbrev pub held_in_list : (Data → Option CompTree) → Data → Option CompTree
held_in_list of d =
    option_map comp_list_of (option_and_then (each_complement of)
    (option_and_then as_array (content_under (codes "list") d)))

abbrev pub held_by_keys : (Data → Option CompTree) → Members → Option CompTree
held_by_keys of ms = option_and_then (keyed_of (member_names ms)) (each_complement of (member_contents ms))

abbrev pub held_in_map : (Data → Option CompTree) → Data → Option CompTree
held_in_map of d = option_and_then (held_by_keys of) (option_and_then as_object (content_under (codes "keyed") d))

abbrev pub held_by_depths : (Data → Option CompTree) → Items × Items → Option CompTree
held_by_depths of p =
    option_and_then (λ depths. option_and_then (ordered_of depths) (each_complement of p.1)) (counts_of p.0)

abbrev pub held_in_tree : (Data → Option CompTree) → Data → Option CompTree
held_in_tree of d =
    option_and_then (held_by_depths of) (option_and_then depths_and_items (content_under (codes "tree") d))

-- the complements of two lenses
abbrev pub of_both : (Data → Option CompTree) → (Data → Option CompTree) → Data × Data → Option CompTree
of_both first second p = option_and_then (λ c. option_map (then_comp c) (second p.1)) (first p.0)

-- the left tag of an arm with the arm's complement, which a reader gives
abbrev pub of_tagged : (List ℕ → Data → Option CompTree) → Data × Data → Option CompTree
of_tagged of p = option_and_then (λ t. option_map (alt_comp t) (of t p.1)) (as_str p.0)

-- The complement of the form that has this tree, a line for each form; none where no complement that fits the form has
-- it.
abbrev mutual
  pub complement_of : FormTree → Data → Option CompTree
  complement_of (form_id t) d = nothing_of d
  complement_of (form_bij ps n) d = nothing_of d
  complement_of (form_disc t u) d = nothing_of d
  complement_of (form_then l k) d =
      option_and_then (of_both (complement_of l) (complement_of k))
      (option_and_then both_items (content_under (codes "then") d))
  complement_of (form_rec rows) d =
      option_map rec_comp (option_and_then (row_complements rows)
      (option_and_then as_array (content_under (codes "rec") d)))
  complement_of (form_alt arms) d =
      option_and_then (of_tagged (arm_complement arms)) (option_and_then both_items (content_under (codes "alt") d))
  complement_of (form_each l) d = held_in_list (complement_of l) d
  complement_of (form_keyed l) d = held_in_map (complement_of l) d
  complement_of (form_ordered l) d = held_in_tree (complement_of l) d
  complement_of (form_part fs) d =
      option_map tags_comp (option_and_then (tag_numbers_of fs)
      (option_and_then as_array (content_under (codes "tags") d)))
  complement_of (form_inv l) d = complement_of l d

  -- an item for each paired row: its complement
  pub row_complements : RowTrees → Items → Option CompTrees
  row_complements no_rows no_items = Some no_comps
  row_complements no_rows (item d ds) = None
  row_complements (both a b l rows) no_items = None
  row_complements (both a b l rows) (item d ds) =
      option_and_then (λ c. option_map (more_comps c) (row_complements rows ds)) (complement_of l d)
  row_complements (only_left a t rows) ds = row_complements rows ds
  row_complements (only_right b t rows) ds = row_complements rows ds

  -- a complement of the first arm with this left tag
  pub arm_complement : ArmTrees → List ℕ → Data → Option CompTree
  arm_complement no_arms t d = None
  arm_complement (more_arms a b l arms) t d = if bytes_eq a t then complement_of l d else arm_complement arms t d
