-- The tree of a complement nests at most three times as deep as its form is high.
use Rattle.std.proofs.Common.{◌≡◌, ℕ, ◌*◌, ◌≤◌, Bool, true, false, cond, bytes_eq, List, [], ◌∷◌, refl, arith}
use Rattle.std.specs.Prelude.{max}
use Rattle.hold_shapes.specs.declared.shape.Shape.TheVariants.{List as ListOf, Keyed as KeyedOf, Tree as TreeOf}
use Rattle.serde_json.specs.Data.{Data, depth, items_depth, members_depth}
use Rattle.doc_values.specs.Types.{FieldTrees}
use Rattle.value_json.proofs.TreeDepths.{counts_flat}
use Rattle.lens_forms.specs.Forms.{FormTree, form_id, form_bij, form_disc, form_then, form_rec, form_alt, form_each, form_keyed, form_ordered, form_part, form_inv, RowTrees, no_rows, both, only_left, only_right, ArmTrees, no_arms, more_arms}
use Rattle.lens_forms.specs.Measures.{form_height, highest_row, highest_arm}
use Rattle.lens_core.specs.Complements.{CompTree, then_comp, rec_comp, alt_comp, hold_comp, tags_comp, CompTrees, no_comps, more_comps}
use Rattle.complement_file.specs.ComplementJson.{tree_of_complement, row_items, tree_in_arm, place_items, place_members, tag_items}

either : (k : Bool) (a b : Data) (m n : ℕ) → depth a ≤ 3 * m → depth b ≤ 3 * n → depth (cond k a b) ≤ 3 * max m n
either true a b m n h k = omega (arith, h)
either false a b m n h k = omega (arith, k)

tags_low : (fs : FieldTrees) (ks : List ℕ) → items_depth (tag_items fs ks) ≡ 0
tags_low fs [] = refl
tags_low fs (k ∷ ks) = omega (arith, tags_low fs ks)

places_low : (tree : CompTree → Data) (n : ℕ) (cs : CompTrees) → ((c : CompTree) → depth (tree c) ≤ n) → items_depth (place_items tree cs) ≤ n
places_low tree n no_comps h = omega arith
places_low tree n (more_comps c cs) h = omega (arith, h c, places_low tree n cs h)

members_low : (tree : CompTree → Data) (n : ℕ) (ks : List (List ℕ)) (cs : CompTrees) → ((c : CompTree) → depth (tree c) ≤ n) → members_depth (place_members tree ks cs) ≤ n
members_low tree n (k ∷ ks) (more_comps c cs) h = omega (arith, h c, members_low tree n ks cs h)
members_low tree n ks cs h = omega arith

mutual
  pub low : (l : FormTree) (c : CompTree) → depth (tree_of_complement l c) ≤ 3 * form_height l
  low (form_id t) c = omega arith
  low (form_bij ps n) c = omega arith
  low (form_disc t u) c = omega arith
  low (form_then l k) (then_comp c d) = omega (arith, low l c, low k d)
  low (form_then l k) c = omega arith
  low (form_rec rows) (rec_comp cs) = omega (arith, rows_low rows cs)
  low (form_rec rows) c = omega arith
  low (form_alt arms) (alt_comp t c) = omega (arith, arm_low arms t c)
  low (form_alt arms) c = omega arith
  low (form_each l) (hold_comp (ListOf s) cs) = omega (arith, places_low (tree_of_complement l) (3 * form_height l) cs (λ c. low l c))
  low (form_each l) c = omega arith
  low (form_keyed l) (hold_comp (KeyedOf ks) cs) = omega (arith, members_low (tree_of_complement l) (3 * form_height l) ks cs (λ c. low l c))
  low (form_keyed l) c = omega arith
  low (form_ordered l) (hold_comp (TreeOf ds) cs) = omega (arith, counts_flat ds, places_low (tree_of_complement l) (3 * form_height l) cs (λ c. low l c))
  low (form_ordered l) c = omega arith
  low (form_part fs) (tags_comp ks) = omega (arith, tags_low fs ks)
  low (form_part fs) c = omega arith
  low (form_inv l) c = omega (arith, low l c)

  rows_low : (rows : RowTrees) (cs : CompTrees) → items_depth (row_items rows cs) ≤ 3 * highest_row rows
  rows_low no_rows cs = omega arith
  rows_low (both a b l rows) (more_comps c cs) = omega (arith, low l c, rows_low rows cs)
  rows_low (both a b l rows) no_comps = omega arith
  rows_low (only_left a t rows) cs = rows_low rows cs
  rows_low (only_right b t rows) cs = rows_low rows cs

  arm_low : (arms : ArmTrees) (t : List ℕ) (c : CompTree) → depth (tree_in_arm arms t c) ≤ 3 * highest_arm arms
  arm_low no_arms t c = omega arith
  arm_low (more_arms a b l arms) t c = either (bytes_eq a t) _ _ (form_height l) (highest_arm arms) (low l c) (arm_low arms t c)
