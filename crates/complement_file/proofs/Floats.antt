-- The tree of a complement has no float, so its text is determined.
use Rattle.std.proofs.Common.{◌≡◌, ℕ, Bool, true, false, cond, List, [], ◌∷◌, refl}
use Rattle.std.proofs.lemmas.Bool.{or_from}
use Rattle.std.specs.Prelude.{bytes_eq}
use Rattle.hold_shapes.specs.declared.shape.Shape.TheVariants.{List as ListOf, Keyed as KeyedOf, Tree as TreeOf}
use Rattle.serde_json.specs.Data.{Data}
use Rattle.serde_json.specs.Written.{has_float, items_have_float, members_have_float}
use Rattle.doc_values.specs.Types.{FieldTrees}
use Rattle.value_json.proofs.TreeDepths.{counts_whole}
use Rattle.lens_forms.specs.Forms.{FormTree, form_id, form_bij, form_disc, form_then, form_rec, form_alt, form_each, form_keyed, form_ordered, form_part, form_inv, RowTrees, no_rows, both, only_left, only_right, ArmTrees, no_arms, more_arms}
use Rattle.lens_core.specs.Complements.{CompTree, then_comp, rec_comp, alt_comp, hold_comp, tags_comp, CompTrees, no_comps, more_comps}
use Rattle.complement_file.specs.ComplementJson.{tree_of_complement, row_items, tree_in_arm, place_items, place_members, tag_items}

either : (k : Bool) (a b : Data) → has_float a ≡ false → has_float b ≡ false → has_float (cond k a b) ≡ false
either true a b h k = h
either false a b h k = k

tags_whole : (fs : FieldTrees) (ks : List ℕ) → items_have_float (tag_items fs ks) ≡ false
tags_whole fs [] = refl
tags_whole fs (k ∷ ks) = tags_whole fs ks

places_whole : (tree : CompTree → Data) (cs : CompTrees) → ((c : CompTree) → has_float (tree c) ≡ false) → items_have_float (place_items tree cs) ≡ false
places_whole tree no_comps h = refl
places_whole tree (more_comps c cs) h = or_from _ _ (h c) (places_whole tree cs h)

members_whole : (tree : CompTree → Data) (ks : List (List ℕ)) (cs : CompTrees) → ((c : CompTree) → has_float (tree c) ≡ false) → members_have_float (place_members tree ks cs) ≡ false
members_whole tree (k ∷ ks) (more_comps c cs) h = or_from _ _ (h c) (members_whole tree ks cs h)
members_whole tree ks cs h = refl

mutual
  pub whole : (l : FormTree) (c : CompTree) → has_float (tree_of_complement l c) ≡ false
  whole (form_id t) c = refl
  whole (form_bij ps n) c = refl
  whole (form_disc t u) c = refl
  whole (form_then l k) (then_comp c d) = or_from _ false (or_from _ _ (whole l c) (or_from _ false (whole k d) refl)) refl
  whole (form_then l k) c = refl
  whole (form_rec rows) (rec_comp cs) = or_from _ false (rows_whole rows cs) refl
  whole (form_rec rows) c = refl
  whole (form_alt arms) (alt_comp t c) = or_from _ false (or_from _ false (arm_whole arms t c) refl) refl
  whole (form_alt arms) c = refl
  whole (form_each l) (hold_comp (ListOf s) cs) = or_from _ false (places_whole (tree_of_complement l) cs (λ c. whole l c)) refl
  whole (form_each l) c = refl
  whole (form_keyed l) (hold_comp (KeyedOf ks) cs) = or_from _ false (members_whole (tree_of_complement l) ks cs (λ c. whole l c)) refl
  whole (form_keyed l) c = refl
  whole (form_ordered l) (hold_comp (TreeOf ds) cs) = or_from _ false (or_from _ _ (counts_whole ds) (or_from _ false (places_whole (tree_of_complement l) cs (λ c. whole l c)) refl)) refl
  whole (form_ordered l) c = refl
  whole (form_part fs) (tags_comp ks) = or_from _ false (tags_whole fs ks) refl
  whole (form_part fs) c = refl
  whole (form_inv l) c = whole l c

  rows_whole : (rows : RowTrees) (cs : CompTrees) → items_have_float (row_items rows cs) ≡ false
  rows_whole no_rows cs = refl
  rows_whole (both a b l rows) (more_comps c cs) = or_from _ _ (whole l c) (rows_whole rows cs)
  rows_whole (both a b l rows) no_comps = refl
  rows_whole (only_left a t rows) cs = rows_whole rows cs
  rows_whole (only_right b t rows) cs = rows_whole rows cs

  arm_whole : (arms : ArmTrees) (t : List ℕ) (c : CompTree) → has_float (tree_in_arm arms t c) ≡ false
  arm_whole no_arms t c = refl
  arm_whole (more_arms a b l arms) t c = either (bytes_eq a t) _ _ (whole l c) (arm_whole arms t c)
