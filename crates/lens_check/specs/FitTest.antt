-- `Fits` of lens_core as a test: whether a complement fits a form.
use Rattle.std.specs.Prelude.{ℕ, Bool, true, false, ◌&&◌, ◌||◌, bytes_eq, List}
use Rattle.hold_shapes.specs.declared.shape.Shape.{Shape}
use Rattle.tag_seq.specs.Tags.{are_below}
use Rattle.doc_values.specs.Typing.{is_list_of, is_keyed_of, is_tree_of}
use Rattle.lens_forms.specs.Forms.{FormTree, form_id, form_bij, form_disc, form_then, form_rec, form_alt, form_each}
use Rattle.lens_forms.specs.Forms.{form_keyed, form_ordered, form_part, form_inv, RowTrees, no_rows, both, only_left}
use Rattle.lens_forms.specs.Forms.{only_right, ArmTrees, no_arms, more_arms}
use Rattle.lens_core.specs.Tags.{tag_count}
use Rattle.lens_core.specs.Complements.{CompTree, nil, then_comp, rec_comp, alt_comp, hold_comp, tags_comp, CompTrees}
use Rattle.lens_core.specs.Complements.{no_comps, more_comps, comp_count}

-- the complement keeps nothing
abbrev pub is_nil : CompTree → Bool
is_nil nil = true
is_nil _ = false

-- every complement of a list passes the test
abbrev pub all_pass : (CompTree → Bool) → CompTrees → Bool
all_pass test no_comps = true
all_pass test (more_comps c cs) = test c && all_pass test cs

-- the complement is one of a container of this kind, and its parts pass the test
abbrev pub held_passes : (Shape → ℕ → Bool) → (CompTree → Bool) → CompTree → Bool
held_passes is_of test (hold_comp s cs) = is_of s (comp_count cs) && all_pass test cs
held_passes is_of test _ = false

-- the complement fits the form, a line for each form as in `Fits`
abbrev mutual
  pub fits : FormTree → CompTree → Bool
  fits (form_id t) c = is_nil c
  fits (form_bij ps n) c = is_nil c
  fits (form_disc t u) c = is_nil c
  fits (form_then l k) (then_comp c d) = fits l c && fits k d
  fits (form_then l k) _ = false
  fits (form_rec rows) (rec_comp cs) = rows_fit rows cs
  fits (form_rec rows) _ = false
  fits (form_alt arms) (alt_comp t c) = arm_fits arms t c
  fits (form_alt arms) _ = false
  fits (form_each l) c = held_passes is_list_of (fits l) c
  fits (form_keyed l) c = held_passes is_keyed_of (fits l) c
  fits (form_ordered l) c = held_passes is_tree_of (fits l) c
  fits (form_part fs) (tags_comp ts) = are_below (tag_count fs) ts
  fits (form_part fs) _ = false
  fits (form_inv l) c = fits l c

  pub rows_fit : RowTrees → CompTrees → Bool
  rows_fit no_rows no_comps = true
  rows_fit no_rows (more_comps c cs) = false
  rows_fit (both a b l rows) no_comps = false
  rows_fit (both a b l rows) (more_comps c cs) = fits l c && rows_fit rows cs
  rows_fit (only_left a t rows) cs = rows_fit rows cs
  rows_fit (only_right b t rows) cs = rows_fit rows cs

  pub arm_fits : ArmTrees → List ℕ → CompTree → Bool
  arm_fits no_arms t c = false
  arm_fits (more_arms a b l arms) t c = (bytes_eq t a && fits l c) || arm_fits arms t c
