-- Complements as plain trees: what neither document holds and a lens needs. Which complements fit a form, and its first
-- one. In order: `CompTree`, `Fits`, `missing`, and `comp_tree`, the tree that contracts see a complement as.
use Rattle.std.specs.Prelude.{◌≡◌, ◌⊎◌, ℕ, ◌+◌, IsTrue, List, [], ◌∷◌}
use Rattle.hold_shapes.specs.declared.shape.Shape.{Shape}
use Rattle.hold_shapes.specs.declared.shape.Shape.TheVariants.{List as ListOf, Keyed as KeyedOf, Tree as TreeOf}
use Rattle.tag_seq.specs.Tags.{are_below}
use Rattle.doc_values.specs.Typing.{is_list_of, is_keyed_of, is_tree_of}
use Rattle.lens_forms.specs.Forms.{FormTree, form_id, form_bij, form_disc, form_then, form_rec, form_alt, form_each}
use Rattle.lens_forms.specs.Forms.{form_keyed, form_ordered, form_part, form_inv, RowTrees, no_rows, both, only_left}
use Rattle.lens_forms.specs.Forms.{only_right, ArmTrees, no_arms, more_arms}
use Rattle.lens_core.specs.Tags.{tag_count}
use Rattle.lens_core.specs.declared.comp.Comp.{Comp, fold-Comp}
use Rattle.lens_core.specs.declared.comp.Comps.{Comps, fold-Comps}
use Rattle.lens_core.specs.declared.comp.Comp.TheOpen.{Comp-F, Comps-F}

-- nothing; a complement of each of two lenses; one for each paired row, in written order; the left tag of an arm with a
-- complement of that arm; a shape with a complement for each place; the number of its tag for each item, from 0
mutual
  pub data CompTree : Type 0 where
    nil : CompTree
    then_comp : CompTree → CompTree → CompTree
    rec_comp : CompTrees → CompTree
    alt_comp : List ℕ → CompTree → CompTree
    hold_comp : Shape → CompTrees → CompTree
    tags_comp : List ℕ → CompTree

  pub data CompTrees : Type 0 where
    no_comps : CompTrees
    more_comps : CompTree → CompTrees → CompTrees

-- a list of complements as trees, and back
abbrev pub comps_of : List CompTree → CompTrees
comps_of [] = no_comps
comps_of (c ∷ cs) = more_comps c (comps_of cs)

abbrev pub comp_list : CompTrees → List CompTree
comp_list no_comps = []
comp_list (more_comps c cs) = c ∷ comp_list cs

-- how many complements there are
abbrev pub comp_count : CompTrees → ℕ
comp_count no_comps = 0
comp_count (more_comps c cs) = comp_count cs + 1

-- the complement that keeps nothing
abbrev pub IsNil : CompTree → Type 0
IsNil nil = Unit {0}
IsNil _ = ⊥

-- every complement of a list fits the inner lens
abbrev pub AllFit : (CompTree → Type 0) → CompTrees → Type 0
AllFit fits no_comps = Unit {0}
AllFit fits (more_comps c cs) = fits c × AllFit fits cs

-- The complements of a form, through all levels.
abbrev mutual
  pub Fits : FormTree → CompTree → Type 0
  Fits (form_id t) c = IsNil c
  Fits (form_bij ps n) c = IsNil c
  Fits (form_disc t u) c = IsNil c
  Fits (form_then l k) (then_comp c d) = Fits l c × Fits k d
  Fits (form_then l k) _ = ⊥
  Fits (form_rec rows) (rec_comp cs) = FitRows rows cs
  Fits (form_rec rows) _ = ⊥
  Fits (form_alt arms) (alt_comp t c) = FitsArm arms t c
  Fits (form_alt arms) _ = ⊥
  Fits (form_each l) (hold_comp s cs) = IsTrue (is_list_of s (comp_count cs)) × AllFit (Fits l) cs
  Fits (form_each l) _ = ⊥
  Fits (form_keyed l) (hold_comp s cs) = IsTrue (is_keyed_of s (comp_count cs)) × AllFit (Fits l) cs
  Fits (form_keyed l) _ = ⊥
  Fits (form_ordered l) (hold_comp s cs) = IsTrue (is_tree_of s (comp_count cs)) × AllFit (Fits l) cs
  Fits (form_ordered l) _ = ⊥
  Fits (form_part fs) (tags_comp ts) = IsTrue (are_below (tag_count fs) ts)
  Fits (form_part fs) _ = ⊥
  Fits (form_inv l) c = Fits l c

  -- one complement for each paired row, in written order
  pub FitRows : RowTrees → CompTrees → Type 0
  FitRows no_rows no_comps = Unit {0}
  FitRows no_rows (more_comps c cs) = ⊥
  FitRows (both a b l rows) no_comps = ⊥
  FitRows (both a b l rows) (more_comps c cs) = Fits l c × FitRows rows cs
  FitRows (only_left a t rows) cs = FitRows rows cs
  FitRows (only_right b t rows) cs = FitRows rows cs

  -- a complement of the arm with this left tag
  pub FitsArm : ArmTrees → List ℕ → CompTree → Type 0
  FitsArm no_arms t c = ⊥
  FitsArm (more_arms a b l arms) t c = ((t ≡ a) × Fits l c) ⊎ FitsArm arms t c

-- The first complement of a form, which belongs to the initial documents. A typed form has an arm in each of its
-- alternatives.
abbrev mutual
  pub missing : FormTree → CompTree
  missing (form_id t) = nil
  missing (form_bij ps n) = nil
  missing (form_disc t u) = nil
  missing (form_then l k) = then_comp (missing l) (missing k)
  missing (form_rec rows) = rec_comp (missing_rows rows)
  missing (form_alt arms) = missing_arm arms
  missing (form_each l) = hold_comp (ListOf (record { count = 0 })) no_comps
  missing (form_keyed l) = hold_comp (KeyedOf []) no_comps
  missing (form_ordered l) = hold_comp (TreeOf (0 ∷ [])) (more_comps (missing l) no_comps)
  missing (form_part fs) = tags_comp []
  missing (form_inv l) = missing l

  pub missing_rows : RowTrees → CompTrees
  missing_rows no_rows = no_comps
  missing_rows (both a b l rows) = more_comps (missing l) (missing_rows rows)
  missing_rows (only_left a t rows) = missing_rows rows
  missing_rows (only_right b t rows) = missing_rows rows

  -- that of the first arm
  pub missing_arm : ArmTrees → CompTree
  missing_arm no_arms = nil
  missing_arm (more_arms a b l arms) = alt_comp a (missing l)

-- ---- how contracts see a `Comp`

-- one level of a `Comp`, each complement inside already seen as its tree
abbrev pub comp_step : Comp-F CompTree CompTrees → CompTree
comp_step Comp-F.Nil = nil
comp_step (Comp-F.Then c d) = then_comp c.value d.value
comp_step (Comp-F.Rec cs) = rec_comp cs
comp_step (Comp-F.Alt t c) = alt_comp t c.value
comp_step (Comp-F.Hold s cs) = hold_comp s cs
comp_step (Comp-F.Tags ts) = tags_comp ts

abbrev pub comps_step : Comps-F CompTree CompTrees → CompTrees
comps_step cs = comps_of cs.items

-- the tree of a `Comp`, and the trees of a `Comps`
abbrev pub comp_tree : Comp → CompTree
comp_tree = fold-Comp CompTree CompTrees comp_step comps_step

abbrev pub comps_tree : Comps → CompTrees
comps_tree = fold-Comps CompTree CompTrees comp_step comps_step
