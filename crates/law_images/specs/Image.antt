-- The image of a pattern through a lens: the pattern of all documents of the other side that are consistent, with the
-- given complement, with some document in the given pattern. `image`, at the end, has a line for each form. The
-- complement fits the form, and the pattern is of the type of its side.
use Rattle.std.specs.Prelude.{ℕ, Bool, false, nat_eq, bytes_eq, if◌then◌else◌, List, [], ◌∷◌, Option, None, Some}
use Rattle.std.specs.Prelude.{option_map, option_and_then}
use Rattle.texts.specs.declared.side.Side.{Side}
use Rattle.texts.specs.declared.side.Side.TheVariants.{Left, Right}
use Rattle.texts.specs.Sides.{other}
use Rattle.hold_shapes.specs.declared.shape.Shape.{Shape}
use Rattle.hold_shapes.specs.declared.shape.Shape.TheVariants.{List as ListOf, Keyed as KeyedOf, Tree as TreeOf}
use Rattle.doc_values.specs.Types.{FieldTrees, more_fields, are_same_names}
use Rattle.lens_forms.specs.Forms.{FormTree, form_id, form_bij, form_disc, form_then, form_rec, form_alt, form_each}
use Rattle.lens_forms.specs.Forms.{form_keyed, form_ordered, form_part, form_inv, RowTrees, no_rows, both, only_left}
use Rattle.lens_forms.specs.Forms.{only_right, ArmTrees, no_arms, more_arms, sorted, lists_of}
use Rattle.lens_core.specs.Sides.{near, far, fields_on}
use Rattle.lens_core.specs.Complements.{CompTree, then_comp, rec_comp, alt_comp, hold_comp, tags_comp, CompTrees}
use Rattle.lens_core.specs.Complements.{no_comps, more_comps, comp_count}
use Rattle.lens_core.specs.Translation.{partner}
use Rattle.law_images.specs.Patterns.{PatternTree, hole, pick_pattern, rec_pattern, alt_pattern, hold_pattern}
use Rattle.law_images.specs.Patterns.{PatternTrees, no_patterns, more_patterns, in_order}
use Rattle.law_images.specs.PartImage.{holes, parted_image, joined_image}

-- ---- bijection

-- a hole for a hole, else the partner of the member
abbrev pub partner_pattern : Side → List (List ℕ × List ℕ) → PatternTree → Option PatternTree
partner_pattern s ps hole = Some hole
partner_pattern s ps (pick_pattern n) = option_map pick_pattern (partner s ps n)
partner_pattern s ps _ = None

-- ---- composition

-- through both lenses, first the one on the side of the pattern
abbrev pub through_both : Side → (PatternTree → Option PatternTree) → (PatternTree → Option PatternTree) → PatternTree
    → Option PatternTree
through_both Left first second p = option_and_then second (first p)
through_both Right first second p = option_and_then first (second p)

-- ---- record

-- the pattern at a field: a field that is not there has a hole
abbrev pub pattern_at : FieldTrees → PatternTrees → List ℕ → PatternTree
pattern_at (more_fields m t fs) (more_patterns p ps) n = if bytes_eq m n then p else pattern_at fs ps n
pattern_at _ _ n = hole

-- the patterns at the fields of a record; those of a hole are holes
abbrev pub patterns_by_name : FieldTrees → PatternTree → List ℕ → PatternTree
patterns_by_name fs (rec_pattern ps) n = pattern_at fs ps n
patterns_by_name fs _ n = hole

-- the pattern with a name
abbrev pub named : List (List ℕ × PatternTree) → List ℕ → PatternTree
named [] n = hole
named (q ∷ qs) n = if bytes_eq q.0 n then q.1 else named qs n

-- a named pattern before others
abbrev pub with_named : List ℕ → PatternTree → List (List ℕ × PatternTree) → List (List ℕ × PatternTree)
with_named n q qs = (n, q) ∷ qs

-- ---- alternatives

-- through the arm with the near tag n and the far tag m: of a hole, and of a pattern with the tag n
abbrev pub arm_pattern : List ℕ → List ℕ → (PatternTree → Option PatternTree) → PatternTree → Option PatternTree
arm_pattern n m inner hole = option_map (alt_pattern m) (inner hole)
arm_pattern n m inner (alt_pattern i p) = if bytes_eq i n then option_map (alt_pattern m) (inner p) else None
arm_pattern n m inner _ = None

-- ---- containers

-- two shapes are the same
abbrev pub is_same_shape : Shape → Shape → Bool
is_same_shape (ListOf r) (ListOf s) = nat_eq r.count s.count
is_same_shape (KeyedOf ms) (KeyedOf ns) = are_same_names ms ns
is_same_shape (TreeOf ds) (TreeOf es) = bytes_eq ds es
is_same_shape _ _ = false

-- the patterns at the n places of a shape: holes for a hole; None where no container of this shape is in the pattern
abbrev pub patterns_in_shape : Shape → ℕ → PatternTree → Option PatternTrees
patterns_in_shape s n hole = Some (holes n)
patterns_in_shape s n (hold_pattern r ps) = if is_same_shape r s then Some ps else None
patterns_in_shape s n _ = None

-- the inner image at each place
abbrev pub image_each : (CompTree → PatternTree → Option PatternTree) → CompTrees → PatternTrees → Option PatternTrees
image_each inner no_comps no_patterns = Some no_patterns
image_each inner (more_comps c cs) (more_patterns p ps) =
    option_and_then (λ q. option_map (more_patterns q) (image_each inner cs ps)) (inner c p)
image_each inner _ _ = None

-- a container of the complement's shape, with the inner image at each place
abbrev pub image_held : (CompTree → PatternTree → Option PatternTree) → CompTree → PatternTree → Option PatternTree
image_held inner (hold_comp s cs) p =
    option_map (hold_pattern s) (option_and_then (image_each inner cs) (patterns_in_shape s (comp_count cs) p))
image_held inner _ p = None

-- ---- the image

-- Of the identity it is the pattern; of a bijection a hole for a hole, else the partner; of a disconnection a hole;
-- of a composition the image through both lenses;
-- of a record the record whose far field of each paired row has the image of the near field's pattern, and whose
-- one-sided fields have holes; of alternatives the far tag of the complement's arm, with the arm's image of the
-- content's pattern; of a container the container of the complement's shape, with the inner image at each place; of a
-- partition the lists by tags, or the items in the order of the complement's tags, with the same content patterns; of
-- an inverse the image from the other side.
abbrev mutual
  pub image : FormTree → Side → CompTree → PatternTree → Option PatternTree
  image (form_id t) s c p = Some p
  image (form_bij ps n) s c p = partner_pattern s ps p
  image (form_disc t u) s c p = Some hole
  image (form_then l k) s (then_comp c d) p = through_both s (image l s c) (image k s d) p
  image (form_then l k) s _ p = None
  image (form_rec rows) s (rec_comp cs) p =
      option_map (λ qs. rec_pattern (in_order (fields_on (other s) rows) (named qs)))
      (image_rows rows s cs (patterns_by_name (fields_on s rows) p))
  image (form_rec rows) s _ p = None
  image (form_alt arms) s (alt_comp t c) p = image_arm arms s t c p
  image (form_alt arms) s _ p = None
  image (form_each l) s c p = image_held (image l s) c p
  image (form_keyed l) s c p = image_held (image l s) c p
  image (form_ordered l) s c p = image_held (image l s) c p
  image (form_part fs) Left (tags_comp ts) p = parted_image fs (sorted (lists_of fs)) ts p
  image (form_part fs) Right (tags_comp ts) p = joined_image fs (patterns_by_name (sorted (lists_of fs)) p) ts
  image (form_part fs) s _ p = None
  image (form_inv l) s c p = image l (other s) c p

  -- the far fields of the rows with their patterns, those of the near fields by name
  pub image_rows : RowTrees → Side → CompTrees → (List ℕ → PatternTree) → Option (List (List ℕ × PatternTree))
  image_rows no_rows s cs at = Some []
  image_rows (both a b l rows) s no_comps at = None
  image_rows (both a b l rows) s (more_comps c cs) at =
      option_and_then (λ q. option_map (with_named (far s a b) q) (image_rows rows s cs at))
      (image l s c (at (near s a b)))
  image_rows (only_left a t rows) Left cs at = image_rows rows Left cs at
  image_rows (only_left a t rows) Right cs at = option_map (with_named a hole) (image_rows rows Right cs at)
  image_rows (only_right b t rows) Left cs at = option_map (with_named b hole) (image_rows rows Left cs at)
  image_rows (only_right b t rows) Right cs at = image_rows rows Right cs at

  -- through the arm with this left tag
  pub image_arm : ArmTrees → Side → List ℕ → CompTree → PatternTree → Option PatternTree
  image_arm no_arms s t c p = None
  image_arm (more_arms a b l arms) s t c p = if bytes_eq t a then arm_pattern (near s a b) (far s a b) (image l s c) p
      else image_arm arms s t c p
