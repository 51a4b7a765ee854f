-- For the helpers of the checker: heights up to one more than the limit, on both sides and row by row.
use Rattle.std.specs.Prelude.{◌≡◌, ℕ, ◌+◌, Bool, ◌&&◌, nat_eq, min}
use Rattle.doc_values.specs.Types.{height, highest}
use Rattle.program_terms.specs.Terms as Term
use Rattle.lens_forms.specs.Forms.{FormTree, left_type, right_type, RowTrees, left_fields, right_fields, ArmTrees}
use Rattle.lens_forms.specs.Forms.{left_tags, right_tags}
use Rattle.lens_forms.specs.Measures.{form_height}
use Rattle.lens_forms.specs.declared.limits.TheConstants.{GREATEST_HEIGHT}
use Rattle.lens_types.specs.Earlier.{Definitions, expanded_type, expanded_form}
use Rattle.lens_types.specs.Checking.{written_height}
use Rattle.lens_types.specs.declared.known.SideHeights.{SideHeights}

-- a height over the limit counts as one more than the limit
abbrev pub capped : ℕ → ℕ
capped h = min h (GREATEST_HEIGHT + 1)

-- these are the capped heights of the types of both sides of a form, and of the highest fields or tags of both sides
abbrev pub HasHeights : FormTree → SideHeights → Type 0
HasHeights f h = (h.left ≡ capped (height (left_type f))) × (h.right ≡ capped (height (right_type f)))

abbrev pub HasRowHeights : RowTrees → SideHeights → Type 0
HasRowHeights rows h = (h.left ≡ capped (highest (left_fields rows))) × (h.right ≡ capped (highest (right_fields rows)))

abbrev pub HasArmHeights : ArmTrees → SideHeights → Type 0
HasArmHeights arms h = (h.left ≡ capped (highest (left_tags arms))) × (h.right ≡ capped (highest (right_tags arms)))

-- the same as a test
abbrev pub has_heights : FormTree → SideHeights → Bool
has_heights f h = nat_eq h.left (capped (height (left_type f))) && nat_eq h.right (capped (height (right_type f)))

-- ---- the height of the form of one row, and the greatest height of a type that is written in it

abbrev pub row_height : Definitions → Term.RowTree → ℕ
row_height ds (Term.row_both a b l) = form_height (expanded_form ds l)
row_height ds (Term.row_left a t) = 0
row_height ds (Term.row_right b t) = 0

abbrev pub row_written : Definitions → Term.RowTree → ℕ
row_written ds (Term.row_both a b l) = written_height ds l
row_written ds (Term.row_left a t) = height (expanded_type ds t)
row_written ds (Term.row_right b t) = height (expanded_type ds t)
