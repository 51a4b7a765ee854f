-- For the helpers of the checker: what the check of one node or one row gives.
use Rattle.std.specs.Prelude.{◌≡◌, ℕ, List, Option, None, Result, MatchResult}
use Rattle.std.specs.Option.{option_or}
use Rattle.doc_values.specs.Types.{height}
use Rattle.program_terms.specs.Terms as Term
use Rattle.lens_forms.specs.Forms.{FormTree, form_bij, FormRowTree, row_both, row_left, row_right}
use Rattle.lens_types.specs.Earlier.{Definitions, expanded_type, expanded_form}
use Rattle.lens_types.specs.Checking.{Failure, pairs_failure, type_failure, lens_failure, sides_failure}
use Rattle.lens_types.specs.Faults.{IsFaultOf}
use Rattle.lens_types.specs.Heights.{capped, HasHeights}
use Rattle.lens_types.specs.declared.fault.TypeFault.{TypeFault}
use Rattle.lens_types.specs.declared.known.SideHeights.{SideHeights}

-- the heights of the sides of a form, or that one is too high
abbrev pub IsLowForm : FormTree → Result SideHeights TypeFault → Type 0
IsLowForm f r =
    MatchResult r (λ h. (sides_failure f ≡ None) × HasHeights f h) (λ fault. IsFaultOf (sides_failure f) fault)

abbrev pub bijection_failure : List (List ℕ × List ℕ) → List ℕ → Option Failure
bijection_failure ps v = option_or (pairs_failure ps v) (sides_failure (form_bij ps v))

-- the failure of one row, and the heights of its fields, 0 on a side where it has none
abbrev pub row_failure : Definitions → Term.RowTree → Option Failure
row_failure ds (Term.row_both a b l) = lens_failure ds l
row_failure ds (Term.row_left a t) = type_failure t
row_failure ds (Term.row_right b t) = type_failure t

abbrev pub HasFieldHeights : Definitions → Term.RowTree → SideHeights → Type 0
HasFieldHeights ds (Term.row_both a b l) h = HasHeights (expanded_form ds l) h
HasFieldHeights ds (Term.row_left a t) h = (h.left ≡ capped (height (expanded_type ds t))) × (h.right ≡ 0)
HasFieldHeights ds (Term.row_right b t) h = (h.left ≡ 0) × (h.right ≡ capped (height (expanded_type ds t)))

abbrev pub IsRowChecked : Definitions → Term.RowTree → Result SideHeights TypeFault → Type 0
IsRowChecked ds row r =
    MatchResult r (λ h. (row_failure ds row ≡ None) × HasFieldHeights ds row h)
    (λ fault. IsFaultOf (row_failure ds row) fault)

-- one row with its names expanded
abbrev pub expanded_row : Definitions → Term.RowTree → FormRowTree
expanded_row ds (Term.row_both a b l) = row_both a b (expanded_form ds l)
expanded_row ds (Term.row_left a t) = row_left a (expanded_type ds t)
expanded_row ds (Term.row_right b t) = row_right b (expanded_type ds t)
