-- The first name, in written order, that equals an earlier one of its side.
-- Read it from the end: the names of each kind, then `first_repeat`.
use Rattle.std.specs.Prelude.{ℕ, Bool, true, false, ◌&&◌, ◌||◌, bytes_eq, if◌then◌else◌, List, [], ◌∷◌, ◌++◌, Option}
use Rattle.std.specs.Prelude.{Some, None}
use Rattle.std.specs.Borrow.{Bor}
use Rattle.program_terms.specs.Terms as Term
use Rattle.texts.specs.declared.side.Side.{Side}
use Rattle.texts.specs.declared.side.Side.TheVariants.{Left, Right}

-- a name with the side on which it stands
abbrev pub SidedName : Type 0
SidedName = Side × List ℕ

-- two names stand on the same side and are equal
abbrev pub is_same_side : Side → Side → Bool
is_same_side Left Left = true
is_same_side Right Right = true
is_same_side _ _ = false

abbrev pub is_same_name : SidedName → SidedName → Bool
is_same_name m n = is_same_side m.0 n.0 && bytes_eq m.1 n.1

abbrev pub is_among : SidedName → List SidedName → Bool
is_among n [] = false
is_among n (m ∷ ms) = is_same_name n m || is_among n ms

-- the first of the names that is among those before it, where some names stand before them all
abbrev pub repeat_after : List SidedName → List SidedName → Option (List ℕ)
repeat_after before [] = None
repeat_after before (n ∷ ns) = if is_among n before then Some n.1 else repeat_after (before ++ n ∷ []) ns

abbrev pub first_repeat : List SidedName → Option (List ℕ)
first_repeat ns = repeat_after [] ns

-- the members of an enum, the names of fields and the tags of alternatives stand on one side
abbrev pub sided_members : List (List ℕ) → List SidedName
sided_members [] = []
sided_members (m ∷ ms) = (Left, m) ∷ sided_members ms

abbrev pub field_names : Term.TermFields → List SidedName
field_names Term.no_fields = []
field_names (Term.more_fields n t fs) = (Left, n) ∷ field_names fs

-- within a pair, a row or an arm the left name comes before the right one
abbrev pub pair_names : List (List ℕ × List ℕ) → List SidedName
pair_names [] = []
pair_names (p ∷ ps) = (Left, p.0) ∷ (Right, p.1) ∷ pair_names ps

abbrev pub row_names : Term.TermRows → List SidedName
row_names Term.no_rows = []
row_names (Term.both a b l rows) = (Left, a) ∷ (Right, b) ∷ row_names rows
row_names (Term.only_left a t rows) = (Left, a) ∷ row_names rows
row_names (Term.only_right b t rows) = (Right, b) ∷ row_names rows

abbrev pub arm_names : Term.TermArms → List SidedName
arm_names Term.no_arms = []
arm_names (Term.more_arms a b l arms) = (Left, a) ∷ (Right, b) ∷ arm_names arms

-- a name with its side, and what its reference points to
abbrev pub sided : Side × Bor (List ℕ) → SidedName
sided n = (n.0, n.1.now)
