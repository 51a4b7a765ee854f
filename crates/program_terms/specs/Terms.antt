-- Types, lenses, definitions and programs as plain trees.
-- In order: `TypeTree`, `LensTree`, what an initial value is where it is left out, and `ProgramTree`.
use Rattle.std.specs.Prelude.{ℕ, Bool, true, ◌&&◌, not, bytes_eq, is_some, Option, Some, None, if◌then◌else◌, List, []}
use Rattle.std.specs.Prelude.{◌∷◌}
use lib.IntN.{ℤ, pos}

-- an int and a text have their initial value; an enum has its members in written order, and its initial value; a record
-- and alternatives have names with types; a list, a keyed map and an ordered tree have the type of their contents; a
-- name refers to the type that it is defined as
mutual
  pub data TypeTree : Type 0 where
    unit : TypeTree
    bool : TypeTree
    int : ℤ → TypeTree
    text : List ℕ → TypeTree
    enum_of : List (List ℕ) → List ℕ → TypeTree
    record_of : TermFields → TypeTree
    one_of : TermFields → TypeTree
    list : TypeTree → TypeTree
    keyed : TypeTree → TypeTree
    tree : TypeTree → TypeTree
    named : List ℕ → TypeTree

  pub data TermFields : Type 0 where
    no_fields : TermFields
    more_fields : List ℕ → TypeTree → TermFields → TermFields

-- a list of names with types as fields, and back
abbrev pub term_fields_of : List (List ℕ × TypeTree) → TermFields
term_fields_of [] = no_fields
term_fields_of (f ∷ fs) = more_fields f.0 f.1 (term_fields_of fs)

abbrev pub type_field_list : TermFields → List (List ℕ × TypeTree)
type_field_list no_fields = []
type_field_list (more_fields n t fs) = (n, t) ∷ type_field_list fs

-- the lenses in the order of the grammar; a bijection has its pairs, and the initial value on the left; a row of a
-- record is paired, or is on one side alone; an arm of alternatives has its left tag, its right tag and its lens; a
-- name refers to the lens that it is defined as
mutual
  pub data LensTree : Type 0 where
    id_of : TypeTree → LensTree
    bij_of : List (List ℕ × List ℕ) → List ℕ → LensTree
    disc_of : TypeTree → TypeTree → LensTree
    then_of : LensTree → LensTree → LensTree
    rec_lens : TermRows → LensTree
    alt_lens : TermArms → LensTree
    each_of : LensTree → LensTree
    keyed_each : LensTree → LensTree
    tree_each : LensTree → LensTree
    part_of : TermFields → LensTree
    inv_of : LensTree → LensTree
    named_lens : List ℕ → LensTree

  pub data TermRows : Type 0 where
    no_rows : TermRows
    both : List ℕ → List ℕ → LensTree → TermRows → TermRows
    only_left : List ℕ → TypeTree → TermRows → TermRows
    only_right : List ℕ → TypeTree → TermRows → TermRows

  pub data TermArms : Type 0 where
    no_arms : TermArms
    more_arms : List ℕ → List ℕ → LensTree → TermArms → TermArms

-- one row
pub data RowTree : Type 0 where
  row_both : List ℕ → List ℕ → LensTree → RowTree
  row_left : List ℕ → TypeTree → RowTree
  row_right : List ℕ → TypeTree → RowTree

-- a row before others
abbrev pub with_row : RowTree → TermRows → TermRows
with_row (row_both a b l) rows = both a b l rows
with_row (row_left a t) rows = only_left a t rows
with_row (row_right a t) rows = only_right a t rows

-- a list of rows as rows, and back
abbrev pub term_rows_of : List RowTree → TermRows
term_rows_of [] = no_rows
term_rows_of (r ∷ rs) = with_row r (term_rows_of rs)

abbrev pub row_list : TermRows → List RowTree
row_list no_rows = []
row_list (both a b l rows) = row_both a b l ∷ row_list rows
row_list (only_left a t rows) = row_left a t ∷ row_list rows
row_list (only_right a t rows) = row_right a t ∷ row_list rows

-- a list of two tags with a lens as arms, and back
abbrev pub term_arms_of : List (List ℕ × List ℕ × LensTree) → TermArms
term_arms_of [] = no_arms
term_arms_of (a ∷ others) = more_arms a.0 a.1 a.2 (term_arms_of others)

abbrev pub arm_list : TermArms → List (List ℕ × List ℕ × LensTree)
arm_list no_arms = []
arm_list (more_arms a b l others) = (a, b, l) ∷ arm_list others

-- the initial values that are meant when they are left out: 0, the empty text, the first member of an enum, and the
-- first left member of a bijection
abbrev pub initial_number : ℤ
initial_number = pos 0

abbrev pub initial_text : List ℕ
initial_text = []

abbrev pub initial_member : List (List ℕ) → List ℕ
initial_member [] = []
initial_member (m ∷ ms) = m

abbrev pub initial_left : List (List ℕ × List ℕ) → List ℕ
initial_left [] = []
initial_left (p ∷ ps) = p.0

-- what a name is defined as
pub data DefTree : Type 0 where
  type_def : TypeTree → DefTree
  lens_def : LensTree → DefTree

-- a program: its definitions in written order, each with its name, and the main lens
pub record ProgramTree : Type 0 where
  pub definitions : List (List ℕ × DefTree)
  pub main : LensTree

-- the first definition with this name
abbrev pub def_named : List ℕ → List (List ℕ × DefTree) → Option DefTree
def_named name [] = None
def_named name (d ∷ ds) = if bytes_eq name d.0 then Some d.1 else def_named name ds

-- whether a definition has this name
abbrev pub is_defined : List ℕ → List (List ℕ × DefTree) → Bool
is_defined name ds = is_some (def_named name ds)

-- no two definitions have the same name
abbrev pub are_defined_once : List (List ℕ × DefTree) → Bool
are_defined_once [] = true
are_defined_once (d ∷ ds) = not (is_defined d.0 ds) && are_defined_once ds
