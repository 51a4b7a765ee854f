-- The values that primitives hold: their trees, the values that trees are, and the ranges of their numbers.
-- From the end: the ranges `place_fits` and `atom_fits`, then what trees are, `data_place` and `atom_of`, then the
-- trees
-- of values.
use Rattle.std.specs.Prelude.{ℕ, ◌^◌, ◌&&◌, Bool, true, List, [], ◌∷◌, Option, Some, None, option_map, option_and_then}
use Rattle.std.specs.Prelude.{if◌then◌else◌, nat_lt}
use Rattle.serde_json.specs.Data.{Data, boolean, number, string, array}
use Rattle.serde_json.specs.Find.{as_array}
use Rattle.hold_shapes.specs.Plans.{is_count}
use Rattle.hold_shapes.specs.declared.edit.Place.{Place}
use Rattle.hold_shapes.specs.declared.edit.Place.TheVariants.{Index, Key, Node}
use Rattle.edit_module.specs.declared.atom.Atom.{Atom}
use Rattle.edit_module.specs.declared.atom.Atom.TheVariants.{Truth, Number, Letters}
use Rattle.doc_values.specs.Integers.{fits_i64}
use Rattle.value_json.specs.Numbers.{int_in, count_of, counts_of, int_tree, count_tree, count_items}

-- ---- trees

-- a path, and the places of a reorder, are an array of numbers
abbrev pub tree_of_counts : List ℕ → Data
tree_of_counts ns = array (count_items ns)

-- a value that is set: a bool, a number or a string
abbrev pub tree_of_atom : Atom → Data
tree_of_atom (Truth b) = boolean b
tree_of_atom (Number n) = int_tree n
tree_of_atom (Letters s) = string s

-- a place: an index is a number, a key a string, and the path of a node an array
abbrev pub tree_of_place : Place → Data
tree_of_place (Index n) = count_tree n
tree_of_place (Key k) = string k
tree_of_place (Node q) = tree_of_counts q

-- ---- the values that trees are

-- a bool, an i64 number or a string
abbrev pub atom_of : Data → Option Atom
atom_of (boolean b) = Some (Truth b)
atom_of (number n) = option_map Number (int_in n)
atom_of (string s) = Some (Letters s)
atom_of _ = None

-- an array of u64 numbers: a path, or the places of a reorder
abbrev pub numbers_of : Data → Option (List ℕ)
numbers_of d = option_and_then counts_of (as_array d)

-- a u64 number, a string or a path
abbrev pub data_place : Data → Option Place
data_place (number n) = option_map Index (count_of (number n))
data_place (string s) = Some (Key s)
data_place (array ds) = option_map Node (counts_of ds)
data_place _ = None

-- a number of items, from 1 to 65,536
abbrev pub if_count : ℕ → Option ℕ
if_count n = if is_count n then Some n else None

abbrev pub item_count_of : Data → Option ℕ
item_count_of d = option_and_then if_count (count_of d)

-- ---- ranges

-- the range of a u64
abbrev pub fits_u64 : ℕ → Bool
fits_u64 n = nat_lt n (2 ^ 64)

abbrev pub all_fit_u64 : List ℕ → Bool
all_fit_u64 [] = true
all_fit_u64 (n ∷ ns) = fits_u64 n && all_fit_u64 ns

abbrev pub atom_fits : Atom → Bool
atom_fits (Number n) = fits_i64 n
atom_fits _ = true

abbrev pub place_fits : Place → Bool
place_fits (Index n) = fits_u64 n
place_fits (Key k) = true
place_fits (Node q) = all_fit_u64 q
