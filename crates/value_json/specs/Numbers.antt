-- The whole numbers of a tree. The specification type of trees has more numbers than a tree that was
-- read can hold: here a whole number of 64 bits is in it in one way alone, at or above zero as
-- `unsigned`, below zero as `negative`.
use Rattle.std.specs.Prelude.{ℕ, ℤ, pos, negsuc, ◌^◌, List, [], ◌∷◌, Option, Some, None, option_map, option_and_then}
use Rattle.std.specs.Prelude.{if◌then◌else◌, nat_lt}
use Rattle.serde_json.specs.Data.{Num, unsigned, negative, float, Data, number, Items, no_items, item}
use Rattle.serde_json.specs.Find.{as_number, of_integer}

-- a number that is an i64
abbrev pub int_in : Num → Option ℤ
int_in (unsigned n) = if nat_lt n (2 ^ 63) then Some (pos n) else None
int_in (negative (pos n)) = None
int_in (negative (negsuc n)) = if nat_lt n (2 ^ 63) then Some (negsuc n) else None
int_in (float x) = None

-- a number that is a u64
abbrev pub count_in : Num → Option ℕ
count_in (unsigned n) = if nat_lt n (2 ^ 64) then Some n else None
count_in (negative z) = None
count_in (float x) = None

-- the i64 and the u64 that a tree is
abbrev pub int_of : Data → Option ℤ
int_of d = option_and_then int_in (as_number d)

abbrev pub count_of : Data → Option ℕ
count_of d = option_and_then count_in (as_number d)

-- the u64 numbers that the items of an array are
abbrev pub counts_of : Items → Option (List ℕ)
counts_of no_items = Some []
counts_of (item d ds) = option_and_then (λ n. option_map (λ ns. n ∷ ns) (counts_of ds)) (count_of d)

-- the tree of an int, of a count, and the items of a list of counts
abbrev pub int_tree : ℤ → Data
int_tree z = number (of_integer z)

abbrev pub count_tree : ℕ → Data
count_tree n = number (unsigned n)

abbrev pub count_items : List ℕ → Items
count_items [] = no_items
count_items (n ∷ ns) = item (count_tree n) (count_items ns)
