-- Small JSON trees that many definitions build: an object with one member, and an array of two items.
use Rattle.std.specs.Prelude.{ℕ, List}
use Rattle.serde_json.specs.Data.{Data, array, object, no_items, item, no_members, member}

-- an object with exactly one member
abbrev pub one_member : List ℕ → Data → Data
one_member name content = object (member name content no_members)

-- an array of two items
abbrev pub array_of_two : Data → Data → Data
array_of_two first second = array (item first (item second no_items))
