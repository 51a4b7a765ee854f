-- The first value among the tokens of a text: its tree, as serde_json has it, what a function makes of that tree, and
-- the tokens behind it.
use Rattle.std.specs.Prelude.{ℕ, List, length, Option}
use Rattle.json.specs.Token.{Token}
use Rattle.json.specs.Json as json
use Rattle.serde_json.specs.Data.{Data, Items, Members}
use Rattle.serde_json.specs.Read.{of_json, of_items, of_members, converted}

-- the tree of the first value, which nests no deeper than the number, and the tokens behind it
abbrev pub tree_at : ℕ → List Token → Option (Data × List Token)
tree_at depth ts = converted of_json (json.value depth ts)

-- the items up to the bracket that closes an array, each of which nests no deeper than the number, and the tokens
-- behind it
abbrev pub items_at : ℕ → List Token → Option (Items × List Token)
items_at depth ts = converted of_items (json.items (json.value depth) (length ts) ts)

-- the members up to the brace that closes an object, put into those that were found before, and the tokens behind it
abbrev pub members_at : ℕ → Members → List Token → Option (Members × List Token)
members_at depth found ts = converted (λ ms. of_members ms found) (json.members (json.value depth) (length ts) ts)

-- what a function makes of that tree, and of those items
abbrev pub read_at : {X : Type 0} → (Data → Option X) → ℕ → List Token → Option (X × List Token)
read_at f depth ts = converted f (tree_at depth ts)

abbrev pub read_items_at : {X : Type 0} → (Items → Option X) → ℕ → List Token → Option (X × List Token)
read_items_at f depth ts = converted f (items_at depth ts)
