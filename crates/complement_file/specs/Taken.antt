-- Complements that are taken from the tokens of a text: they fit their lens, and have the tree that serde_json has for
-- these tokens.
use Rattle.std.specs.Prelude.{◌≡◌, ℕ, List, Some}
use Rattle.json.specs.Token.{Token}
use Rattle.serde_json.specs.Data.{Data, Items, Members, no_members}
use Rattle.doc_values.specs.Types.{FieldTrees}
use Rattle.lens_forms.specs.Forms.{FormTree, RowTrees}
use Rattle.lens_core.specs.Complements.{CompTree, CompTrees}
use Rattle.json_tokens.specs.TreesAt.{tree_at, items_at, members_at}
use Rattle.value_json.specs.DocumentJson.{member_names}
use Rattle.complement_file.specs.Reading.{IsNothing, IsComplement, ArePlaces, AreRows, AreTags, member_contents}

-- nothing is kept, and the first value is `null`
abbrev pub TakesNothing : ℕ → List Token → CompTree → List Token → Type 0
TakesNothing depth old c new = (tree : Data) × (tree_at depth old ≡ Some (tree, new)) × IsNothing tree c

-- a complement is the first value
abbrev pub TakesComp : FormTree → ℕ → List Token → CompTree → List Token → Type 0
TakesComp form depth old c new = (tree : Data) × (tree_at depth old ≡ Some (tree, new)) × IsComplement form tree c

-- complements of one lens, complements of the paired rows, or the names of tags are the items up to the bracket that
-- closes an array
abbrev pub TakesPlaces : FormTree → ℕ → List Token → CompTrees → List Token → Type 0
TakesPlaces form depth old cs new = (items : Items) × (items_at depth old ≡ Some (items, new)) × ArePlaces form items cs

abbrev pub TakesRows : RowTrees → ℕ → List Token → CompTrees → List Token → Type 0
TakesRows rows depth old cs new = (items : Items) × (items_at depth old ≡ Some (items, new)) × AreRows rows items cs

abbrev pub TakesTags : FieldTrees → ℕ → List Token → List ℕ → List Token → Type 0
TakesTags tags depth old ks new = (items : Items) × (items_at depth old ≡ Some (items, new)) × AreTags tags items ks

-- complements of one lens are the contents of the members up to the brace that closes an object, which have these names
abbrev pub TakesContents : FormTree → ℕ → List Token → List (List ℕ) → CompTrees → List Token → Type 0
TakesContents form depth old names cs new =
    (members : Members) × (members_at depth no_members old ≡ Some (members, new)) × (names ≡ member_names members)
    × ArePlaces form (member_contents members) cs
