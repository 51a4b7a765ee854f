-- What a reader of complements returns: what is found has the tree that is read, and a refusal says that nothing has
-- it.
use Rattle.std.specs.Prelude.{◌≡◌, ℕ, IsTrue, List, Option, Some, None, Result, Ok, Err, codes, nat_lt}
use Rattle.serde_json.specs.Data.{Data, null, string, array, object, Items, no_items, item, Members, no_members, member}
use Rattle.doc_values.specs.Types.{FieldTrees}
use Rattle.tag_seq.specs.Tags.{are_below}
use Rattle.lens_forms.specs.Forms.{FormTree, RowTrees}
use Rattle.lens_core.specs.Tags.{tag_count, tag_name}
use Rattle.lens_core.specs.Complements.{CompTree, CompTrees, IsNil, Fits, FitRows, AllFit}
use Rattle.complement_file.specs.ComplementJson.{tree_of_complement, row_items, place_items, tag_items}
use Rattle.value_json.specs.SmallTrees.{one_member, array_of_two}
use Rattle.complement_file.specs.declared.fault.CompFault.{CompFault}
use Rattle.complement_file.specs.declared.fault.CompFault.TheVariants.{NotAComplement, NoMemory}

-- nothing is as wanted; running out of memory says nothing
abbrev pub Refuses : {Y : Type 0} → (Y → Type 0) → CompFault → Type 0
Refuses {Y = Y} Wanted NotAComplement = (y : Y) → Wanted y → ⊥
Refuses Wanted NoMemory = Unit {0}

-- what is returned is as wanted, and it is refused only if nothing is
abbrev pub Finds : {X Y : Type 0} → (Y → Type 0) → (X → Y) → Result X CompFault → Type 0
Finds Wanted view (Ok x) = Wanted (view x)
Finds Wanted view (Err fault) = Refuses Wanted fault

-- the same of an option
abbrev pub FindsSome : {X Y : Type 0} → (Y → Type 0) → (X → Y) → Option X → Type 0
FindsSome Wanted view (Some x) = Wanted (view x)
FindsSome {Y = Y} Wanted view None = (y : Y) → Wanted y → ⊥

-- nothing is kept, and the tree is `null`
abbrev pub IsNothing : Data → CompTree → Type 0
IsNothing tree c = IsNil c × (null ≡ tree)

-- the tree of an ordered tree's complement, with these depths and these items
abbrev pub nodes_tree : Items → Items → Data
nodes_tree depths items =
    one_member (codes "tree")
    (object (member (codes "depths") (array depths) (member (codes "items") (array items) no_members)))

-- the tree is an object with one member, of this name; its content is such a tree, an array of such items, an object of
-- such members, or an array of two
abbrev pub HasContent : List ℕ → Data → Data → Type 0
HasContent name tree d = one_member name d ≡ tree

abbrev pub HasArray : List ℕ → Data → Items → Type 0
HasArray name tree ds = one_member name (array ds) ≡ tree

abbrev pub HasObject : List ℕ → Data → Members → Type 0
HasObject name tree ms = one_member name (object ms) ≡ tree

abbrev pub HasPair : List ℕ → Data → Data × Data → Type 0
HasPair name tree p = one_member name (array_of_two p.0 p.1) ≡ tree

-- the tree of an ordered tree's complement has these depths and items
abbrev pub HasNodes : Data → Items × Items → Type 0
HasNodes tree p = nodes_tree p.0 p.1 ≡ tree

-- the contents of an object's members
abbrev pub member_contents : Members → Items
member_contents no_members = no_items
member_contents (member k d ms) = item d (member_contents ms)

-- complements of one lens have these trees
abbrev pub ArePlaces : FormTree → Items → CompTrees → Type 0
ArePlaces form items cs = AllFit (Fits form) cs × (place_items (tree_of_complement form) cs ≡ items)

-- complements of the paired rows have these trees
abbrev pub AreRows : RowTrees → Items → CompTrees → Type 0
AreRows rows items cs = FitRows rows cs × (row_items rows cs ≡ items)

-- the name of the tag with this number is this tree
abbrev pub IsTag : FieldTrees → Data → ℕ → Type 0
IsTag tags tree k = IsTrue (nat_lt k (tag_count tags)) × (string (tag_name tags k) ≡ tree)

-- the names of the tags with these numbers are these trees
abbrev pub AreTags : FieldTrees → Items → List ℕ → Type 0
AreTags tags items ks = IsTrue (are_below (tag_count tags) ks) × (tag_items tags ks ≡ items)

-- the complement fits the form and has this tree
abbrev pub IsComplement : FormTree → Data → CompTree → Type 0
IsComplement form tree c = Fits form c × (tree_of_complement form c ≡ tree)
