-- The parts of objects with one member and with two.
use Rattle.std.specs.Prelude.{ℕ, ◌&&◌, List, Option, Some, None, if◌then◌else◌, codes, bytes_eq}
use Rattle.serde_json.specs.Data.{Data, array, object, Items, no_members, member}

-- the name and the content of the one member of an object
abbrev pub only_member : Data → Option (List ℕ × Data)
only_member (object (member k d no_members)) = Some (k, d)
only_member _ = None

-- the names and the contents of the two members of an object, in order
abbrev pub two_members : Data → Option ((List ℕ × Data) × (List ℕ × Data))
two_members (object (member k d (member l e no_members))) = Some ((k, d), (l, e))
two_members _ = None

-- the two arrays of an object with exactly the members `depths` and `items`
abbrev pub depths_and_items : Data → Option (Items × Items)
depths_and_items (object (member k (array ns) (member l (array ds) no_members))) =
    if bytes_eq k (codes "depths") && bytes_eq l (codes "items") then Some (ns, ds) else None
depths_and_items _ = None
