-- Arrays of two items and of three.
use Rattle.std.specs.Prelude.{Option, Some, None}
use Rattle.serde_json.specs.Data.{Data, array, no_items, item}

-- the two items of an array of exactly two
abbrev pub two_items : Data → Option (Data × Data)
two_items (array (item d (item e no_items))) = Some (d, e)
two_items _ = None

-- the three items of an array of exactly three
abbrev pub three_items : Data → Option (Data × Data × Data)
three_items (array (item d (item e (item f no_items)))) = Some (d, e, f)
three_items _ = None
