-- Equality of trees as RFC 6902 has it: numbers by value, arrays in order, objects in any order.
use Rattle.std.specs.Prelude.{ℕ, suc, Bool, true, false, ◌&&◌, ◌==◌, if◌then◌else◌, List, bytes_eq, Option, Some, None}
use Rattle.json.specs.Json.{Json, null, boolean, number, string, array, object, Items, no_items, item, Members}
use Rattle.json.specs.Json.{no_members, member}
use Rattle.file_patches.specs.Numbers.{same_bool, same_number}

abbrev pub item_count : Items → ℕ
item_count no_items = 0
item_count (item j js) = suc (item_count js)

abbrev pub member_count : Members → ℕ
member_count no_members = 0
member_count (member k j ms) = suc (member_count ms)

-- the content of the first member of a name
abbrev pub named : List ℕ → Members → Option Json
named n no_members = None
named n (member k j ms) = if bytes_eq n k then Some j else named n ms

-- there is a content, and it passes
abbrev pub passes : (Json → Bool) → Option Json → Bool
passes test None = false
passes test (Some j) = test j

abbrev mutual
  pub equal : Json → Json → Bool
  equal null null = true
  equal (boolean a) (boolean b) = same_bool a b
  equal (number s) (number t) = same_number s t
  equal (string s) (string t) = bytes_eq s t
  equal (array js) (array ks) = (item_count js == item_count ks) && items_equal js ks
  equal (object ms) (object ns) = (member_count ms == member_count ns) && members_equal ms ns
  equal _ _ = false

  -- each item is equal to the one at the same place, as far as both lists go
  pub items_equal : Items → Items → Bool
  items_equal (item j js) (item k ks) = equal j k && items_equal js ks
  items_equal _ _ = true

  -- each member has a member of the same name in the other object, with an equal content
  pub members_equal : Members → Members → Bool
  members_equal no_members ns = true
  members_equal (member k j ms) ns = passes (equal j) (named k ns) && members_equal ms ns
