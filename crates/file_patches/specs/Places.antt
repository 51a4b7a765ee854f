-- Places in a tree. A place is a pointer's parts. From the end: `content_at`, the content that a place has, `position`,
-- where a part leads in an array or an object.
use Rattle.std.specs.Prelude.{ℕ, zero, suc, ◌+◌, Bool, ◌&&◌, ◌||◌, not, ◌==◌, if◌then◌else◌, nat_lt, List, [], ◌∷◌}
use Rattle.std.specs.Prelude.{length, slice_index, bytes_eq, codes, Option, Some, None, Result, Ok, Err}
use Rattle.std.specs.List.{list_all}
use Rattle.std.specs.Char.{is_ascii_digit}
use Rattle.std.specs.Str.Parse.{digits_value}
use Rattle.json.specs.Json.{Json, null, array, object, Items, no_items, item, Members, no_members, member}
use Rattle.json.specs.Strict.{keys}
use Rattle.texts.specs.Keys.{key_place}
use Rattle.file_patches.specs.declared.fault.Cause.{Cause}
use Rattle.file_patches.specs.declared.fault.Cause.TheVariants.{NoPlace, NotAPlace}
use Rattle.file_patches.specs.Results.{and_then}
use Rattle.file_patches.specs.Equality.{item_count}

-- digits, and no zero in front of others
abbrev pub is_index : List ℕ → Bool
is_index s =
    (not (length s == 0) && list_all is_ascii_digit s) && ((length s == 1) || not (slice_index s 0 == 48))

-- the index that a text writes, where it is below a bound
abbrev pub index_below : ℕ → ℕ → Result ℕ Cause
index_below bound i = if nat_lt i bound then Ok i else Err NoPlace

abbrev pub index_of : List ℕ → ℕ → Result ℕ Cause
index_of s bound = if is_index s then index_below bound (digits_value 10 s) else Err NotAPlace

-- the end of an array, as a part
abbrev pub is_end : List ℕ → Bool
is_end s = bytes_eq s (codes "-")

-- an item of an array, and a place where one may be put in front or at the end
abbrev pub item_position : List ℕ → ℕ → Result ℕ Cause
item_position s count = if is_end s then Err NoPlace else index_of s count

abbrev pub free_position : List ℕ → ℕ → Result ℕ Cause
free_position s count = if is_end s then Ok count else index_of s (count + 1)

abbrev pub found : Option ℕ → Result ℕ Cause
found None = Err NoPlace
found (Some i) = Ok i

-- where a part leads: a member of an object, by its name, or an item of an array, by its index
abbrev pub position : List ℕ → Json → Result ℕ Cause
position s (object ms) = found (key_place s (keys ms))
position s (array js) = item_position s (item_count js)
position s _ = Err NotAPlace

abbrev pub item_at : ℕ → Items → Json
item_at i no_items = null
item_at zero (item j js) = j
item_at (suc i) (item j js) = item_at i js

abbrev pub member_at : ℕ → Members → Json
member_at i no_members = null
member_at zero (member k j ms) = j
member_at (suc i) (member k j ms) = member_at i ms

-- the content at a position, null past the end
abbrev pub child : ℕ → Json → Json
child i (object ms) = member_at i ms
child i (array js) = item_at i js
child i _ = null

-- the content at a place
abbrev pub content_at : List (List ℕ) → Json → Result Json Cause
content_at [] j = Ok j
content_at (s ∷ ss) j = and_then (λ i. content_at ss (child i j)) (position s j)
