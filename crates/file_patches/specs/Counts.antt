-- How many contents an array or an object has.
use Rattle.std.specs.Prelude.{ℕ}
use Rattle.json.specs.Json.{Json, array, object}
use Rattle.file_patches.specs.Equality.{item_count, member_count}

abbrev pub child_count : Json → ℕ
child_count (object ms) = member_count ms
child_count (array js) = item_count js
child_count _ = 0
