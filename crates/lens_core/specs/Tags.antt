-- The tags of a partition and their numbers: the number of a tag is its place among the tags in written order, from 0.
use Rattle.std.specs.Prelude.{ℕ, zero, suc, ◌+◌, List, [], Option, option_map}
use Rattle.doc_values.specs.Types.{FieldTrees, no_fields, more_fields}
use Rattle.doc_values.specs.Typing.{lookup_field}

-- how many tags there are
abbrev pub tag_count : FieldTrees → ℕ
tag_count no_fields = 0
tag_count (more_fields n t fs) = tag_count fs + 1

-- the number of a tag
abbrev pub tag_number : FieldTrees → List ℕ → Option ℕ
tag_number fs n = option_map (λ f. f.0) (lookup_field fs n)

-- the tag with a number; a number that is too large has the empty name
abbrev pub tag_name : FieldTrees → ℕ → List ℕ
tag_name no_fields k = []
tag_name (more_fields n t fs) zero = n
tag_name (more_fields n t fs) (suc k) = tag_name fs k
