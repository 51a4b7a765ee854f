-- The image of a pattern through a partition, both ways. Between the two sides stands a list of patterns: one for the
-- content of each item, in the order of the complement's tags. Read it from the end: `joined_image`, then
-- `parted_image`.
use Rattle.std.specs.Prelude.{ℕ, zero, suc, ◌+◌, ◌&&◌, nat_eq, bytes_eq, if◌then◌else◌, List, [], ◌∷◌, length, Option}
use Rattle.std.specs.Prelude.{None, Some, option_map, option_and_then}
use Rattle.hold_shapes.specs.declared.shape.Shape.TheVariants.{List as ListOf}
use Rattle.doc_values.specs.Types.{FieldTrees, no_fields, more_fields}
use Rattle.doc_values.specs.Typing.{is_list_of}
use Rattle.tag_seq.specs.Tags.{count}
use Rattle.lens_core.specs.Tags.{tag_number, tag_name}
use Rattle.law_images.specs.Patterns.{PatternTree, hole, rec_pattern, alt_pattern, hold_pattern, PatternTrees}
use Rattle.law_images.specs.Patterns.{no_patterns, more_patterns, pattern_count, in_order}

-- so many holes
abbrev pub holes : ℕ → PatternTrees
holes zero = no_patterns
holes (suc n) = more_patterns hole (holes n)

-- a list of these patterns, which are n
abbrev pub list_pattern : ℕ → PatternTrees → PatternTree
list_pattern n ps = hold_pattern (ListOf (record { count = n })) ps

-- the patterns of a list of n items: holes for a hole; None where no list of n items is in the pattern
abbrev pub patterns_in_list : ℕ → PatternTree → Option PatternTrees
patterns_in_list n hole = Some (holes n)
patterns_in_list n (hold_pattern s ps) = if is_list_of s n && nat_eq (pattern_count ps) n then Some ps else None
patterns_in_list n _ = None

-- ---- from the left

-- the pattern of the content of an item with the tag n; None where no such item is in the pattern
abbrev pub content_pattern : List ℕ → PatternTree → Option PatternTree
content_pattern n hole = Some hole
content_pattern n (alt_pattern m p) = if bytes_eq m n then Some p else None
content_pattern n _ = None

-- the pattern of the content of each item, of items with these tags
abbrev pub content_patterns : FieldTrees → List ℕ → PatternTrees → Option PatternTrees
content_patterns fs [] no_patterns = Some no_patterns
content_patterns fs [] (more_patterns p ps) = None
content_patterns fs (t ∷ ts) no_patterns = None
content_patterns fs (t ∷ ts) (more_patterns p ps) =
    option_and_then (λ q. option_map (more_patterns q) (content_patterns fs ts ps)) (content_pattern (tag_name fs t) p)

-- those of the contents with the tag k, in order
abbrev pub patterns_at : ℕ → List ℕ → PatternTrees → PatternTrees
patterns_at k [] qs = no_patterns
patterns_at k (t ∷ ts) no_patterns = no_patterns
patterns_at k (t ∷ ts) (more_patterns q qs) = if nat_eq t k then more_patterns q (patterns_at k ts qs)
    else patterns_at k ts qs

-- the list at a field: of the contents with the tag of that name
abbrev pub list_at : FieldTrees → List ℕ → PatternTrees → List ℕ → PatternTree
list_at fs ts qs n = elim (tag_number fs n) [ None ↦ hole | Some k ↦ list_pattern (count k ts) (patterns_at k ts qs) ]

-- ---- from the right

-- the patterns of the list of each tag, by its number, the first number being k; the pattern of each field by its name
abbrev pub list_patterns : FieldTrees → ℕ → List ℕ → (List ℕ → PatternTree) → Option (ℕ → PatternTrees)
list_patterns no_fields k ts at = Some (λ j. no_patterns)
list_patterns (more_fields n t fs) k ts at =
    option_and_then
    (λ ps. option_map (λ others j. if nat_eq k j then ps else others j) (list_patterns fs (k + 1) ts at))
    (patterns_in_list (count k ts) (at n))

abbrev pub first_pattern : PatternTrees → PatternTree
first_pattern no_patterns = hole
first_pattern (more_patterns p ps) = p

abbrev pub other_patterns : PatternTrees → PatternTrees
other_patterns no_patterns = no_patterns
other_patterns (more_patterns p ps) = ps

-- for each item the next pattern of its tag's list
abbrev pub dealt : List ℕ → (ℕ → PatternTrees) → PatternTrees
dealt [] lists = no_patterns
dealt (t ∷ ts) lists =
    more_patterns (first_pattern (lists t)) (dealt ts (λ k. if nat_eq t k then other_patterns (lists t) else lists k))

-- the items with these contents
abbrev pub item_patterns : FieldTrees → List ℕ → PatternTrees → PatternTrees
item_patterns fs [] qs = no_patterns
item_patterns fs (t ∷ ts) no_patterns = no_patterns
item_patterns fs (t ∷ ts) (more_patterns q qs) = more_patterns (alt_pattern (tag_name fs t) q) (item_patterns fs ts qs)

-- ---- both ways

-- from the left: a hole or a list of items with these tags becomes a record of lists
abbrev pub parted_image : FieldTrees → FieldTrees → List ℕ → PatternTree → Option PatternTree
parted_image fs gs ts p =
    option_map (λ qs. rec_pattern (in_order gs (list_at fs ts qs)))
    (option_and_then (content_patterns fs ts) (patterns_in_list (length ts) p))

-- from the right: a hole or a record of lists as long as their tags are often becomes a list of items
abbrev pub joined_image : FieldTrees → (List ℕ → PatternTree) → List ℕ → Option PatternTree
joined_image fs at ts = option_map (λ lists. list_pattern (length ts) (item_patterns fs ts (dealt ts lists)))
    (list_patterns fs 0 ts at)
