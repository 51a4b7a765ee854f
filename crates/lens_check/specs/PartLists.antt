-- Lists of patterns by the tags of a partition, as the code keeps them: one list for each tag, by the tag's number.
use Rattle.std.specs.Prelude.{ℕ, zero, suc, ◌+◌, bytes_eq, if◌then◌else◌, List, [], ◌∷◌, ◌++◌, length, map}
use Rattle.std.specs.Prelude.{slice_index, slice_index_or, vec_items, Vec, Option, None, Some, option_map}
use Rattle.std.specs.Prelude.{option_and_then}
use Rattle.std.specs.List.{range_with_len}
use Rattle.doc_values.specs.Types.{FieldTrees, no_fields, more_fields}
use Rattle.tag_seq.specs.Tags.{count, rank}
use Rattle.lens_core.specs.Tags.{tag_number, tag_name}
use Rattle.law_images.specs.declared.pattern.Pattern.{Pattern}
use Rattle.law_images.specs.declared.pattern.Patterns.{Patterns}
use Rattle.law_images.specs.Patterns.{PatternTree, hole, rec_pattern, alt_pattern, PatternTrees, no_patterns}
use Rattle.law_images.specs.Patterns.{more_patterns, patterns_from, pattern_list, pattern_tree, patterns_tree}
use Rattle.law_images.specs.PartImage.{list_pattern, patterns_in_list, patterns_at}

-- the trees of the patterns in a `Vec`, and of those in a `Patterns`
abbrev pub trees_in : {Z : Type 0} → Vec Pattern Z → List PatternTree
trees_in v = map pattern_tree (vec_items v)

abbrev pub trees_of : Patterns → List PatternTree
trees_of ps = pattern_list (patterns_tree ps)

-- the list of these patterns
abbrev pub list_of : List PatternTree → PatternTree
list_of ps = list_pattern (length ps) (patterns_from ps)

-- ---- names

-- the place of the first of the names that is n; how many there are if none is
abbrev pub place_of : List ℕ → List (List ℕ) → ℕ
place_of n [] = 0
place_of n (m ∷ ms) = if bytes_eq m n then 0 else suc (place_of n ms)

-- of patterns with these names, the first one with the name n; a hole if there is none
abbrev pub pattern_named : List (List ℕ) → PatternTrees → List ℕ → PatternTree
pattern_named (m ∷ ms) (more_patterns p ps) n = if bytes_eq m n then p else pattern_named ms ps n
pattern_named _ _ n = hole

-- the pattern at a field of a record with these names; a hole for a hole
abbrev pub field_pattern : List (List ℕ) → PatternTree → List ℕ → PatternTree
field_pattern ms (rec_pattern ps) n = pattern_named ms ps n
field_pattern ms _ n = hole

-- ---- from the left

-- the lists with the pattern q at the end of that of the tag t; they stay as they are if there is no such list
abbrev pub with_content : ℕ → PatternTree → List (List PatternTree) → List (List PatternTree)
with_content t q [] = []
with_content zero q (l ∷ ls) = (l ++ q ∷ []) ∷ ls
with_content (suc t) q (l ∷ ls) = l ∷ with_content t q ls

-- the lists of c tags: for each tag the contents of the items with that tag, in order
abbrev pub lists_by_tag : ℕ → List ℕ → PatternTrees → List (List PatternTree)
lists_by_tag c ts qs = map (λ k. pattern_list (patterns_at k ts qs)) (range_with_len 0 c)

-- the list at the field with a name: that of the tag with this name
abbrev pub list_at_tag : FieldTrees → List (List PatternTree) → List ℕ → PatternTree
list_at_tag fs ls n = elim (tag_number fs n) [ None ↦ hole | Some k ↦ list_of (slice_index_or ls k []) ]

-- ---- from the right

-- the patterns of the list of each tag, the first number being k; None where one of the lists has another length
abbrev pub tag_lists : FieldTrees → ℕ → List ℕ → (List ℕ → PatternTree) → Option (List PatternTrees)
tag_lists no_fields k ts at = Some []
tag_lists (more_fields n t fs) k ts at =
    option_and_then (λ ps. option_map (λ rest. ps ∷ rest) (tag_lists fs (k + 1) ts at))
    (patterns_in_list (count k ts) (at n))

-- the content of the item at a place: of the list of its tag, the pattern at the item's rank
abbrev pub content_at : List ℕ → List PatternTrees → ℕ → PatternTree
content_at ts lists i = slice_index_or (pattern_list (slice_index_or lists (slice_index ts i) no_patterns))
    (rank (slice_index ts i) i ts) hole

-- the item at a place
abbrev pub item_at : FieldTrees → List ℕ → List PatternTrees → ℕ → PatternTree
item_at fs ts lists i = alt_pattern (tag_name fs (slice_index ts i)) (content_at ts lists i)
