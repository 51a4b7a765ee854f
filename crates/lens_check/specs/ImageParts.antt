-- The parts of an image, as the code finds them one by one.
use Rattle.std.specs.Prelude.{ℕ, suc, ◌<◌, Bool, true, false, ◌&&◌, nat_eq, bytes_eq, if◌then◌else◌, List, [], ◌∷◌}
use Rattle.std.specs.Prelude.{map, slice_index_or, Option, None, Some}
use Rattle.texts.specs.Keys.{is_before}
use Rattle.hold_shapes.specs.declared.shape.Shape.{Shape}
use Rattle.texts.specs.declared.side.Side.{Side}
use Rattle.texts.specs.declared.side.Side.TheVariants.{Left, Right}
use Rattle.lens_forms.specs.Forms.{FormTree, FormRowTree, row_both, row_left, row_right, ArmTrees, no_arms, more_arms}
use Rattle.law_images.specs.Patterns.{PatternTree, hole, rec_pattern, hold_pattern, pattern_list, pattern_count}
use Rattle.law_images.specs.Patterns.{pattern_tree}
use Rattle.law_images.specs.Image.{is_same_shape}
use Rattle.lens_check.specs.declared.image_record.SortedFields.{SortedFields}

-- ---- alternatives

-- the first arm with a left tag
abbrev pub first_arm : ArmTrees → List ℕ → Option (List ℕ × List ℕ × FormTree)
first_arm no_arms t = None
first_arm (more_arms a b l arms) t = if bytes_eq t a then Some (a, b, l) else first_arm arms t

-- ---- containers

-- a container of this shape, with so many places, is in the pattern
abbrev pub has_shape : Shape → ℕ → PatternTree → Bool
has_shape s n hole = true
has_shape s n (hold_pattern r ps) = is_same_shape r s && nat_eq (pattern_count ps) n
has_shape s n _ = false

-- the place is one of the pattern's; a hole has every place
abbrev pub HasPlace : PatternTree → ℕ → Type 0
HasPlace (hold_pattern s ps) i = i < pattern_count ps
HasPlace _ i = Unit {0}

-- the pattern at a place; that of a hole is the hole
abbrev pub place_pattern : PatternTree → ℕ → PatternTree
place_pattern (hold_pattern s ps) i = slice_index_or (pattern_list ps) i hole
place_pattern p i = p

-- ---- records

-- the pattern at a place of a record's pattern; a place that is not there, and what is no record, has a hole
abbrev pub field_pattern : PatternTree → ℕ → PatternTree
field_pattern (rec_pattern ps) i = slice_index_or (pattern_list ps) i hole
field_pattern p i = hole

-- of two things, the first where the two sides are not the same
abbrev pub if_far : {A : Type 0} → Side → Side → A → A → A
if_far Left Right x y = x
if_far Right Left x y = x
if_far Left Left x y = y
if_far Right Right x y = y

-- the row has a field on the side that is before a name
abbrev pub has_field_before : Side → List ℕ → FormRowTree → Bool
has_field_before Left n (row_both a b l) = is_before a n
has_field_before Left n (row_left a t) = is_before a n
has_field_before Left n (row_right b t) = false
has_field_before Right n (row_both a b l) = is_before b n
has_field_before Right n (row_left a t) = false
has_field_before Right n (row_right b t) = is_before b n

-- the place of a name among names that are sorted by bytes: how many are before it, from the first on
abbrev pub place_among : List ℕ → List (List ℕ) → ℕ
place_among n [] = 0
place_among n (m ∷ ms) = if is_before m n then suc (place_among n ms) else 0

-- the names of fields and their patterns, in the order in which they were put in
abbrev pub names_in : SortedFields → List (List ℕ)
names_in f = f.names.items

abbrev pub patterns_in : SortedFields → List PatternTree
patterns_in f = map pattern_tree f.patterns.items
