-- For the helpers of `between`: the word of one item, and of one key.
use Rattle.std.specs.Prelude.{ℕ, ◌+◌, Bool, List, length, if◌then◌else◌, nat_lt, slice_index_or}
use Rattle.hold_shapes.specs.declared.edit.Place.TheVariants.{Key}
use Rattle.hold_shapes.specs.declared.edit.ShapeEdit.TheVariants.{PutKey}
use Rattle.doc_values.specs.Documents.{DocTree, unit}
use Rattle.doc_values.specs.Types.{TyTree}
use Rattle.edit_module.specs.Words.{WordTree, modify}
use Rattle.edit_inverse.specs.Construct.{construct, reshape, unless_empty}
use Rattle.edit_between.specs.Between.{between}

-- the word of an item: from the old content of its place, or from an initial one
abbrev pub item_word : TyTree → List DocTree → ℕ → DocTree → WordTree
item_word t ds i e = if nat_lt i (length ds) then between t (slice_index_or ds i unit) e else construct t e

-- the word of a key, which is there at place p or not, and then the rest from the place behind it
abbrev pub key_word : Bool → TyTree → List DocTree → List ℕ → ℕ → DocTree → (ℕ → WordTree) → WordTree
key_word there t ds l p e rest =
    if there then unless_empty (modify (Key l)) (between t (slice_index_or ds p unit) e) (rest (p + 1))
    else reshape (PutKey l) (unless_empty (modify (Key l)) (construct t e) (rest p))
