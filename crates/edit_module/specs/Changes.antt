-- Changes as plain trees: one entry, or a group of entries.
-- From the end: `carried_to`, `entries_of` and `ChangeTree`.
use Rattle.std.specs.Prelude.{List, [], ◌∷◌}
use Rattle.texts.specs.declared.side.Side.{Side}
use Rattle.texts.specs.Sides.{other}
use Rattle.edit_module.specs.Words.{WordTree}

-- one entry, of a side and a word; or a group of entries, which are accepted together or not at all
pub data ChangeTree : Type 0 where
  one : Side × WordTree → ChangeTree
  group : List (Side × WordTree) → ChangeTree

-- the entries of a change, in order
abbrev pub entries_of : ChangeTree → List (Side × WordTree)
entries_of (one e) = e ∷ []
entries_of (group es) = es

-- with each word that the entries of a group were carried to, one for each entry, the side to which it was carried
abbrev pub carried_to : List (Side × WordTree) → List WordTree → List (Side × WordTree)
carried_to (e ∷ es) (w ∷ ws) = (other e.0, w) ∷ carried_to es ws
carried_to _ _ = []
