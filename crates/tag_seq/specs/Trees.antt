-- Trees of tags: the tags in order, the height, and what holds of each node.
-- The main definitions are `tags` and `IsNode`; `IsShort` bounds the height.
use Rattle.std.specs.Prelude.{◌≡◌, ℕ, ◌+◌, ◌*◌, ◌^◌, ◌<◌, ◌≤◌, max, List, [], ◌∷◌, ◌++◌, length}
use Rattle.tag_seq.specs.Totals.{AreTotals}
use Rattle.tag_seq.specs.declared.node.TagTree.{TagTree}
use Rattle.tag_seq.specs.declared.node.TagTree.TheVariants.{Empty, Node}

-- the tags of a tree in order; those of a node are the first part of its value
abbrev pub tags : TagTree → List ℕ
tags Empty = []
tags (Node n) = n.value.0

-- the height of a tree; that of a node is the second part of its value
abbrev pub height : TagTree → ℕ
height Empty = 0
height (Node n) = n.value.1

-- neither height is more than this above the other
abbrev pub DifferByAtMost : ℕ → ℕ → ℕ → Type 0
DifferByAtMost by l r = (l ≤ r + by) × (r ≤ l + by)

-- the height of a tree of n tags is at most twice the number of binary digits of n
abbrev pub IsShort : ℕ → ℕ → Type 0
IsShort n h = (d : ℕ) → n < 2 ^ d → h ≤ 2 * d

-- what holds of a node: its size and counts are those of its left part, its height is right, its parts differ in height
-- by at most one, and it is short
pub record IsNode (tag : ℕ) (left right : TagTree) (h : ℕ) (left_size : ℕ) (left_counts : List (ℕ × ℕ)) : Type 0 where
  pub totals : AreTotals left_size left_counts (tags left)
  pub higher : h ≡ max (height left) (height right) + 1
  pub balanced : DifferByAtMost 1 (height left) (height right)
  pub short : IsShort (length (tags left ++ tag ∷ tags right)) h
  pub small : length (tags left ++ tag ∷ tags right) < 2 ^ 64

-- the height of a tree made of parts with the heights l and r: that of the higher part or one more, and one more where
-- the two differ by at most one
abbrev pub SettlesAt : ℕ → ℕ → ℕ → Type 0
SettlesAt l r h = (max l r ≤ h) × (h ≤ max l r + 1) × (DifferByAtMost 1 l r → h ≡ max l r + 1)
