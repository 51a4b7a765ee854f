-- Balanced trees of depths: the depths in order, the height, and what holds of each node.
-- The main definitions are `depths` and `IsNode`; `IsShort` bounds the height.
use Rattle.std.specs.Prelude.{◌≡◌, ℕ, ◌+◌, ◌*◌, ◌^◌, ◌<◌, ◌≤◌, max, List, [], ◌++◌, length}
use Rattle.depth_seq.specs.Sums.{AreSums}
use Rattle.depth_seq.specs.declared.sum.Sum.{Sum}
use Rattle.depth_seq.specs.declared.node.DepthTree.{DepthTree}
use Rattle.depth_seq.specs.declared.node.DepthTree.TheVariants.{Empty, Node}

-- the depths of a tree in order; those of a node are the first part of its value
abbrev pub depths : DepthTree → List ℕ
depths Empty = []
depths (Node n) = n.value.0

-- the height of a tree; that of a node is the second part of its value
abbrev pub height : DepthTree → ℕ
height Empty = 0
height (Node n) = n.value.1

-- neither height is more than this above the other
abbrev pub DifferByAtMost : ℕ → ℕ → ℕ → Type 0
DifferByAtMost by l r = (l ≤ r + by) × (r ≤ l + by)

-- the height of a tree of n depths is at most twice the number of binary digits of n
abbrev pub IsShort : ℕ → ℕ → Type 0
IsShort n h = (d : ℕ) → n < 2 ^ d → h ≤ 2 * d

-- what holds of a node with a chunk between its parts: the chunk has a depth, what is kept of all depths is right, the
-- height is right, the parts differ in height by at most one, and the node is short
pub record IsNode (left : DepthTree) (chunk : List ℕ) (right : DepthTree) (h left_size : ℕ) (kept : Sum) : Type 0 where
  pub some : 0 < length chunk
  pub sums : AreSums kept (depths left ++ (chunk ++ depths right))
  pub front : left_size ≡ length (depths left)
  pub higher : h ≡ max (height left) (height right) + 1
  pub balanced : DifferByAtMost 1 (height left) (height right)
  pub short : IsShort (length (depths left ++ (chunk ++ depths right))) h
  pub small : length (depths left ++ (chunk ++ depths right)) < 2 ^ 64

-- the height of a tree made of parts with the heights l and r: that of the higher part or one more, and one more where
-- the two differ by at most one
abbrev pub SettlesAt : ℕ → ℕ → ℕ → Type 0
SettlesAt l r h = (max l r ≤ h) × (h ≤ max l r + 1) × (DifferByAtMost 1 l r → h ≡ max l r + 1)
