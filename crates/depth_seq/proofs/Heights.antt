-- Heights of balanced trees.
use Rattle.std.proofs.Common.{◌≡◌, ℕ, zero, suc, ◌+◌, ◌^◌, ◌<◌, ◌≤◌, max, arith, inl, inr}
use Rattle.std.proofs.lemmas.Bool.{cases_lt}
use Rattle.depth_seq.specs.Trees.{IsShort, DifferByAtMost}

-- a chunk between two short parts whose heights differ by at most one makes a short tree: one part has fewer than half of
-- the depths
pub short_node : (l r a b n h : ℕ) → IsShort l a → IsShort r b → DifferByAtMost 1 a b → l + 1 + r ≤ n → h ≡ max a b + 1 → IsShort n h
short_node l r a b n h p q w e f zero k = absurd (omega arith)
short_node l r a b n h p q w e f (suc d) k =
    let double : 2 ^ suc d ≡ 2 ^ d + 2 ^ d = omega (arith) in
    elim (cases_lt l (2 ^ d)) [
      | inl s ↦ omega (arith, p d s, w.0, w.1)
      | inr s ↦ omega (arith, q d (omega arith), w.0, w.1)
    ]

-- a short tree of depths that a machine can count has a height that it can hold
pub short_fits : (n h : ℕ) → IsShort n h → n < 2 ^ 64 → h ≤ 128
short_fits n h s k = omega (arith, s 64 k)
