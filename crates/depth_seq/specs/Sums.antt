-- What is kept of a part of a list of depths: its size, a least depth and how often it has that depth.
-- The main definition is `AreSums`.
use Rattle.std.specs.Prelude.{◌≡◌, ℕ, ◌+◌, ◌<◌, ◌≤◌, List, [], ◌∷◌, length, nat_eq, if◌then◌else◌}
use Rattle.depth_seq.specs.declared.sum.Sum.{Sum}

-- how often a depth occurs
abbrev pub count : ℕ → List ℕ → ℕ
count d [] = 0
count d (e ∷ es) = (if nat_eq e d then 1 else 0) + count d es

-- each depth is at least this
abbrev pub AreAtLeast : ℕ → List ℕ → Type 0
AreAtLeast d [] = Unit {0}
AreAtLeast d (e ∷ es) = (d ≤ e) × AreAtLeast d es

-- the size, the least depth and the number of its occurrences are those of a list; that number is 0 of no depths alone
pub record AreSums (s : Sum) (ds : List ℕ) : Type 0 where
  pub all : s.size ≡ length ds
  pub bound : AreAtLeast s.least ds
  pub number : s.leasts ≡ count s.least ds
  pub occurs : 0 < s.size → 0 < s.leasts
