-- The size and the counts of a list of tags.
use Rattle.std.specs.Prelude.{◌≡◌, ℕ, List, length}
use Rattle.tag_seq.specs.Tags.{count}
use Rattle.tag_seq.specs.Numbers.{number}

-- a size and counts are those of a list
pub record AreTotals (size : ℕ) (counts : List (ℕ × ℕ)) (xs : List ℕ) : Type 0 where
  pub all : size ≡ length xs
  pub each : (t : ℕ) → number t counts ≡ count t xs
