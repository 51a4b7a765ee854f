-- The laws that the calls of lists of tags keep. `PlaceAfterRank`, `RankAfterPlace` and `PlaceRises` are those of rank
-- and place; `MeasureLaws`, before them, is what a sum that is kept in the nodes of a tree needs.
use Rattle.std.specs.Prelude.{◌≡◌, ℕ, ◌<◌, List, Some, slice_get}
use Rattle.tag_seq.specs.Tags.{count, rank, place}

-- a sum of measures has nothing as its neutral part on either side, and may be grouped in any way
pub record MeasureLaws {A : Type 0} (nothing : A) (sum : A → A → A) : Type 0 where
  pub nothing_before : (a : A) → sum nothing a ≡ a
  pub nothing_after : (a : A) → sum a nothing ≡ a
  pub grouping : (a b c : A) → sum (sum a b) c ≡ sum a (sum b c)

-- the place that the rank of the tag at p leads to is p
abbrev pub PlaceAfterRank : Type 0
PlaceAfterRank = (xs : List ℕ) (t p : ℕ) → slice_get xs p ≡ Some t → place t (rank t p xs) xs ≡ Some p

-- each occurrence below the number of all has a place, and the rank there is the occurrence's number
abbrev pub RankAfterPlace : Type 0
RankAfterPlace = (xs : List ℕ) (t q : ℕ) → q < count t xs → (p : ℕ) × (place t q xs ≡ Some p) × (rank t p xs ≡ q)

-- later occurrences have later places
abbrev pub PlaceRises : Type 0
PlaceRises = (xs : List ℕ) (t q r p s : ℕ) → place t q xs ≡ Some p → place t r xs ≡ Some s → q < r → p < s
