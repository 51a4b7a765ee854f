-- What number a text writes, with a minus and without one.
use Rattle.std.proofs.Common.{◌≡◌, ℕ, ◌==◌, List, drop, Option, Some, None, slice_index, true, false, IfSome}
use Rattle.fast_float.specs.Text.{scan}
use Rattle.serde_json.specs.Read.{number_of, number_from}

pub plain_number : (s : List ℕ) → (slice_index s 0 == 45) ≡ false → number_of s ≡ number_from false (scan s)
unfolding number_of
plain_number s e = rw e

pub number_with_minus : (s : List ℕ) → (slice_index s 0 == 45) ≡ true → number_of s ≡ number_from true (scan (drop 1 s))
unfolding number_of
number_with_minus s e = rw e

pub if_some : {A : Type 0} {P Q : A → Type 0} (o : Option A) → ((a : A) → P a → Q a) → IfSome o P → IfSome o Q
if_some None f h = h
if_some (Some a) f h = f a h
