-- The old places of a shape.
use Rattle.std.proofs.Common.{◌≡◌, ℕ, ◌+◌, [], ◌∷◌, ◌++◌, length, arith}
use Rattle.std.proofs.lemmas.List.FromFn.{map-range_with_len_more, length-map-range_with_len}
use Rattle.std.proofs.lemmas.List.{length-append, length-replicate}
use Rattle.hold_shapes.specs.declared.origins.Origin.TheVariants.{Old}
use Rattle.hold_shapes.specs.Plans.{old_places}

pub length-old_places : (n : ℕ) → length (old_places n) ≡ n
length-old_places n = length-map-range_with_len Old 0 n

pub old_places-more : (n : ℕ) → old_places (n + 1) ≡ old_places n ++ Old n ∷ []
old_places-more n = map-range_with_len_more Old 0 n n (omega arith)

pub ruleset old_rules = (length-old_places, length-append, length-replicate)
