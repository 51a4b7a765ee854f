-- The range of an i64, as the code tests it.
use Rattle.std.proofs.Common.{◌≡◌, ℕ, ◌<◌, ◌≤◌, ◌^◌, ℤ, pos, negsuc, true, false, arith}
use Rattle.std.specs.Prelude.{◌≤ℤ◌, ◌<ℤ◌, nat_lt}
use Rattle.std.proofs.lemmas.Bool.Decides.{nat_tests}
use Rattle.std.proofs.lemmas.Int.{ints}
use Rattle.doc_values.specs.Integers.{fits_i64}

small : (n : ℕ) → n ≤ 9223372036854775807 → nat_lt n (2 ^ 63) ≡ true
small n h = grind (arith, nat_tests)

large : (n : ℕ) → 9223372036854775807 < n → nat_lt n (2 ^ 63) ≡ false
large n h = grind (arith, nat_tests)

pub fits_within : (z : ℤ) → negsuc 9223372036854775807 ≤ℤ z → z ≤ℤ pos 9223372036854775807 → fits_i64 z ≡ true
fits_within (pos n) low high = small n (omega (arith, ints))
fits_within (negsuc n) low high = small n (omega (arith, ints))

pub fits_not_below : (z : ℤ) → z <ℤ negsuc 9223372036854775807 → fits_i64 z ≡ false
fits_not_below (pos n) low = absurd (omega (arith, ints))
fits_not_below (negsuc n) low = large n (omega (arith, ints))

pub fits_not_above : (z : ℤ) → pos 9223372036854775807 <ℤ z → fits_i64 z ≡ false
fits_not_above (pos n) high = large n (omega (arith, ints))
fits_not_above (negsuc n) high = absurd (omega (arith, ints))

pub ruleset sum_rules = (fits_within, fits_not_below, fits_not_above)
