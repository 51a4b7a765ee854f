-- Every i64 is an int of a document.
use Rattle.std.proofs.Common.{◌≡◌, ℤ, pos, negsuc, ◌^◌, true, arith, lt-ltb, FitsSigned, w64}
use Rattle.std.proofs.lemmas.Int.{ints}
use Rattle.doc_values.specs.Integers.{fits_i64}

pub fits : (z : ℤ) → FitsSigned w64 z → fits_i64 z ≡ true
fits (pos n) h = lt-ltb n (2 ^ 63) (omega (arith, ints, h))
fits (negsuc n) h = lt-ltb n (2 ^ 63) (omega (arith, ints, h))
