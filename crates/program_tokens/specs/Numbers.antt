-- Numbers as they are written: 1 to 19 digits, with or without a `-` before them, of a value in i64.
-- Read it from the end: `number_of`.
use Rattle.std.specs.Prelude.{ℕ, ◌+◌, ◌-◌, ◌*◌, ◌^◌, Bool, true, false, ◌&&◌, List, [], ◌∷◌, length, Option, Some}
use Rattle.std.specs.Prelude.{None, nat_le, nat_lt, if◌then◌else◌}
use lib.IntN.{ℤ, pos, neg_ℤ}

-- an ASCII digit
abbrev pub is_digit : ℕ → Bool
is_digit b = nat_le 48 b && nat_le b 57

-- the number that digits go on to write behind others, which wrote n
abbrev pub digits_after : ℕ → List ℕ → ℕ
digits_after n [] = n
digits_after n (d ∷ ds) = digits_after (n * 10 + (d - 48)) ds

-- the number of this size, negative or not, where it is in i64
abbrev pub signed : Bool → ℕ → Option ℤ
signed true n = if nat_le n (2 ^ 63) then Some (neg_ℤ (pos n)) else None
signed false n = if nat_lt n (2 ^ 63) then Some (pos n) else None

-- the number that these digits write, behind a `-` or without
unfoldable pub number_of : Bool → List ℕ → Option ℤ
number_of negative ds = if nat_le 1 (length ds) && nat_le (length ds) 19 then signed negative (digits_after 0 ds)
    else None
