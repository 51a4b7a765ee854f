-- Numbers by value: `same_number`, at the end. A number is 0.DIGITS times ten to the power of its point.
use Rattle.std.specs.Prelude.{ℕ, ℤ, pos, neg_ℤ, ◌+ℤ◌, ◌-ℤ◌, ◌^◌, Bool, true, false, ◌&&◌, ◌||◌, ◌==◌, not}
use Rattle.std.specs.Prelude.{if◌then◌else◌}
use Rattle.std.specs.Prelude.{List, [], ◌∷◌, ◌++◌, length, drop, slice_index, bytes_eq, nat_lt, Option, Some}
use Rattle.std.specs.Prelude.{None, option_map}
use Rattle.std.specs.Ordering.{int_eq}
use Rattle.std.specs.Str.Parse.{digits_value}
use Rattle.fast_float.specs.Text.{scan, Parts}

abbrev pub is_negative : List ℕ → Bool
is_negative s = slice_index s 0 == 45

-- the parts of a number's text behind its minus
abbrev pub number_parts : List ℕ → Parts
number_parts s = scan (if is_negative s then drop 1 s else s)

-- digits without the zeros in front
abbrev pub significant : List ℕ → List ℕ
significant [] = []
significant (d ∷ ds) = if d == 48 then significant ds else d ∷ ds

abbrev pub signed_value : Bool → ℕ → ℤ
signed_value negative n = if negative then neg_ℤ (pos n) else pos n

-- the exponent, if it has up to 18 digits, zeros in front not counted
abbrev pub exponent_of : Parts → Option ℤ
exponent_of p =
    if nat_lt (digits_value 10 p.exponent) (10 ^ 18)
    then Some (signed_value p.exponent_negative (digits_value 10 p.exponent)) else None

pub record NumberValue : Type 0 where
  pub is_below_zero : Bool
  pub digits : List ℕ
  pub point : ℤ

-- the point is behind the whole digits, and the exponent and the zeros in front move it
abbrev pub value_with : Bool → Parts → ℤ → NumberValue
value_with negative p exponent = record {
  is_below_zero = negative;
  digits = significant (p.whole ++ p.fraction);
  point = (exponent +ℤ pos (length (significant (p.whole ++ p.fraction)))) -ℤ pos (length p.fraction);
}

abbrev pub number_value : List ℕ → Option NumberValue
number_value s = option_map (value_with (is_negative s) (number_parts s)) (exponent_of (number_parts s))

abbrev pub all_zeros : List ℕ → Bool
all_zeros [] = true
all_zeros (d ∷ ds) = (d == 48) && all_zeros ds

-- digits behind a point that are equal once zeros are put behind the shorter ones
abbrev pub same_digits : List ℕ → List ℕ → Bool
same_digits [] es = all_zeros es
same_digits (d ∷ ds) [] = all_zeros (d ∷ ds)
same_digits (d ∷ ds) (e ∷ es) = (d == e) && same_digits ds es

abbrev pub is_zero : List ℕ → Bool
is_zero [] = true
is_zero (d ∷ ds) = false

abbrev pub same_bool : Bool → Bool → Bool
same_bool true b = b
same_bool false b = not b

-- zero is zero, whatever its sign and its exponent are
abbrev pub same_value : NumberValue → NumberValue → Bool
same_value a b = (is_zero a.digits && is_zero b.digits)
    || ((same_bool a.is_below_zero b.is_below_zero && int_eq a.point b.point) && same_digits a.digits b.digits)

abbrev pub same_values : Option NumberValue → Option NumberValue → Bool
same_values (Some a) (Some b) = same_value a b
same_values _ _ = false

-- two texts are one number: they are one text, or have the same value, where both exponents are short enough
abbrev pub same_number : List ℕ → List ℕ → Bool
same_number s t = bytes_eq s t || same_values (number_value s) (number_value t)
