-- A sealed record that is changed within 32 adjacent bits is no sealed record in its place.
use Rattle.std.proofs.Common.{◌≡◌, ◌≢◌, ⊎_elim, ℕ, ◌+◌, ◌-◌, ◌*◌, ◌/◌, ◌%◌, ◌^◌, ◌<◌, ◌≤◌, Bool, List, [], ◌∷◌, ◌++◌, length, slice_index, take, drop, refl, sym, ap, ap₂, ◌∙◌, arith, mod-lt, zero-lt-suc, append_assoc, length-append}
use Rattle.std.proofs.lemmas.Bool.{cases_lt}
use Rattle.std.proofs.lemmas.List.{take-append-le, drop-append-le, append_cancel_left, append_cancel_right}
use Rattle.std.proofs.lemmas.List.Concat.{flat_map-append}
use Rattle.std.proofs.lemmas.Str.{digit_value-digit_char}
use Rattle.std.proofs.Math.Seq.{drop-append_seam, take-append_seam, drop-append-add}
use Rattle.std.specs.Char.{digit_char, digit_value}
use Rattle.record_sums.specs.Bursts.{low_bits, bits_of, DifferWithin}
use Rattle.record_sums.specs.Records.{record_sum}
use Rattle.record_sums.proofs.ByteBits.{EachByte, bits_of-injective}
use Rattle.record_sums.proofs.Noticed.{record_sum-payload, record_sum-lt}
use Rattle.sealed_log.specs.SealedRecords.{seal_digits, seal_head, sealed_body, seal_of, sealed_record}

-- ---- the digits of a seal tell it

same_digit : (m n : ℕ) → digit_char (m % 16) ≡ digit_char (n % 16) → m % 16 ≡ n % 16
same_digit m n e =
    let one : m % 16 < 36 = omega (arith, mod-lt m (zero-lt-suc 15)) in
    let other : n % 16 < 36 = omega (arith, mod-lt n (zero-lt-suc 15)) in
    sym (digit_value-digit_char (m % 16) one) ∙ ap digit_value e ∙ digit_value-digit_char (n % 16) other

at_place : (one other : List ℕ) (i : ℕ) → one ≡ other → slice_index one i ≡ slice_index other i
at_place one other i e = ap (λ digits. slice_index digits i) e

pub seal_digits-injective : (m n : ℕ) → m < 2 ^ 32 → n < 2 ^ 32 → seal_digits m ≡ seal_digits n → m ≡ n
seal_digits-injective m n lm ln e =
    let a : m / 2 ^ 28 % 16 ≡ n / 2 ^ 28 % 16 = same_digit (m / 2 ^ 28) (n / 2 ^ 28) (at_place (seal_digits m) (seal_digits n) 0 e) in
    let b : m / 2 ^ 24 % 16 ≡ n / 2 ^ 24 % 16 = same_digit (m / 2 ^ 24) (n / 2 ^ 24) (at_place (seal_digits m) (seal_digits n) 1 e) in
    let c : m / 2 ^ 20 % 16 ≡ n / 2 ^ 20 % 16 = same_digit (m / 2 ^ 20) (n / 2 ^ 20) (at_place (seal_digits m) (seal_digits n) 2 e) in
    let d : m / 2 ^ 16 % 16 ≡ n / 2 ^ 16 % 16 = same_digit (m / 2 ^ 16) (n / 2 ^ 16) (at_place (seal_digits m) (seal_digits n) 3 e) in
    let f : m / 2 ^ 12 % 16 ≡ n / 2 ^ 12 % 16 = same_digit (m / 2 ^ 12) (n / 2 ^ 12) (at_place (seal_digits m) (seal_digits n) 4 e) in
    let g : m / 2 ^ 8 % 16 ≡ n / 2 ^ 8 % 16 = same_digit (m / 2 ^ 8) (n / 2 ^ 8) (at_place (seal_digits m) (seal_digits n) 5 e) in
    let h : m / 2 ^ 4 % 16 ≡ n / 2 ^ 4 % 16 = same_digit (m / 2 ^ 4) (n / 2 ^ 4) (at_place (seal_digits m) (seal_digits n) 6 e) in
    let k : m % 16 ≡ n % 16 = same_digit m n (at_place (seal_digits m) (seal_digits n) 7 e) in
    omega arith

-- ---- the parts of a record

-- the head and the digits
abbrev pub sealed_front : ℕ → List ℕ
sealed_front seal = seal_head ++ seal_digits seal

pub each_byte-behind : (front rest : List ℕ) → EachByte (front ++ rest) → EachByte rest
each_byte-behind [] rest h = h
each_byte-behind (byte ∷ front) rest h = each_byte-behind front rest h.1

pub each_byte-before : (front rest : List ℕ) → EachByte (front ++ rest) → EachByte front
each_byte-before [] rest h = tt
each_byte-before (byte ∷ front) rest h = (h.0, each_byte-before front rest h.1)

-- ---- a change in few bits, of bytes in two parts

bits_length : (bytes : List ℕ) → length (bits_of bytes) ≡ length bytes * 8
bits_length [] = refl
bits_length (byte ∷ bytes) = omega (arith, bits_length bytes)

-- the first parts are equal, if the change begins behind them
same_before : (n : ℕ) (a b x y : List ℕ) (front from to back : List Bool) → length a ≡ n → length x ≡ n
    → bits_of (a ++ b) ≡ front ++ (from ++ back) → bits_of (x ++ y) ≡ front ++ (to ++ back) → n * 8 ≤ length front → bits_of a ≡ bits_of x
same_before n a b x y front from to back la lx one other within =
    let bits_a : length (bits_of a) ≡ n * 8 = omega (arith, bits_length a, la) in
    let bits_x : length (bits_of x) ≡ n * 8 = omega (arith, bits_length x, lx) in
    let first : take (n * 8) (bits_of (a ++ b)) ≡ bits_of a =
    ap₂ take (sym bits_a) (flat_map-append (low_bits 8) a b) ∙ take-append_seam (bits_of a) (bits_of b) in
    let second : take (n * 8) (bits_of (x ++ y)) ≡ bits_of x =
    ap₂ take (sym bits_x) (flat_map-append (low_bits 8) x y) ∙ take-append_seam (bits_of x) (bits_of y) in
    sym first
    ∙ ap (take (n * 8)) one
    ∙ take-append-le (n * 8) front (from ++ back) within
    ∙ sym (take-append-le (n * 8) front (to ++ back) within)
    ∙ sym (ap (take (n * 8)) other)
    ∙ second

-- what is behind n bytes
bits_behind : (n : ℕ) (a b : List ℕ) → length a ≡ n → drop (n * 8) (bits_of (a ++ b)) ≡ bits_of b
bits_behind n a b la =
    let bits_a : length (bits_of a) ≡ n * 8 = omega (arith, bits_length a, la) in
    ap₂ drop (sym bits_a) (flat_map-append (low_bits 8) a b) ∙ drop-append_seam (bits_of a) (bits_of b)

-- the second parts differ within the same bits, if the change begins behind the first parts
differ_behind : (n : ℕ) (a b x y : List ℕ) (d : DifferWithin 32 (a ++ b) (x ++ y)) → length a ≡ n → length x ≡ n → n * 8 ≤ length d.front → DifferWithin 32 b y
differ_behind n a b x y d la lx within = record {
  front = drop (n * 8) d.front;
  from = d.from;
  to = d.to;
  back = d.back;
  one_bits = sym (bits_behind n a b la) ∙ ap (drop (n * 8)) d.one_bits ∙ drop-append-le (n * 8) d.front (d.from ++ d.back) within;
  other_bits = sym (bits_behind n x y lx) ∙ ap (drop (n * 8)) d.other_bits ∙ drop-append-le (n * 8) d.front (d.to ++ d.back) within;
  same_length = d.same_length;
  short = d.short;
  unlike = d.unlike;
}

-- what is behind the change is equal
behind_bits : (k m : ℕ) (front from back : List Bool) → length front + length from + k ≡ m → drop m (front ++ (from ++ back)) ≡ drop k back
behind_bits k m front from back is =
    let size : length (front ++ from) + k ≡ m = omega (arith, length-append front from, is) in
    ap₂ drop (sym size) (sym (append_assoc front from back)) ∙ drop-append-add (front ++ from) back k

same_behind : (n k : ℕ) (a b x y : List ℕ) (front from to back : List Bool) → length a ≡ n → length x ≡ n
    → bits_of (a ++ b) ≡ front ++ (from ++ back) → bits_of (x ++ y) ≡ front ++ (to ++ back) → length from ≡ length to
    → length front + length from + k ≡ n * 8 → bits_of b ≡ bits_of y
same_behind n k a b x y front from to back la lx one other same is =
    let also : length front + length to + k ≡ n * 8 = omega (arith, is, same) in
    sym (bits_behind n a b la)
    ∙ ap (drop (n * 8)) one
    ∙ behind_bits k (n * 8) front from back is
    ∙ sym (behind_bits k (n * 8) front to back also)
    ∙ sym (ap (drop (n * 8)) other)
    ∙ bits_behind n x y lx

-- bytes that differ within some bits are not equal
differ_unlike : (n : ℕ) (one other : List ℕ) → DifferWithin n one other → one ≢ other
differ_unlike n one other d e =
    let bits : d.front ++ (d.from ++ d.back) ≡ d.front ++ (d.to ++ d.back) = sym d.one_bits ∙ ap bits_of e ∙ d.other_bits in
    d.unlike (append_cancel_right d.from d.to d.back (append_cancel_left d.front (d.from ++ d.back) (d.to ++ d.back) bits))

-- ---- a change of a sealed record

module _ (before number : ℕ) (payload other : List ℕ)
    (one_bytes : EachByte (sealed_record before number payload)) (other_bytes : EachByte (sealed_record before number other))
    (d : DifferWithin 32 (sealed_record before number payload) (sealed_record before number other)) where
  one_seal : ℕ
  one_seal = seal_of before number payload

  other_seal : ℕ
  other_seal = seal_of before number other

  -- it begins behind the digits: then the seals are equal, but not those of unlike bodies
  late : 17 * 8 ≤ length d.front → ⊥
  unfolding one_seal other_seal
  late within =
      let body : List ℕ = sealed_body number payload in
      let body' : List ℕ = sealed_body number other in
      let body_bytes : EachByte body = each_byte-behind (sealed_front one_seal) body one_bytes in
      let body_bytes' : EachByte body' = each_byte-behind (sealed_front other_seal) body' other_bytes in
      let bits : bits_of (sealed_front one_seal) ≡ bits_of (sealed_front other_seal) =
      same_before 17 (sealed_front one_seal) body (sealed_front other_seal) body' d.front d.from d.to d.back refl refl d.one_bits d.other_bits within in
      let fronts : sealed_front one_seal ≡ sealed_front other_seal =
      bits_of-injective (sealed_front one_seal) (sealed_front other_seal) (each_byte-before (sealed_front one_seal) body one_bytes)
      (each_byte-before (sealed_front other_seal) body' other_bytes) bits in
      let digits : seal_digits one_seal ≡ seal_digits other_seal = ap (drop 9) fronts in
      let seals : one_seal ≡ other_seal =
      seal_digits-injective one_seal other_seal (record_sum-lt before number body body_bytes) (record_sum-lt before number body' body_bytes') digits in
      record_sum-payload before number body body' body_bytes body_bytes'
      (differ_behind 17 (sealed_front one_seal) body (sealed_front other_seal) body' d refl refl within) seals

  -- it begins before: then it ends before the number, so the bodies are equal, and so are the records
  early : length d.front < 17 * 8 → ⊥
  unfolding one_seal other_seal
  early within =
      let four : List ℕ = 34 ∷ 44 ∷ 34 ∷ 110 ∷ [] in
      let body : List ℕ = sealed_body number payload in
      let body' : List ℕ = sealed_body number other in
      let rest : List ℕ = drop 4 body in
      let rest' : List ℕ = drop 4 body' in
      let first : List ℕ = sealed_front one_seal ++ four in
      let first' : List ℕ = sealed_front other_seal ++ four in
      let k : ℕ = 21 * 8 - (length d.front + length d.from) in
      let is : length d.front + length d.from + k ≡ 21 * 8 = omega (arith, within, d.short) in
      let bits : bits_of rest ≡ bits_of rest' =
      same_behind 21 k first rest first' rest' d.front d.from d.to d.back refl refl d.one_bits d.other_bits d.same_length is in
      let rests : rest ≡ rest' =
      bits_of-injective rest rest' (each_byte-behind first rest one_bytes) (each_byte-behind first' rest' other_bytes) bits in
      let bodies : body ≡ body' = ap (λ (bytes : List ℕ). four ++ bytes) rests in
      let records : sealed_record before number payload ≡ sealed_record before number other =
      ap (λ (bytes : List ℕ). sealed_front (record_sum before number bytes) ++ bytes) bodies in
      differ_unlike 32 (sealed_record before number payload) (sealed_record before number other) d records

  pub no_burst : ⊥
  no_burst = ⊎_elim early late (cases_lt (length d.front) (17 * 8))
