-- Four adjacent bytes at most are 32 adjacent bits at most. So a byte that differs, a checksum that differs and the low
-- half of a number that differs are each within 32 bits.
use Rattle.std.proofs.Common.{◌≡◌, ◌≢◌, ℕ, ◌*◌, ◌/◌, ◌%◌, ◌^◌, ◌<◌, ◌≤◌, List, [], ◌∷◌, ◌++◌, length, slice_index, refl, sym, ap, ◌∙◌, subst, arith, mod-lt, zero-lt-suc, append-nil}
use Rattle.std.specs.Int.{w32, w64, to_le_bytes, from_le_bytes, bytes_low_first}
use Rattle.std.proofs.lemmas.Nat.{from_le_bytes-to_le_bytes_4}
use Rattle.record_sums.specs.Bursts.{bits_of, DifferWithin, DifferInOneByte}
use Rattle.record_sums.proofs.ByteBits.{EachByte, bits_of-injective, differ-behind, differ-ahead}

length-bits_of : (bytes : List ℕ) → length (bits_of bytes) ≡ length bytes * 8
length-bits_of [] = refl
length-bits_of (byte ∷ bytes) = omega (arith, length-bits_of bytes)

pub differ-four_bytes : (one other : List ℕ) → EachByte one → EachByte other → length one ≡ length other → length one ≤ 4 → one ≢ other
    → DifferWithin 32 one other
differ-four_bytes one other h k same short unlike =
    record {
      front = [];
      from = bits_of one;
      to = bits_of other;
      back = [];
      one_bits = sym (append-nil (bits_of one));
      other_bits = sym (append-nil (bits_of other));
      same_length = omega (arith, length-bits_of one, length-bits_of other);
      short = omega (arith, length-bits_of one);
      unlike = λ e. unlike (bits_of-injective one other h k e);
    }

-- ---- one byte

each_byte-behind : (front rest : List ℕ) → EachByte (front ++ rest) → EachByte rest
each_byte-behind [] rest h = h
each_byte-behind (byte ∷ front) rest h = each_byte-behind front rest h.1

one_byte : (front back : List ℕ) (from to : ℕ) → EachByte (front ++ from ∷ back) → EachByte (front ++ to ∷ back) → from ≢ to
    → DifferWithin 32 (front ++ from ∷ back) (front ++ to ∷ back)
one_byte front back from to h k unlike =
    let from_fits : EachByte (from ∷ []) = ((each_byte-behind front (from ∷ back) h).0, tt) in
    let to_fits : EachByte (to ∷ []) = ((each_byte-behind front (to ∷ back) k).0, tt) in
    let alone : DifferWithin 32 (from ∷ []) (to ∷ []) =
    differ-four_bytes (from ∷ []) (to ∷ []) from_fits to_fits refl (omega arith) (λ e. unlike (ap (λ bytes. slice_index bytes 0) e)) in
    differ-behind 32 front (from ∷ back) (to ∷ back) (differ-ahead 32 back (from ∷ []) (to ∷ []) alone)

pub differ-one_byte : (one other : List ℕ) → EachByte one → EachByte other → DifferInOneByte one other → DifferWithin 32 one other
differ-one_byte one other h k d =
    let one_is : d.front ++ d.from ∷ d.back ≡ one = sym d.one_bytes in
    let other_is : d.front ++ d.to ∷ d.back ≡ other = sym d.other_bytes in
    subst (λ bytes. DifferWithin 32 bytes other) one_is
    (subst (λ bytes. DifferWithin 32 (d.front ++ d.from ∷ d.back) bytes) other_is
    (one_byte d.front d.back d.from d.to (subst EachByte d.one_bytes h) (subst EachByte d.other_bytes k) d.unlike))

-- ---- a checksum

positive : 0 < 256
positive = zero-lt-suc 255

pub each_byte-u32 : (n : ℕ) → EachByte (to_le_bytes w32 n)
each_byte-u32 n = (mod-lt _ positive, (mod-lt _ positive, (mod-lt _ positive, (mod-lt _ positive, tt))))

pub each_byte-u64 : (n : ℕ) → EachByte (to_le_bytes w64 n)
each_byte-u64 n = (
  mod-lt _ positive,
  (
    mod-lt _ positive,
    (
      mod-lt _ positive,
      (
        mod-lt _ positive,
        (mod-lt _ positive, (mod-lt _ positive, (mod-lt _ positive, (mod-lt _ positive, tt)))),
      ),
    ),
  ),
)

differ-words : (a b : ℕ) → to_le_bytes w32 a ≢ to_le_bytes w32 b → DifferWithin 32 (to_le_bytes w32 a) (to_le_bytes w32 b)
differ-words a b unlike =
    differ-four_bytes (to_le_bytes w32 a) (to_le_bytes w32 b) (each_byte-u32 a) (each_byte-u32 b) refl (omega arith) unlike

pub differ-u32 : (a b : ℕ) → a < 2 ^ 32 → b < 2 ^ 32 → a ≢ b → DifferWithin 32 (to_le_bytes w32 a) (to_le_bytes w32 b)
differ-u32 a b la lb unlike =
    differ-words a b (λ e.
    unlike (sym (from_le_bytes-to_le_bytes_4 a la) ∙ ap (from_le_bytes w32) e ∙ from_le_bytes-to_le_bytes_4 b lb))

-- ---- the low half of a number

-- the four high bytes
abbrev high_bytes : ℕ → List ℕ
high_bytes n = bytes_low_first 4 4 n

same_high_bytes : (a b : ℕ) → a / 2 ^ 32 ≡ b / 2 ^ 32 → high_bytes a ≡ high_bytes b
same_high_bytes a b h =
    let fourth : a / 256 ^ 4 % 256 ≡ b / 256 ^ 4 % 256 = omega arith in
    let fifth : a / 256 ^ 5 % 256 ≡ b / 256 ^ 5 % 256 = omega arith in
    let sixth : a / 256 ^ 6 % 256 ≡ b / 256 ^ 6 % 256 = omega arith in
    let seventh : a / 256 ^ 7 % 256 ≡ b / 256 ^ 7 % 256 = omega arith in
    (λ i. fourth i ∷ fifth i ∷ sixth i ∷ seventh i ∷ [])

same_from_low_bytes : (a b : ℕ) → a / 2 ^ 32 ≡ b / 2 ^ 32 → to_le_bytes w32 a ≡ to_le_bytes w32 b → a ≡ b
same_from_low_bytes a b h e =
    let first : a % 256 ≡ b % 256 = ap (λ bytes. slice_index bytes 0) e in
    let second : a / 256 % 256 ≡ b / 256 % 256 = ap (λ bytes. slice_index bytes 1) e in
    let third : a / 256 ^ 2 % 256 ≡ b / 256 ^ 2 % 256 = ap (λ bytes. slice_index bytes 2) e in
    let fourth : a / 256 ^ 3 % 256 ≡ b / 256 ^ 3 % 256 = ap (λ bytes. slice_index bytes 3) e in
    omega arith

pub differ-u64 : (a b : ℕ) → a / 2 ^ 32 ≡ b / 2 ^ 32 → a ≢ b → DifferWithin 32 (to_le_bytes w64 a) (to_le_bytes w64 b)
differ-u64 a b h unlike =
    let low : DifferWithin 32 (to_le_bytes w32 a) (to_le_bytes w32 b) = differ-words a b (λ e. unlike (same_from_low_bytes a b h e)) in
    subst (λ high. DifferWithin 32 (to_le_bytes w64 a) (to_le_bytes w32 b ++ high)) (same_high_bytes a b h)
    (differ-ahead 32 (high_bytes a) (to_le_bytes w32 a) (to_le_bytes w32 b) low)
