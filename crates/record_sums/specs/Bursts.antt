-- Bytes that differ only within a few adjacent bits. The main definition is `DifferWithin`.
use Rattle.std.specs.Prelude.{◌≡◌, ◌≢◌, ℕ, zero, suc, ◌<◌, ◌≤◌, ◌/◌, ◌%◌, ◌==◌, Bool, List, [], ◌∷◌, ◌++◌, length}
use Rattle.std.specs.Prelude.{flat_map, slice_index}

-- each number is that of a byte
abbrev pub IsBytes : List ℕ → Type 0
IsBytes bytes = (place : ℕ) → slice_index bytes place < 256

-- the n lowest bits of a number, lowest first
abbrev pub low_bits : ℕ → ℕ → List Bool
low_bits zero number = []
low_bits (suc n) number = (number % 2 == 1) ∷ low_bits n (number / 2)

-- the bits of bytes in the order in which the checksum takes them
abbrev pub bits_of : List ℕ → List Bool
bits_of bytes = flat_map (low_bits 8) bytes

-- Two lists of bytes are unlike, and all that differs is within n adjacent bits. So they have one length.
pub record DifferWithin (n : ℕ) (one other : List ℕ) : Type 0 where
  pub front : List Bool
  pub from : List Bool
  pub to : List Bool
  pub back : List Bool
  pub one_bits : bits_of one ≡ front ++ (from ++ back)
  pub other_bits : bits_of other ≡ front ++ (to ++ back)
  pub same_length : length from ≡ length to
  pub short : length from ≤ n
  pub unlike : from ≢ to

-- two lists of bytes differ in exactly one byte
pub record DifferInOneByte (one other : List ℕ) : Type 0 where
  pub front : List ℕ
  pub from : ℕ
  pub to : ℕ
  pub back : List ℕ
  pub one_bytes : one ≡ front ++ from ∷ back
  pub other_bytes : other ≡ front ++ to ∷ back
  pub unlike : from ≢ to
