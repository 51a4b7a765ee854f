-- The checksum CRC-32C of bytes. A state is a number below 2 ^ 32, and a byte is one below 256. The main definition is
-- `crc32c`, which goes on from the sum of the bytes before.
use Rattle.std.specs.Prelude.{ℕ, zero, suc, ◌/◌, ◌%◌, ◌==◌, List, [], ◌∷◌, bit_xor, if◌then◌else◌}

-- Castagnoli's polynomial without its highest term. The lowest bit is the coefficient of x ^ 31, the highest that of 1.
abbrev pub polynomial : ℕ
polynomial = 0x82F63B78

-- the state after its lowest bit is gone; if that bit was 1, the polynomial is added
unfoldable pub shifted : ℕ → ℕ
shifted state = bit_xor (state / 2) (if state % 2 == 1 then polynomial else 0)

-- the state after its n lowest bits are gone
unfoldable pub shifted_by : ℕ → ℕ → ℕ
shifted_by zero state = state
shifted_by (suc n) state = shifted_by n (shifted state)

-- the state after one more byte
abbrev pub step : ℕ → ℕ → ℕ
step state byte = shifted_by 8 (bit_xor state byte)

-- the state after bytes
abbrev pub state_after : ℕ → List ℕ → ℕ
state_after state [] = state
state_after state (byte ∷ bytes) = state_after (step state byte) bytes

-- a number with each of its 32 bits turned
abbrev pub turned : ℕ → ℕ
turned number = bit_xor number 0xFFFFFFFF

-- The sum of bytes, and of those before them, whose sum is given. A sum is a turned state. No bytes have the sum 0, so
-- the first state is 0xFFFFFFFF.
abbrev pub crc32c : ℕ → List ℕ → ℕ
crc32c before bytes = turned (state_after (turned before) bytes)
