-- The sum of bytes that come in pieces is the sum of all of them.
use Rattle.std.proofs.Common.{◌≡◌, ℕ, List, [], ◌∷◌, ◌++◌, refl, sym, ap, ◌∙◌}
use Rattle.std.specs.Int.{w32, w64, to_le_bytes}
use Rattle.record_sums.specs.Crc32c.{step, state_after, turned, crc32c}
use Rattle.record_sums.specs.Records.{record_sum}
use Rattle.record_sums.proofs.Xor.{xor_twice}

pub state_after-append : (state : ℕ) (one other : List ℕ) → state_after state (one ++ other) ≡ state_after (state_after state one) other
state_after-append state [] other = refl
state_after-append state (byte ∷ one) other = state_after-append (step state byte) one other

pub crc32c-append : (before : ℕ) (one other : List ℕ) → crc32c (crc32c before one) other ≡ crc32c before (one ++ other)
crc32c-append before one other =
    ap (λ state. turned (state_after state other)) (xor_twice (state_after (turned before) one) 0xFFFFFFFF)
    ∙ ap turned (sym (state_after-append (turned before) one other))

pub record_sum-in_pieces : (before number : ℕ) (payload : List ℕ)
    → crc32c (crc32c (crc32c 0 (to_le_bytes w32 before)) (to_le_bytes w64 number)) payload ≡ record_sum before number payload
record_sum-in_pieces before number payload =
    crc32c-append (crc32c 0 (to_le_bytes w32 before)) (to_le_bytes w64 number) payload
    ∙ crc32c-append 0 (to_le_bytes w32 before) (to_le_bytes w64 number ++ payload)
