-- Whatever differs only within 32 adjacent bits has another sum.
use Rattle.std.proofs.Common.{◌≡◌, ◌≢◌, ℕ, ◌/◌, ◌^◌, ◌<◌, Bool, List, ◌++◌, sym, ap, ◌∙◌, arith}
use Rattle.std.specs.Int.{w32, w64, to_le_bytes}
use Rattle.std.proofs.lemmas.Nat.{xor_lt}
use Rattle.record_sums.specs.Crc32c.{state_after, turned, crc32c}
use Rattle.record_sums.specs.Records.{covered_bytes, record_sum}
use Rattle.record_sums.specs.Bursts.{bits_of, DifferWithin}
use Rattle.record_sums.proofs.Xor.{xor_cancel_right}
use Rattle.record_sums.proofs.BitRuns.{state_after_bits, state_after_bits-append, state_after_bits-lt, state_after_bits-injective, state_after_bits-burst}
use Rattle.record_sums.proofs.ByteBits.{EachByte, each_byte-append, state_after-bits, differ-behind, differ-ahead}
use Rattle.record_sums.proofs.Differences.{each_byte-u32, each_byte-u64, differ-u32, differ-u64}

turned-lt : (n : ℕ) → n < 2 ^ 32 → turned n < 2 ^ 32
turned-lt n l = xor_lt 32 n 0xFFFFFFFF l (omega arith)

-- the state after bytes whose bits are in three parts
in_parts : (state : ℕ) (bytes : List ℕ) (front middle back : List Bool) → EachByte bytes → bits_of bytes ≡ front ++ (middle ++ back)
    → state_after state bytes ≡ state_after_bits (state_after_bits (state_after_bits state front) middle) back
in_parts state bytes front middle back h e =
    state_after-bits state bytes h
    ∙ ap (state_after_bits state) e
    ∙ state_after_bits-append state front (middle ++ back)
    ∙ state_after_bits-append (state_after_bits state front) middle back

pub crc32c-burst : (before : ℕ) (one other : List ℕ) → before < 2 ^ 32 → EachByte one → EachByte other → DifferWithin 32 one other
    → crc32c before one ≢ crc32c before other
crc32c-burst before one other l h k d e =
    let start : ℕ = turned before in
    let met : ℕ = state_after_bits start d.front in
    let met_fits : met < 2 ^ 32 = state_after_bits-lt start d.front (turned-lt before l) in
    let states : state_after start one ≡ state_after start other = xor_cancel_right _ _ 0xFFFFFFFF e in
    let ends : state_after_bits (state_after_bits met d.from) d.back ≡ state_after_bits (state_after_bits met d.to) d.back =
    sym (in_parts start one d.front d.from d.back h d.one_bits) ∙ states ∙ in_parts start other d.front d.to d.back k d.other_bits in
    let behind : state_after_bits met d.from ≡ state_after_bits met d.to =
    state_after_bits-injective d.back _ _ (state_after_bits-lt met d.from met_fits) (state_after_bits-lt met d.to met_fits) ends in
    d.unlike (state_after_bits-burst met d.from d.to met_fits d.same_length d.short behind)

crc32c-lt : (before : ℕ) (bytes : List ℕ) → before < 2 ^ 32 → EachByte bytes → crc32c before bytes < 2 ^ 32
crc32c-lt before bytes l h =
    let bits = state_after_bits-lt (turned before) (bits_of bytes) (turned-lt before l) in
    turned-lt _ (omega (arith, state_after-bits (turned before) bytes h))

-- ---- records

each_byte-covered : (before number : ℕ) (payload : List ℕ) → EachByte payload → EachByte (covered_bytes before number payload)
each_byte-covered before number payload h =
    each_byte-append (to_le_bytes w32 before) (to_le_bytes w64 number ++ payload) (each_byte-u32 before)
    (each_byte-append (to_le_bytes w64 number) payload (each_byte-u64 number) h)

pub record_sum-lt : (before number : ℕ) (payload : List ℕ) → EachByte payload → record_sum before number payload < 2 ^ 32
record_sum-lt before number payload h = crc32c-lt 0 (covered_bytes before number payload) (omega arith) (each_byte-covered before number payload h)

pub record_sum-payload : (before number : ℕ) (one other : List ℕ) → EachByte one → EachByte other → DifferWithin 32 one other
    → record_sum before number one ≢ record_sum before number other
record_sum-payload before number one other h k d =
    crc32c-burst 0 _ _ (omega arith) (each_byte-covered before number one h) (each_byte-covered before number other k)
    (differ-behind 32 (to_le_bytes w32 before) _ _ (differ-behind 32 (to_le_bytes w64 number) one other d))

pub record_sum-before : (before other number : ℕ) (payload : List ℕ) → before < 2 ^ 32 → other < 2 ^ 32 → EachByte payload → before ≢ other
    → record_sum before number payload ≢ record_sum other number payload
record_sum-before before other number payload l m h unlike =
    crc32c-burst 0 _ _ (omega arith) (each_byte-covered before number payload h) (each_byte-covered other number payload h)
    (differ-ahead 32 (to_le_bytes w64 number ++ payload) _ _ (differ-u32 before other l m unlike))

pub record_sum-number : (before number other : ℕ) (payload : List ℕ) → number / 2 ^ 32 ≡ other / 2 ^ 32 → EachByte payload → number ≢ other
    → record_sum before number payload ≢ record_sum before other payload
record_sum-number before number other payload high h unlike =
    crc32c-burst 0 _ _ (omega arith) (each_byte-covered before number payload h) (each_byte-covered before other payload h)
    (differ-behind 32 (to_le_bytes w32 before) _ _ (differ-ahead 32 payload _ _ (differ-u64 number other high unlike)))
