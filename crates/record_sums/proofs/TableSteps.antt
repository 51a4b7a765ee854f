-- A step takes from the table all that it needs, and the table has what the definition says.
use Rattle.std.proofs.Common.{◌≡◌, ℕ, ◌*◌, ◌/◌, ◌%◌, ◌<◌, ◌==◌, Bool, true, slice_index, bit_xor, refl, sym, ap, ap₂, ◌∙◌, arith, mod-lt, zero-lt-suc}
use Rattle.std.proofs.lemmas.Bool.{agree_below_at, eqb-true}
use Rattle.std.proofs.lemmas.Nat.{xor_shr, div-add-mod'}
use lib.Bits.{xor_shifted, xor_zero_r}
use Rattle.record_sums.specs.Crc32c.{shifted, shifted_by, step}
use Rattle.record_sums.specs.declared.table.TheConstants.{SHIFTED_BYTES}
use Rattle.record_sums.proofs.Shifts.{shifted_by-xor, shifted_by-power}

abbrev is_entry : ℕ → Bool
is_entry byte = slice_index SHIFTED_BYTES byte == shifted_by 8 byte

entry : (byte : ℕ) → byte < 256 → slice_index SHIFTED_BYTES byte ≡ shifted_by 8 byte
unfolding shifted shifted_by
entry byte l = eqb-true _ _ (agree_below_at is_entry (λ _. true) 256 byte refl l)

-- the low byte goes through the table, and what is above it moves down
low_byte : (n : ℕ) → bit_xor (n / 256) (slice_index SHIFTED_BYTES (n % 256)) ≡ shifted_by 8 n
low_byte n =
    let low : n % 256 < 256 = mod-lt n (zero-lt-suc 255) in
    let parts : bit_xor (n / 256 * 256) (n % 256) ≡ n = xor_shifted (n / 256) 8 (n % 256) low ∙ div-add-mod' n 256 in
    ap₂ bit_xor (sym (shifted_by-power 8 (n / 256))) (entry (n % 256) low)
    ∙ sym (shifted_by-xor 8 (n / 256 * 256) (n % 256))
    ∙ ap (shifted_by 8) parts

-- the byte touches nothing above the low byte of the state
pub step-by_table : (state byte : ℕ) → byte < 256
    → bit_xor (state / 256) (slice_index SHIFTED_BYTES (bit_xor state byte % 256)) ≡ step state byte
step-by_table state byte l =
    let none : byte / 256 ≡ 0 = omega arith in
    let high : bit_xor state byte / 256 ≡ state / 256 =
    xor_shr state byte 8 ∙ ap (bit_xor (state / 256)) none ∙ xor_zero_r (state / 256) in
    ap (λ x. bit_xor x (slice_index SHIFTED_BYTES (bit_xor state byte % 256))) (sym high)
    ∙ low_byte (bit_xor state byte)
