-- A shift of the state is linear, keeps the state below 2 ^ 32, and leads no two states to one.
use Rattle.std.proofs.Common.{◌≡◌, ℕ, zero, suc, ◌*◌, ◌/◌, ◌%◌, ◌^◌, ◌<◌, ◌==◌, Bool, true, false, bit_xor, if◌then◌else◌, refl, sym, ap, ap₂, ◌∙◌, arith, mod-lt, zero-lt-suc, mul_assoc}
use Rattle.std.proofs.Math.Nat.{mul-one, pow-suc}
use Rattle.std.proofs.lemmas.Nat.{xor_lt, xor_shr, xor_mod}
use lib.Bits.{xor_self, xor_zero_r}
use Rattle.record_sums.specs.Crc32c.{polynomial, shifted, shifted_by}
use Rattle.record_sums.proofs.Xor.{xor_zero, xor_swap}

-- what a lowest bit adds to the state as it goes
abbrev added : ℕ → ℕ
added bit = if bit == 1 then polynomial else 0

added-xor : (a b : ℕ) → a < 2 → b < 2 → added (bit_xor a b) ≡ bit_xor (added a) (added b)
added-xor zero b _ _ = refl
added-xor (suc zero) zero _ _ = refl
added-xor (suc zero) (suc zero) _ _ = refl
added-xor (suc zero) (suc (suc b)) _ h = absurd (omega arith)
added-xor (suc (suc a)) b h _ = absurd (omega arith)

chosen-lt : (b : Bool) → (if b then polynomial else 0) < 2 ^ 32
chosen-lt true = omega arith
chosen-lt false = omega arith

pub shifted-xor : (a b : ℕ) → shifted (bit_xor a b) ≡ bit_xor (shifted a) (shifted b)
unfolding shifted
shifted-xor a b =
    let bits : added (bit_xor a b % 2) ≡ bit_xor (added (a % 2)) (added (b % 2)) =
    ap added (xor_mod a b 1) ∙ added-xor (a % 2) (b % 2) (mod-lt a (zero-lt-suc 1)) (mod-lt b (zero-lt-suc 1)) in
    ap₂ bit_xor (xor_shr a b 1) bits ∙ xor_swap (a / 2) (b / 2) (added (a % 2)) (added (b % 2))

-- a lowest bit of 0 goes with no trace
pub shifted-double : (n : ℕ) → shifted (n * 2) ≡ n
unfolding shifted
shifted-double n =
    let half : n * 2 / 2 ≡ n = omega arith in
    let even : n * 2 % 2 ≡ 0 = omega arith in
    ap₂ bit_xor half (ap added even) ∙ xor_zero_r n

pub shifted-lt : (a : ℕ) → a < 2 ^ 32 → shifted a < 2 ^ 32
unfolding shifted
shifted-lt a h = xor_lt 32 (a / 2) (added (a % 2)) (omega arith) (chosen-lt (a % 2 == 1))

-- the polynomial has its highest bit, which no half of a state has
zero_from_parts : (n d : ℕ) → n < 2 ^ 32 → n % 2 ≡ d → bit_xor (n / 2) (added d) ≡ 0 → n ≡ 0
zero_from_parts n zero _ e h = let half : n / 2 ≡ 0 = sym (xor_zero_r (n / 2)) ∙ h in omega arith
zero_from_parts n (suc zero) l e h = let half : n / 2 ≡ polynomial = xor_zero (n / 2) polynomial h in absurd (omega arith)
zero_from_parts n (suc (suc d)) _ e h = absurd (omega (arith, mod-lt n (zero-lt-suc 1)))

zero_from_shifted : (n : ℕ) → n < 2 ^ 32 → shifted n ≡ 0 → n ≡ 0
unfolding shifted
zero_from_shifted n l h = zero_from_parts n (n % 2) l refl h

pub shifted-injective : (a b : ℕ) → a < 2 ^ 32 → b < 2 ^ 32 → shifted a ≡ shifted b → a ≡ b
shifted-injective a b la lb h =
    xor_zero a b
    (zero_from_shifted (bit_xor a b) (xor_lt 32 a b la lb)
    (shifted-xor a b ∙ ap (λ x. bit_xor x (shifted b)) h ∙ xor_self (shifted b)))

-- ---- several shifts

pub shifted_by-xor : (n a b : ℕ) → shifted_by n (bit_xor a b) ≡ bit_xor (shifted_by n a) (shifted_by n b)
unfolding shifted_by
shifted_by-xor zero a b = refl
shifted_by-xor (suc n) a b = ap (shifted_by n) (shifted-xor a b) ∙ shifted_by-xor n (shifted a) (shifted b)

pub shifted_by-lt : (n a : ℕ) → a < 2 ^ 32 → shifted_by n a < 2 ^ 32
unfolding shifted_by
shifted_by-lt zero a l = l
shifted_by-lt (suc n) a l = shifted_by-lt n (shifted a) (shifted-lt a l)

pub shifted_by-injective : (n a b : ℕ) → a < 2 ^ 32 → b < 2 ^ 32 → shifted_by n a ≡ shifted_by n b → a ≡ b
unfolding shifted_by
shifted_by-injective zero a b la lb h = h
shifted_by-injective (suc n) a b la lb h =
    shifted-injective a b la lb (shifted_by-injective n (shifted a) (shifted b) (shifted-lt a la) (shifted-lt b lb) h)

-- n lowest bits of 0 go with no trace
pub shifted_by-power : (k n : ℕ) → shifted_by k (n * 2 ^ k) ≡ n
unfolding shifted_by
shifted_by-power zero n = mul-one n
shifted_by-power (suc k) n =
    let twice : n * 2 ^ suc k ≡ n * 2 ^ k * 2 = ap (λ x. n * x) (pow-suc 2 k) ∙ sym (mul_assoc n (2 ^ k) 2) in
    ap (λ x. shifted_by k (shifted x)) twice ∙ ap (shifted_by k) (shifted-double (n * 2 ^ k)) ∙ shifted_by-power k n
