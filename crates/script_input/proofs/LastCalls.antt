-- The bytes that were taken before the source was called last.
use Rattle.std.proofs.Common.{◌≡◌, ℕ, ◌-◌, List, [], ◌++◌, length, take, ap, subst, ◌∙◌, append-nil, length-append, arith}
use Rattle.std.proofs.Math.Seq.{take-append_seam}

-- what was there before a piece of this length
pub but_last : (earlier piece : List ℕ) (n : ℕ) → n ≡ length piece → take (length (earlier ++ piece) - n) (earlier ++ piece) ≡ earlier
but_last earlier piece n e =
    let less : length (earlier ++ piece) - n ≡ length earlier = omega (arith, e, length-append earlier piece) in
    ap (λ k. take k (earlier ++ piece)) less ∙ take-append_seam earlier piece

-- where the last call gave nothing, that is all
pub all_before : (bytes : List ℕ) (n : ℕ) → n ≡ 0 → take (length bytes - n) bytes ≡ bytes
all_before bytes n e = subst (λ l. take (length l - n) l ≡ bytes) (append-nil bytes) (but_last bytes [] n e)
