-- Which texts a string may hold.
use Rattle.std.proofs.Common.{◌≡◌, ℕ, ◌≤◌, Bool, true, false, ◌&&◌, List, length, arith, refl}
use Rattle.std.proofs.lemmas.Str.{IsUtf8-from_is_utf8, is_utf8-from_IsUtf8}
use Rattle.std.specs.Str.{IsUtf8, is_utf8, chars}
use Rattle.std.specs.List.{list_all}
use Rattle.program_tokens.specs.Words.{in_text, is_text}
use Rattle.std.proofs.lemmas.Bool.{le-leb}

no_text : (b : Bool) (rest : Bool) → (b ≡ true → ⊥) → (b && rest) ≡ false
no_text true rest h = absurd (h refl)
no_text false rest h = refl

utf8_only : (bs : List ℕ) (a b c : Bool) → (is_utf8 bs ≡ true → ⊥) → (is_utf8 bs && a && b && c) ≡ false
utf8_only bs a b c h = rw (no_text (is_utf8 bs) a h) refl

pub not_utf8-not_text : (bs : List ℕ) → (IsUtf8 bs → ⊥) → is_text bs ≡ false
unfolding is_text
not_utf8-not_text bs h = utf8_only bs _ _ _ (λ u. h (IsUtf8-from_is_utf8 bs u))

pub text_of_length : (s : List ℕ) (n : ℕ) → IsUtf8 s → n ≡ length (chars s) → 1 ≤ n → n ≤ 64 → is_text s ≡ list_all in_text (chars s)
unfolding is_text
text_of_length s n u e low high =
    let low' : 1 ≤ length (chars s) = omega arith in
    let high' : length (chars s) ≤ 64 = omega arith in
    rw (is_utf8-from_IsUtf8 s u, le-leb 1 (length (chars s)) low', le-leb (length (chars s)) 64 high') refl
