-- Each token of a text keeps its form: a name is one, a string holds what a string may hold, and a number is in i64.
use Rattle.std.proofs.Common.{◌≡◌, ℕ, zero, suc, ◌+◌, ◌^◌, ◌<◌, Bool, true, false, cond, ◌&&◌, List, [], ◌∷◌, length, take, Option, Some, None, nat_le, nat_lt, eqb, arith, refl}
use Rattle.std.specs.Prelude.{position}
use Rattle.std.proofs.lemmas.Bool.Decides.{nat_tests}
use lib.IntN.{pos, neg_ℤ}
use lib.Signed.{mag}
use Rattle.program_tokens.specs.Numbers.{is_digit, digits_after, signed, number_of}
use Rattle.program_tokens.specs.Words.{is_space, begins_word, in_word, is_word, is_name, is_text, keyword_of, mark_of}
use Rattle.program_tokens.specs.Tokens.{piece_of, word_piece, text_piece, mark_piece, number_piece, keyword_or_name, word_run, digit_run, line_run, tokens_from, placed}
use Rattle.program_tokens.specs.declared.keyword.Keyword.{Keyword}
use Rattle.program_tokens.specs.declared.mark.Mark.{Mark}
use Rattle.program_tokens.specs.declared.token.Token.{Token}
use Rattle.program_tokens.specs.declared.token.Token.TheVariants as tokens
use Rattle.program_tokens.specs.declared.token.PlacedToken.{PlacedToken}
use Rattle.program_tokens.specs.declared.piece.Piece.{Piece}
use Rattle.program_tokens.specs.declared.piece.Piece.TheVariants as pieces
use Rattle.program_tokens.proofs.WordUtf8.{run_all}

abbrev pub IsSound : Token → Type 0
IsSound (tokens.Name w) = is_name w ≡ true
IsSound (tokens.Text s) = is_text s ≡ true
IsSound (tokens.Number z) = mag z < 2 ^ 63
IsSound (tokens.Keyword k) = Unit {0}
IsSound (tokens.Mark m) = Unit {0}
IsSound tokens.Bad = Unit {0}
IsSound tokens.End = Unit {0}

abbrev pub AreSound : List PlacedToken → Type 0
AreSound [] = Unit {0}
AreSound (t ∷ ts) = IsSound t.token × AreSound ts

-- what a piece holds
abbrev IsSoundPiece : Piece → Type 0
IsSoundPiece (pieces.Gap n) = Unit {0}
IsSoundPiece (pieces.Token t n) = IsSound t
IsSoundPiece pieces.Bad = Unit {0}

sound_word : (w : List ℕ) (o : Option Keyword) → is_word w ≡ true → nat_le (length w) 64 ≡ true → keyword_of w ≡ o → IsSound (keyword_or_name o w)
unfolding is_name
sound_word w (Some k) form short e = tt
sound_word w None form short e = rw (form, short, e) refl

sound_if_short : (w : List ℕ) (n : ℕ) (b : Bool) → is_word w ≡ true → nat_le (length w) 64 ≡ b → IsSoundPiece (cond b (pieces.Token (keyword_or_name (keyword_of w) w) n) pieces.Bad)
sound_if_short w n true form short = sound_word w (keyword_of w) form short refl
sound_if_short w n false form short = tt

word_form : (b : ℕ) (bs : List ℕ) → begins_word b ≡ true → is_word (b ∷ take (word_run bs) bs) ≡ true
unfolding is_word
word_form b bs h = rw h (run_all in_word bs)

sound_if_text : (s : List ℕ) (n : ℕ) (b : Bool) → is_text s ≡ b → IsSoundPiece (cond b (pieces.Token (tokens.Text s) n) pieces.Bad)
sound_if_text s n true h = h
sound_if_text s n false h = tt

sound_text : (bs : List ℕ) (o : Option ℕ) → IsSoundPiece (text_piece bs o)
sound_text bs None = tt
sound_text bs (Some n) = sound_if_text (take n bs) (n + 1) (is_text (take n bs)) refl

sound_negative : (n : ℕ) (b : Bool) (k : ℕ) → nat_le n (2 ^ 63) ≡ b → IsSoundPiece (number_piece (cond b (Some (neg_ℤ (pos n))) None) k)
sound_negative n false k e = tt
sound_negative zero true k e = omega arith
sound_negative (suc n) true k e = grind (arith, nat_tests)

sound_plain : (n : ℕ) (b : Bool) (k : ℕ) → nat_lt n (2 ^ 63) ≡ b → IsSoundPiece (number_piece (cond b (Some (pos n)) None) k)
sound_plain n false k e = tt
sound_plain n true k e = grind (arith, nat_tests)

sound_sign : (negative : Bool) (n k : ℕ) → IsSoundPiece (number_piece (signed negative n) k)
sound_sign true n k = sound_negative n (nat_le n (2 ^ 63)) k refl
sound_sign false n k = sound_plain n (nat_lt n (2 ^ 63)) k refl

sound_number : (negative : Bool) (ds : List ℕ) (b : Bool) (n : ℕ) → IsSoundPiece (number_piece (cond b (signed negative (digits_after 0 ds)) None) n)
sound_number negative ds true n = sound_sign negative (digits_after 0 ds) n
sound_number negative ds false n = tt

sound_digits : (negative : Bool) (ds : List ℕ) (n : ℕ) → IsSoundPiece (number_piece (number_of negative ds) n)
unfolding number_of
sound_digits negative ds n = sound_number negative ds (nat_le 1 (length ds) && nat_le (length ds) 19) n

sound_mark : (o : Option Mark) → IsSoundPiece (mark_piece o)
sound_mark (Some m) = tt
sound_mark None = tt

-- the tests of `piece_of`, one after another
by_tests : (space comment word quote digit minus : Bool) (b : ℕ) (bs : List ℕ) → begins_word b ≡ word
    → IsSoundPiece (cond space (pieces.Gap 0) (cond comment (pieces.Gap (line_run bs)) (cond word (word_piece (b ∷ take (word_run bs) bs) (word_run bs)) (cond quote (text_piece bs (position (λ c. eqb c 34) bs))
    (cond digit (number_piece (number_of false (b ∷ take (digit_run bs) bs)) (digit_run bs)) (cond minus (number_piece (number_of true (take (digit_run bs) bs)) (digit_run bs)) (mark_piece (mark_of b))))))))
by_tests true comment word quote digit minus b bs h = tt
by_tests false true word quote digit minus b bs h = tt
by_tests false false true quote digit minus b bs h = sound_if_short (b ∷ take (word_run bs) bs) (word_run bs) (nat_le (length (b ∷ take (word_run bs) bs)) 64) (word_form b bs h) refl
by_tests false false false true digit minus b bs h = sound_text bs (position (λ c. eqb c 34) bs)
by_tests false false false false true minus b bs h = sound_digits false (b ∷ take (digit_run bs) bs) (digit_run bs)
by_tests false false false false false true b bs h = sound_digits true (take (digit_run bs) bs) (digit_run bs)
by_tests false false false false false false b bs h = sound_mark (mark_of b)

sound_piece : (b : ℕ) (bs : List ℕ) → IsSoundPiece (piece_of b bs)
unfolding piece_of
sound_piece b bs = by_tests (is_space b) (eqb b 35) (begins_word b) (eqb b 34) (is_digit b) (eqb b 45) b bs refl

-- the tokens of any text
pub sound : (skip at : ℕ) (text : List ℕ) → AreSound (tokens_from skip at text)
unfolding tokens_from
sound skip at [] = (tt, tt)
sound (suc skip) at (b ∷ bs) = sound skip (at + 1) bs
sound zero at (b ∷ bs) =
    elim (piece_of b bs) as (λ p. IsSoundPiece p → AreSound (elim p [ pieces.Gap n ↦ tokens_from n (at + 1) bs | pieces.Token t n ↦ placed t at ∷ tokens_from n (at + 1) bs | pieces.Bad ↦ placed tokens.Bad at ∷ [] ])) [
      | pieces.Gap n ↦ λ h. sound n (at + 1) bs
      | pieces.Token t n ↦ λ h. (h, sound n (at + 1) bs)
      | pieces.Bad ↦ λ h. (tt, tt)
    ] (sound_piece b bs)
