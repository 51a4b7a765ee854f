-- The tokens of a program's text, each with the offset of its first byte. docs/LANGUAGE.md has the rules in words.
-- Read it from the end: `tokens_of`, then `tokens_from` and `piece_of`, which has a line for each kind of token.
use Rattle.std.specs.Prelude.{ℕ, zero, suc, ◌+◌, ◌≤◌, List, [], ◌∷◌, length, take, true, false, Option, Some, None}
use Rattle.std.specs.Prelude.{◌==◌, nat_le, not, if◌then◌else◌, position}
use Rattle.std.specs.List.{prefix_len}
use lib.IntN.{ℤ}
use Rattle.program_tokens.specs.Numbers.{is_digit, number_of}
use Rattle.program_tokens.specs.Words.{is_space, begins_word, in_word, keyword_of, mark_of, is_text}
use Rattle.program_tokens.specs.declared.keyword.Keyword.{Keyword}
use Rattle.program_tokens.specs.declared.mark.Mark.{Mark}
use Rattle.program_tokens.specs.declared.token.Token.{Token}
use Rattle.program_tokens.specs.declared.token.Token.TheVariants as tokens
use Rattle.program_tokens.specs.declared.token.PlacedToken.{PlacedToken}
use Rattle.program_tokens.specs.declared.piece.Piece.{Piece}
use Rattle.program_tokens.specs.declared.piece.Piece.TheVariants as pieces

-- a word is a keyword or a name
abbrev pub keyword_or_name : Option Keyword → List ℕ → Token
keyword_or_name (Some k) w = tokens.Keyword k
keyword_or_name None w = tokens.Name w

-- A piece is a gap between tokens, a token, or bytes that are neither. Its number counts the bytes behind its first
-- one.

-- a word of up to 64 bytes
abbrev pub word_piece : List ℕ → ℕ → Piece
word_piece w others = if nat_le (length w) 64 then pieces.Token (keyword_or_name (keyword_of w) w) others
    else pieces.Bad

-- the string before the closing quote, if there is one
abbrev pub text_piece : List ℕ → Option ℕ → Piece
text_piece bs None = pieces.Bad
text_piece bs (Some n) = if is_text (take n bs) then pieces.Token (tokens.Text (take n bs)) (n + 1) else pieces.Bad

-- a number, where the digits write one
abbrev pub number_piece : Option ℤ → ℕ → Piece
number_piece (Some z) others = pieces.Token (tokens.Number z) others
number_piece None others = pieces.Bad

abbrev pub mark_piece : Option Mark → Piece
mark_piece (Some m) = pieces.Token (tokens.Mark m) 0
mark_piece None = pieces.Bad

-- how many bytes of a word come first
abbrev pub word_run : List ℕ → ℕ
word_run bs = prefix_len in_word bs

-- how many digits come first
abbrev pub digit_run : List ℕ → ℕ
digit_run bs = prefix_len is_digit bs

-- how many bytes are before the next LF, or before the end
abbrev pub line_run : List ℕ → ℕ
line_run bs = prefix_len (λ b. not (b == 10)) bs

-- the piece that begins with the byte b, where bs follows
unfoldable pub piece_of : ℕ → List ℕ → Piece
piece_of b bs =
    if is_space b then pieces.Gap 0
    else if b == 35 then pieces.Gap (line_run bs)
    else if begins_word b then word_piece (b ∷ take (word_run bs) bs) (word_run bs)
    else if b == 34 then text_piece bs (position (λ b. b == 34) bs)
    else if is_digit b then number_piece (number_of false (b ∷ take (digit_run bs) bs)) (digit_run bs)
    else if b == 45 then number_piece (number_of true (take (digit_run bs) bs)) (digit_run bs)
    else mark_piece (mark_of b)

abbrev pub placed : Token → ℕ → PlacedToken
placed token at = record { token = token; at = at }

-- The tokens from an offset on, after passing over the bytes that a piece before them still has. A bad token fits
-- nowhere, so none follows it.
unfoldable pub tokens_from : ℕ → ℕ → List ℕ → List PlacedToken
tokens_from skip at [] = placed tokens.End at ∷ []
tokens_from (suc skip) at (b ∷ bs) = tokens_from skip (at + 1) bs
tokens_from zero at (b ∷ bs) = elim (piece_of b bs) [
  | pieces.Gap n ↦ tokens_from n (at + 1) bs
  | pieces.Token t n ↦ placed t at ∷ tokens_from n (at + 1) bs
  | pieces.Bad ↦ placed tokens.Bad at ∷ []
]

-- the tokens of a text
abbrev pub tokens_of : List ℕ → List PlacedToken
tokens_of text = tokens_from 0 0 text

-- A piece that begins a text where n bytes follow its first ends within it.
abbrev pub IsWithin : ℕ → Piece → Type 0
IsWithin n (pieces.Gap others) = others ≤ n
IsWithin n (pieces.Token t others) = others ≤ n
IsWithin n pieces.Bad = Unit {0}
