-- The tokens of a text that begins with a word, a string, a number, a mark or a space.
use Rattle.std.proofs.Common.{◌≡◌, ℕ, suc, ◌+◌, ◌^◌, ◌<◌, ◌≤◌, Bool, true, false, cond, not, ◌&&◌, List, [], ◌∷◌, ◌++◌, length, take, eqb, nat_le, nat_lt, arith, refl, sym, ap, ◌∙◌, Option, Some, None}
use Rattle.std.specs.Prelude.{position, is_none}
use Rattle.std.proofs.lemmas.Bool.Decides.{nat_tests}
use Rattle.std.proofs.lemmas.List.{length-append}
use Rattle.std.proofs.Math.Seq.{take-append_seam, drop-append_seam, drop-append-add}
use Rattle.std.specs.List.{list_all, prefix_len}
use Rattle.std.specs.Fmt.{decimal, signed_decimal}
use lib.IntN.{ℤ, pos, negsuc}
use lib.Signed.{mag}
use Rattle.texts.proofs.Conjunction.{split}
use Rattle.program_tokens.specs.Numbers.{is_digit, number_of}
use Rattle.program_tokens.specs.Words.{is_space, begins_word, in_word, is_word, is_name, is_text, keyword_of, keyword_text, mark_byte, mark_of}
use Rattle.program_tokens.specs.Tokens.{piece_of, word_piece, text_piece, keyword_or_name, number_piece, word_run, digit_run, tokens_from, placed}
use Rattle.program_tokens.specs.declared.keyword.Keyword.{Keyword}
use Rattle.program_tokens.specs.declared.keyword.Keyword.TheVariants as words
use Rattle.program_tokens.specs.declared.mark.Mark.{Mark}
use Rattle.program_tokens.specs.declared.mark.Mark.TheVariants as marks
use Rattle.program_tokens.specs.declared.token.Token.{Token}
use Rattle.program_tokens.specs.declared.token.Token.TheVariants as tokens
use Rattle.program_tokens.specs.declared.piece.Piece.TheVariants as pieces
use Rattle.program_tokens.proofs.NumberDigits.{plain_decimal, negative_decimal, decimal_digits}
use Rattle.program_tokens.proofs.PieceTokens.{token_first}
use Rattle.program_tokens.proofs.StringTexts.{unquoted}

-- the text begins with a token, and the tokens of the rest follow; or it begins with nothing but a space
abbrev pub Lexes : Token → List ℕ → List ℕ → Type 0
Lexes t whole rest = (at : ℕ) → (a : ℕ) × (tokens_from 0 at whole ≡ placed t at ∷ tokens_from 0 a rest)

abbrev pub Skips : List ℕ → List ℕ → Type 0
Skips whole rest = (at : ℕ) → (a : ℕ) × (tokens_from 0 at whole ≡ tokens_from 0 a rest)

-- the run of bytes that pass ends there
abbrev pub Stops : (ℕ → Bool) → List ℕ → Type 0
Stops q [] = Unit {0}
Stops q (b ∷ bs) = q b ≡ false

suc_of : (n : ℕ) → 1 + n ≡ suc n
suc_of n = omega arith

runs : (q : ℕ → Bool) (s rest : List ℕ) → list_all q s ≡ true → Stops q rest → prefix_len q (s ++ rest) ≡ length s
runs q [] [] h e = refl
runs q [] (b ∷ rest) h e = rw e refl
runs q (b ∷ s) rest h e = let p = split (q b) (list_all q s) h in rw p.0 (ap (λ n. 1 + n) (runs q s rest p.1 e) ∙ suc_of (length s))

shorter : (s rest : List ℕ) → length s ≤ length (s ++ rest)
shorter s rest = omega (arith, length-append s rest)

-- ---- words

not_space : (b : ℕ) → begins_word b ≡ true → is_space b ≡ false
unfolding is_space begins_word
not_space b h = grind (arith, nat_tests)

not_comment : (b : ℕ) → begins_word b ≡ true → eqb b 35 ≡ false
unfolding begins_word
not_comment b h = grind (arith, nat_tests)

word_begins : (b : ℕ) (bs : List ℕ) → begins_word b ≡ true → piece_of b bs ≡ word_piece (b ∷ take (word_run bs) bs) (word_run bs)
unfolding piece_of
word_begins b bs h = rw (not_space b h, not_comment b h, h) refl

word_is : (w : List ℕ) (t : Token) (n : ℕ) → nat_le (length w) 64 ≡ true → keyword_or_name (keyword_of w) w ≡ t → word_piece w n ≡ pieces.Token t n
word_is w t n short is = rw (short, is) refl

-- a word of letters, with what follows it
first_word : (b : ℕ) (w rest : List ℕ) (t : Token) → begins_word b ≡ true → list_all in_word w ≡ true → nat_le (length (b ∷ w)) 64 ≡ true → keyword_or_name (keyword_of (b ∷ w)) (b ∷ w) ≡ t → Stops in_word rest
    → pieces.Token t (length w) ≡ piece_of b (w ++ rest)
first_word b w rest t begins inside short is stops =
    let run = runs in_word w rest inside stops in
    let held = ap (λ n. take n (w ++ rest)) run ∙ take-append_seam w rest in
    sym (word_begins b (w ++ rest) begins ∙ (λ j. word_piece (b ∷ held j) (run j)) ∙ word_is (b ∷ w) t (length w) short is)

pub lex_word : (w rest : List ℕ) (t : Token) → is_word w ≡ true → nat_le (length w) 64 ≡ true → keyword_or_name (keyword_of w) w ≡ t → Stops in_word rest → Lexes t (w ++ rest) rest
unfolding is_word
lex_word [] rest t form short is stops at = absurd cc
lex_word (b ∷ w) rest t form short is stops at =
    let p = split (begins_word b) (list_all in_word w) form in (
      at + 1 + length w,
      token_first b at (length w) t (w ++ rest) (first_word b w rest t p.0 p.1 short is stops) (shorter w rest)
          ∙ ap (λ x. placed t at ∷ tokens_from 0 (at + 1 + length w) x) (drop-append_seam w rest),
    )

-- how a keyword is written
record IsWritten (k : Keyword) : Type 0 where
  form : is_word (keyword_text k) ≡ true
  short : nat_le (length (keyword_text k)) 64 ≡ true
  word : keyword_or_name (keyword_of (keyword_text k)) (keyword_text k) ≡ tokens.Keyword k

written : (k : Keyword) → IsWritten k
unfolding is_word begins_word in_word keyword_of
written words.Type = record { form = refl; short = refl; word = refl }
written words.Lens = record { form = refl; short = refl; word = refl }
written words.Main = record { form = refl; short = refl; word = refl }
written words.Unit = record { form = refl; short = refl; word = refl }
written words.Bool = record { form = refl; short = refl; word = refl }
written words.Int = record { form = refl; short = refl; word = refl }
written words.Text = record { form = refl; short = refl; word = refl }
written words.Enum = record { form = refl; short = refl; word = refl }
written words.List = record { form = refl; short = refl; word = refl }
written words.Keyed = record { form = refl; short = refl; word = refl }
written words.Tree = record { form = refl; short = refl; word = refl }
written words.Id = record { form = refl; short = refl; word = refl }
written words.Bij = record { form = refl; short = refl; word = refl }
written words.Disc = record { form = refl; short = refl; word = refl }
written words.Then = record { form = refl; short = refl; word = refl }
written words.Left = record { form = refl; short = refl; word = refl }
written words.Right = record { form = refl; short = refl; word = refl }
written words.Each = record { form = refl; short = refl; word = refl }
written words.Part = record { form = refl; short = refl; word = refl }
written words.Inv = record { form = refl; short = refl; word = refl }

pub lex_keyword : (k : Keyword) (rest : List ℕ) → Stops in_word rest → Lexes (tokens.Keyword k) (keyword_text k ++ rest) rest
lex_keyword k rest stops = let w = written k in lex_word (keyword_text k) rest (tokens.Keyword k) w.form w.short w.word stops

no_keyword : (o : Option Keyword) (w : List ℕ) → is_none o ≡ true → keyword_or_name o w ≡ tokens.Name w
no_keyword None w h = refl
no_keyword (Some k) w h = absurd cc

pub lex_name : (w rest : List ℕ) → is_name w ≡ true → Stops in_word rest → Lexes (tokens.Name w) (w ++ rest) rest
unfolding is_name
lex_name w rest h stops =
    let a = split (is_word w && nat_le (length w) 64) (is_none (keyword_of w)) h in
    let b = split (is_word w) (nat_le (length w) 64) a.0 in
    lex_word w rest (tokens.Name w) b.0 b.1 (no_keyword (keyword_of w) w a.1) stops

-- ---- strings

string_begins : (bs : List ℕ) → piece_of 34 bs ≡ text_piece bs (position (λ b. eqb b 34) bs)
unfolding piece_of is_space begins_word
string_begins bs = refl

closes : (s rest : List ℕ) → list_all (λ b. not (eqb b 34)) s ≡ true → position (λ b. eqb b 34) (s ++ 34 ∷ rest) ≡ Some (length s)
closes s rest h =
    let run = runs (λ b. not (eqb b 34)) s (34 ∷ rest) h refl in
    let below : nat_lt (length s) (length (s ++ 34 ∷ rest)) ≡ true = grind (arith, nat_tests, length-append s (34 ∷ rest)) in
    (λ j. cond (nat_lt (run j) (length (s ++ 34 ∷ rest))) (Some (run j)) None) ∙ rw below refl

held : (s rest : List ℕ) → is_text s ≡ true → text_piece (s ++ 34 ∷ rest) (Some (length s)) ≡ pieces.Token (tokens.Text s) (length s + 1)
held s rest h = rw (take-append_seam s (34 ∷ rest), h) refl

pub lex_string : (s rest : List ℕ) → is_text s ≡ true → Lexes (tokens.Text s) (34 ∷ s ++ 34 ∷ rest) rest
lex_string s rest h at =
    let whole = s ++ 34 ∷ rest in
    let piece = string_begins whole ∙ ap (text_piece whole) (closes s rest (unquoted s h)) ∙ held s rest h in
    let within : length s + 1 ≤ length whole = omega (arith, length-append s (34 ∷ rest)) in (
      at + 1 + (length s + 1),
      token_first 34 at (length s + 1) (tokens.Text s) whole (sym piece) within
          ∙ ap (λ x. placed (tokens.Text s) at ∷ tokens_from 0 (at + 1 + (length s + 1)) x) (drop-append-add s (34 ∷ rest) 1),
    )

-- ---- numbers

not_begins : (b : ℕ) → is_digit b ≡ true → begins_word b ≡ false
unfolding begins_word
not_begins b h = grind (arith, nat_tests)

digit_begins : (b : ℕ) (bs : List ℕ) → is_digit b ≡ true → piece_of b bs ≡ number_piece (number_of false (b ∷ take (digit_run bs) bs)) (digit_run bs)
unfolding piece_of is_space
digit_begins b bs h =
    let space : is_space b ≡ false = grind (arith, nat_tests) in
    let comment : eqb b 35 ≡ false = grind (arith, nat_tests) in
    let quote : eqb b 34 ≡ false = grind (arith, nat_tests) in
    rw (space, comment, not_begins b h, quote, h) refl

minus_begins : (bs : List ℕ) → piece_of 45 bs ≡ number_piece (number_of true (take (digit_run bs) bs)) (digit_run bs)
unfolding piece_of is_space begins_word
minus_begins bs = refl

-- digits, behind a `-` or without, with what follows them
lex_plain : (ds rest : List ℕ) (z : ℤ) → number_of false ds ≡ Some z → list_all is_digit ds ≡ true → Stops is_digit rest → Lexes (tokens.Number z) (ds ++ rest) rest
unfolding number_of
lex_plain [] rest z is all stops at = absurd cc
lex_plain (d ∷ ds) rest z is all stops at =
    let p = split (is_digit d) (list_all is_digit ds) all in
    let run = runs is_digit ds rest p.1 stops in
    let held = ap (λ n. take n (ds ++ rest)) run ∙ take-append_seam ds rest in
    let piece = digit_begins d (ds ++ rest) p.0 ∙ (λ j. number_piece (number_of false (d ∷ held j)) (run j)) ∙ ap (λ o. number_piece o (length ds)) is in (
      at + 1 + length ds,
      token_first d at (length ds) (tokens.Number z) (ds ++ rest) (sym piece) (shorter ds rest)
          ∙ ap (λ x. placed (tokens.Number z) at ∷ tokens_from 0 (at + 1 + length ds) x) (drop-append_seam ds rest),
    )

lex_negative : (ds rest : List ℕ) (z : ℤ) → number_of true ds ≡ Some z → list_all is_digit ds ≡ true → Stops is_digit rest → Lexes (tokens.Number z) (45 ∷ ds ++ rest) rest
lex_negative ds rest z is all stops at =
    let run = runs is_digit ds rest all stops in
    let held = ap (λ n. take n (ds ++ rest)) run ∙ take-append_seam ds rest in
    let piece = minus_begins (ds ++ rest) ∙ (λ j. number_piece (number_of true (held j)) (run j)) ∙ ap (λ o. number_piece o (length ds)) is in (
      at + 1 + length ds,
      token_first 45 at (length ds) (tokens.Number z) (ds ++ rest) (sym piece) (shorter ds rest)
          ∙ ap (λ x. placed (tokens.Number z) at ∷ tokens_from 0 (at + 1 + length ds) x) (drop-append_seam ds rest),
    )

-- a number in decimal digits
pub lex_number : (z : ℤ) (rest : List ℕ) → mag z < 2 ^ 63 → Stops is_digit rest → Lexes (tokens.Number z) (signed_decimal z ++ rest) rest
lex_number (pos n) rest h stops = lex_plain (decimal n) rest (pos n) (plain_decimal n h) (decimal_digits n (omega arith)) stops
lex_number (negsuc n) rest h stops = lex_negative (decimal (suc n)) rest (negsuc n) (negative_decimal n h) (decimal_digits (suc n) (omega arith)) stops

-- ---- marks and what separates tokens

pub lex_mark : (m : Mark) (rest : List ℕ) → Lexes (tokens.Mark m) (mark_byte m ∷ rest) rest
unfolding tokens_from piece_of is_space begins_word mark_of
lex_mark marks.Equals rest at = (at + 1, refl)
lex_mark marks.Semicolon rest at = (at + 1, refl)
lex_mark marks.OpenBrace rest at = (at + 1, refl)
lex_mark marks.CloseBrace rest at = (at + 1, refl)
lex_mark marks.Less rest at = (at + 1, refl)
lex_mark marks.Greater rest at = (at + 1, refl)
lex_mark marks.OpenBracket rest at = (at + 1, refl)
lex_mark marks.CloseBracket rest at = (at + 1, refl)
lex_mark marks.OpenParen rest at = (at + 1, refl)
lex_mark marks.CloseParen rest at = (at + 1, refl)
lex_mark marks.Colon rest at = (at + 1, refl)
lex_mark marks.Comma rest at = (at + 1, refl)
lex_mark marks.Tilde rest at = (at + 1, refl)

pub skip_space : (rest : List ℕ) → Skips (32 ∷ rest) rest
unfolding tokens_from piece_of is_space
skip_space rest at = (at + 1, refl)

pub skip_line : (rest : List ℕ) → Skips (10 ∷ rest) rest
unfolding tokens_from piece_of is_space
skip_line rest at = (at + 1, refl)

pub lex_end : (at : ℕ) → tokens_from 0 at [] ≡ placed tokens.End at ∷ []
unfolding tokens_from
lex_end at = refl

-- a token with a space before or behind it
pub then_space : (t : Token) (whole rest : List ℕ) → Lexes t whole (32 ∷ rest) → Lexes t whole rest
then_space t whole rest h at =
    let r = h at in
    let s = skip_space rest r.0 in
    (s.0, r.1 ∙ ap (λ x. placed t at ∷ x) s.1)

-- no word goes on where a mark or a space stands

pub stops_at_mark : (m : Mark) → in_word (mark_byte m) ≡ false
unfolding in_word begins_word
stops_at_mark marks.Equals = refl
stops_at_mark marks.Semicolon = refl
stops_at_mark marks.OpenBrace = refl
stops_at_mark marks.CloseBrace = refl
stops_at_mark marks.Less = refl
stops_at_mark marks.Greater = refl
stops_at_mark marks.OpenBracket = refl
stops_at_mark marks.CloseBracket = refl
stops_at_mark marks.OpenParen = refl
stops_at_mark marks.CloseParen = refl
stops_at_mark marks.Colon = refl
stops_at_mark marks.Comma = refl
stops_at_mark marks.Tilde = refl

pub stops_at_space : in_word 32 ≡ false
unfolding in_word begins_word
stops_at_space = refl
