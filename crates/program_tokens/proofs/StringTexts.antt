-- What may stand in a string: no byte of it is a quote, and a name may.
use Rattle.std.proofs.Common.{◌≡◌, ℕ, suc, ◌<◌, Bool, true, false, not, ◌&&◌, List, [], ◌∷◌, length, get_or, eqb, nat_le, arith, refl, sym, ◌∙◌}
use Rattle.std.specs.Prelude.{is_none}
use Rattle.std.proofs.lemmas.Bool.Decides.{nat_tests}
use Rattle.std.proofs.lemmas.Str.{IsUtf8-from_is_utf8, is_utf8-from_IsUtf8, encodes-chars, NoCharPasses-byte, IsUtf8-from_ascii, chars-IsAscii}
use Rattle.std.proofs.lemmas.Str.Ascii.{IsAscii-nil, IsAscii-cons}
use Rattle.std.specs.Str.{is_utf8, chars, NoCharPasses, NonePass, IsAscii}
use Rattle.std.specs.List.{list_all}
use Rattle.program_tokens.proofs.WordUtf8.{word_goes_on}
use Rattle.texts.proofs.Conjunction.{split}
use Rattle.program_tokens.specs.Words.{begins_word, in_word, is_word, is_name, in_text, is_text, keyword_of}

-- ---- strings

-- the parts of the test
pub record IsGood (s : List ℕ) : Type 0 where
  pub utf8 : is_utf8 s ≡ true
  pub some : nat_le 1 (length (chars s)) ≡ true
  pub few : nat_le (length (chars s)) 64 ≡ true
  pub good : list_all in_text (chars s) ≡ true

pub good_text : (s : List ℕ) → is_text s ≡ true → IsGood s
unfolding is_text
good_text s h =
    let a = split (is_utf8 s && nat_le 1 (length (chars s)) && nat_le (length (chars s)) 64) (list_all in_text (chars s)) h in
    let b = split (is_utf8 s && nat_le 1 (length (chars s))) (nat_le (length (chars s)) 64) a.0 in
    let c = split (is_utf8 s) (nat_le 1 (length (chars s))) b.0 in
    record { utf8 = c.0; some = c.1; few = b.1; good = a.1 }

no_quote_in : (c : ℕ) → in_text c ≡ true → eqb c 34 ≡ false
unfolding in_text
no_quote_in c h = grind (arith, nat_tests)

none_quoted : (cs : List ℕ) → list_all in_text cs ≡ true → NonePass (λ c. eqb c 34) cs
none_quoted [] h = tt
none_quoted (c ∷ cs) h = let p = split (in_text c) (list_all in_text cs) h in (no_quote_in c p.0, none_quoted cs p.1)

quote_is : (b : ℕ) → eqb b 34 ≡ true → b < 128
quote_is b h = grind (arith, nat_tests)

no_quote_at : (s : List ℕ) → NoCharPasses (λ c. eqb c 34) s → (i : ℕ) → i < length s → (b : Bool) → eqb (get_or s i 0) 34 ≡ b → b ≡ false
no_quote_at s h i within false e = refl
no_quote_at s h i within true e = sym e ∙ NoCharPasses-byte (λ c. eqb c 34) s i h within (quote_is (get_or s i 0) e)

from_places : (s : List ℕ) → ((i : ℕ) → i < length s → eqb (get_or s i 0) 34 ≡ false) → list_all (λ b. not (eqb b 34)) s ≡ true
from_places [] h = refl
from_places (b ∷ s) h =
    let here : eqb b 34 ≡ false = h 0 (omega arith) in
    rw here (from_places s (λ i within. let next : suc i < suc (length s) = omega arith in h (suc i) next))

pub unquoted : (s : List ℕ) → is_text s ≡ true → list_all (λ b. not (eqb b 34)) s ≡ true
unquoted s h =
    let good = good_text s h in
    let utf8 = IsUtf8-from_is_utf8 s good.utf8 in
    let none : NoCharPasses (λ c. eqb c 34) s = (chars s, encodes-chars s utf8, none_quoted (chars s) good.good) in
    from_places s (λ i within. no_quote_at s none i within (eqb (get_or s i 0) 34) refl)

-- ---- names

letter_good : (b : ℕ) → in_word b ≡ true → in_text b ≡ true
unfolding in_word begins_word in_text
letter_good b h = grind (arith, nat_tests)

letter_ascii : (b : ℕ) → in_word b ≡ true → b < 128
unfolding in_word begins_word
letter_ascii b h = grind (arith, nat_tests)

letters_good : (bs : List ℕ) → list_all in_word bs ≡ true → list_all in_text bs ≡ true
letters_good [] h = refl
letters_good (b ∷ bs) h = let p = split (in_word b) (list_all in_word bs) h in rw (letter_good b p.0) (letters_good bs p.1)

letters_ascii : (bs : List ℕ) → list_all in_word bs ≡ true → IsAscii bs
letters_ascii [] h = IsAscii-nil
letters_ascii (b ∷ bs) h = let p = split (in_word b) (list_all in_word bs) h in IsAscii-cons b bs (letter_ascii b p.0) (letters_ascii bs p.1)

word_text : (w : List ℕ) → IsAscii w → nat_le 1 (length w) ≡ true → nat_le (length w) 64 ≡ true → list_all in_text w ≡ true → is_text w ≡ true
unfolding is_text
word_text w ascii some few good = rw (is_utf8-from_IsUtf8 w (IsUtf8-from_ascii w ascii), chars-IsAscii w ascii, some, few, good) refl

some_of : (b : ℕ) (w : List ℕ) → nat_le 1 (length (b ∷ w)) ≡ true
some_of b w = grind (arith, nat_tests)

letters_of : (w : List ℕ) → is_word w ≡ true → (list_all in_word w ≡ true) × (nat_le 1 (length w) ≡ true)
unfolding is_word
letters_of [] h = absurd cc
letters_of (b ∷ w) h = let p = split (begins_word b) (list_all in_word w) h in (word_goes_on b w p.0 p.1, some_of b w)

-- a name may stand in a string
pub name_is_text : (w : List ℕ) → is_name w ≡ true → is_text w ≡ true
unfolding is_name
name_is_text w h =
    let a = split (is_word w && nat_le (length w) 64) (is_none (keyword_of w)) h in
    let b = split (is_word w) (nat_le (length w) 64) a.0 in
    let letters = letters_of w b.0 in
    word_text w (letters_ascii w letters.0) letters.1 b.1 (letters_good w letters.0)
